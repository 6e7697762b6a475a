use Rattle.std.proofs.Common.{length, ◌++◌}
use Rattle.gno_grammar.proofs.Loops.{Going}
use Rattle.gno_reader.specs.Scope.{reads}
use Rattle.gno_rules.specs.Kinds.{code}
use Rattle.gno_rules.specs.Parts.{always}
use Rattle.gno_rules.specs.Declarations.{imports}
use Rattle.gno_declarations.proofs.Turns.{next_imports, IMPORT}
use Rattle.gno_declarations.proofs.import.imports.Given as goal

abbrev pub invariant-loop-imports : goal.invariant-loop-imports
invariant-loop-imports g l = Going code always (λ _. IMPORT) (λ _. reads (g.R.Reader.scope l.reader) next_imports) (λ xs ys. xs ++ ys)
    (reads (g.R.Reader.scope l.reader) imports l.fn.tokens) l.imports l.tokens

abbrev pub decreases-loop-imports : goal.decreases-loop-imports
decreases-loop-imports g l = length l.tokens
