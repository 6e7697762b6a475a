use Rattle.std.proofs.Common.{length}
use Rattle.gno_grammar.proofs.Loops.{Going}
use Rattle.gno_reader.specs.Scope.{reads}
use Rattle.gno_rules.specs.Kinds.{code}
use Rattle.gno_rules.specs.Parts.{always, with_last}
use Rattle.gno_rules.specs.Declarations.{top_levels}
use Rattle.gno_declarations.proofs.Turns.{next_top_level, TOP_LEVEL}
use Rattle.gno_declarations.proofs.files.top_levels.Given as goal

abbrev pub invariant-loop-top_levels : goal.invariant-loop-top_levels
invariant-loop-top_levels g l = Going code always (λ _. TOP_LEVEL) (λ _. reads (g.R.Reader.scope l.reader) next_top_level) with_last
    (reads (g.R.Reader.scope l.reader) top_levels l.fn.tokens) l.top_levels l.tokens

abbrev pub decreases-loop-top_levels : goal.decreases-loop-top_levels
decreases-loop-top_levels g l = length l.tokens
