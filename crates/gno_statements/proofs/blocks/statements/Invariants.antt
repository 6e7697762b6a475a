use Rattle.std.proofs.Common.{length}
use Rattle.gno_grammar.specs.Readers.{first}
use Rattle.gno_grammar.proofs.Loops.{Going}
use Rattle.gno_reader.specs.Scope.{reads}
use Rattle.gno_rules.specs.Kinds.{code}
use Rattle.gno_rules.specs.Statements.{next_statement, with_statement, statements}
use Rattle.gno_rules.specs.Table.{grammar}
use Rattle.gno_grammar.specs.Phrases.{optional}
use Rattle.gno_rules.specs.Parts.{always, to}
use Rattle.gno_statements.proofs.blocks.statements.Given as goal

abbrev pub invariant-loop-tokens : goal.invariant-loop-tokens
invariant-loop-tokens g l = Going code always (λ _. first (grammar (g.R.Reader.scope l.fn.reader).text) (next_statement (g.R.Reader.scope l.fn.reader).text)) (λ _. reads (g.R.Reader.scope l.fn.reader) next_statement) with_statement
    (reads (g.R.Reader.scope l.fn.reader) statements l.fn.tokens) l.list l.tokens

abbrev pub decreases-loop-tokens : goal.decreases-loop-tokens
decreases-loop-tokens g l = length l.tokens
