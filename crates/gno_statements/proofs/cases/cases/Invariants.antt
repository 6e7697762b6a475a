use Rattle.std.proofs.Common.{length, not}
use Rattle.gno_grammar.specs.Readers.{first}
use Rattle.gno_grammar.proofs.Loops.{Going}
use Rattle.gno_reader.specs.Scope.{reads}
use Rattle.gno_rules.specs.Kinds.{code}
use Rattle.gno_rules.specs.Statements.{one_case, with_case, cases}
use Rattle.gno_rules.specs.Table.{grammar}
use Rattle.gno_statements.proofs.cases.cases.Given as goal

abbrev pub invariant-loop-tokens : goal.invariant-loop-tokens
invariant-loop-tokens g l = Going code (λ cs. not cs.is_open) (λ _. first (grammar (g.R.Reader.scope l.fn.reader).text) (one_case (g.R.Reader.scope l.fn.reader).text)) (λ _. reads (g.R.Reader.scope l.fn.reader) one_case) with_case
    (reads (g.R.Reader.scope l.fn.reader) cases l.fn.tokens) l.cases l.tokens

abbrev pub decreases-loop-tokens : goal.decreases-loop-tokens
decreases-loop-tokens g l = length l.tokens
