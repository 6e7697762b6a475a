use Rattle.std.proofs.Common.{length}
use Rattle.gno_grammar.specs.Readers.{first}
use Rattle.gno_grammar.proofs.Loops.{Going}
use Rattle.gno_reader.specs.Scope.{reads}
use Rattle.gno_rules.specs.Kinds.{code}
use Rattle.gno_rules.specs.Parts.{always, with_last, names}
use Rattle.gno_rules.specs.Table.{grammar}
use Rattle.gno_reader.proofs.Turns.{further_name}
use Rattle.gno_reader.proofs.name.names.Given as goal

abbrev pub invariant-loop-names : goal.invariant-loop-names
invariant-loop-names g l =
    Going code always (λ _. first (grammar (g.R.Reader.scope l.fn.reader).text) (further_name (g.R.Reader.scope l.fn.reader).text)) (λ _. reads (g.R.Reader.scope l.fn.reader) further_name) with_last
    (reads (g.R.Reader.scope l.fn.reader) names l.fn.tokens) l.names l.tokens

abbrev pub decreases-loop-names : goal.decreases-loop-names
decreases-loop-names g l = length l.tokens
