use Rattle.std.proofs.Common.{length}
use Rattle.gno_grammar.proofs.Loops.{Going}
use Rattle.gno_reader.specs.Scope.{reads}
use Rattle.gno_rules.specs.Kinds.{code}
use Rattle.gno_rules.specs.Parts.{always, with_last}
use Rattle.gno_rules.specs.Signatures.{COMMA, further_names}
use Rattle.gno_reader.proofs.Turns.{further_name}
use Rattle.gno_reader.proofs.name.further_names.Given as goal

abbrev pub invariant-loop-names : goal.invariant-loop-names
invariant-loop-names g l = Going code always (λ _. COMMA) (λ _. reads (g.R.Reader.scope l.reader) further_name) with_last
    (reads (g.R.Reader.scope l.reader) further_names l.fn.tokens) l.names l.tokens

abbrev pub decreases-loop-names : goal.decreases-loop-names
decreases-loop-names g l = length l.tokens
