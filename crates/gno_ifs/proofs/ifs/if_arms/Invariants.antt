use Rattle.std.proofs.Common.{length, not, None, [], ◌∷◌}
use Rattle.gno_grammar.specs.Readers.{first}
use Rattle.gno_grammar.proofs.Loops.{Going}
use Rattle.gno_reader.specs.Scope.{reads}
use Rattle.gno_rules.specs.Kinds.{code}
use Rattle.gno_rules.specs.Statements.{is_some, alternative, with_arm, if_arms}
use Rattle.gno_rules.specs.Table.{grammar}
use Rattle.gno_rules.specs.Parts.{to}
use Rattle.gno_ifs.proofs.ifs.if_arms.Given as goal

abbrev pub invariant-loop-tokens : goal.invariant-loop-tokens
invariant-loop-tokens g l = Going code (λ arms. not (is_some arms.1)) (λ _. first (grammar (g.R.Reader.scope l.fn.reader).text) (alternative (g.R.Reader.scope l.fn.reader).text)) (λ _. reads (g.R.Reader.scope l.fn.reader) alternative) with_arm
    (reads (g.R.Reader.scope l.fn.reader) if_arms l.fn.tokens) l.arms l.tokens

abbrev pub decreases-loop-tokens : goal.decreases-loop-tokens
decreases-loop-tokens g l = length l.tokens
