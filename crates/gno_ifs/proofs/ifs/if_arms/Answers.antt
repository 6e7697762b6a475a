use Rattle.std.proofs.Common.{sym, rules, not, None, [], ◌∷◌}
use Rattle.gno_grammar.specs.Readers.{first, null}
use Rattle.gno_grammar.proofs.Loops.{turn_shorter, turn_goes, go_end}
use Rattle.gno_reader.specs.Scope.{reads}
use Rattle.gno_reader.proofs.Turns.{turn_fails, repeat_going}
use Rattle.gno_rules.specs.Kinds.{code}
use Rattle.gno_rules.specs.Statements.{is_some, alternative, with_arm, if_arms, if_arm}
use Rattle.gno_rules.specs.Table.{grammar}
use Rattle.gno_rules.specs.Parts.{to}
use Rattle.gno_ifs.proofs.Turns.{takes_alternative}
use Rattle.gno_ifs.proofs.ifs.if_arms.Goals as goal

pub returns-in_err-arms-2 : goal.returns-in_err-arms-2
unfolding first null alternative
returns-in_err-arms-2 g c =
    let e = turn_fails (λ arms. not (is_some arms.1)) (λ _. first (grammar (g.R.Reader.scope c.args.reader.now).text) (alternative (g.R.Reader.scope c.args.reader.now).text)) (λ _. reads (g.R.Reader.scope c.args.reader.now) alternative) with_arm _
    c.loop-tokens.arms c.loop-tokens.tokens _ _ (sym c.loop-tokens-test.ensures) c.in_err-arms-2.ensures c.loop-tokens.invariant in
    search (rules, e)

pub loop-tokens-smaller : goal.loop-tokens-smaller
loop-tokens-smaller g c = turn_shorter code (λ arms. not (is_some arms.1)) (λ _. first (grammar (g.R.Reader.scope c.args.reader.now).text) (alternative (g.R.Reader.scope c.args.reader.now).text)) (λ _. reads (g.R.Reader.scope c.args.reader.now) alternative) with_arm
    c.loop-tokens.arms c.loop-tokens.tokens _ _ (λ b mid. takes_alternative (g.R.Reader.scope c.args.reader.now) _ b mid) c.in_ok-arms-2.ensures

pub loop-tokens-preserved : goal.loop-tokens-preserved
unfolding first null alternative
loop-tokens-preserved g c = turn_goes code (λ arms. not (is_some arms.1)) (λ _. first (grammar (g.R.Reader.scope c.args.reader.now).text) (alternative (g.R.Reader.scope c.args.reader.now).text)) (λ _. reads (g.R.Reader.scope c.args.reader.now) alternative) with_arm _
    c.loop-tokens.arms c.loop-tokens.tokens _ _ (λ b mid. takes_alternative (g.R.Reader.scope c.args.reader.now) _ b mid) (sym c.loop-tokens-test.ensures) c.in_ok-arms-2.ensures c.loop-tokens.invariant

pub returns : goal.returns
unfolding first null alternative
returns g c = go_end code (λ arms. not (is_some arms.1)) (λ _. first (grammar (g.R.Reader.scope c.args.reader.now).text) (alternative (g.R.Reader.scope c.args.reader.now).text)) (λ _. reads (g.R.Reader.scope c.args.reader.now) alternative) with_arm _
    c.loop-tokens.arms c.loop-tokens.tokens (sym c.loop-tokens-test.ensures) c.loop-tokens.invariant

pub loop-tokens-init : goal.loop-tokens-init
unfolding if_arms
loop-tokens-init g c = repeat_going (g.R.Reader.scope c.args.reader.now) (λ arms. not (is_some arms.1)) with_arm (λ text. to (λ arm. (arm ∷ [], None)) (if_arm text)) alternative c.args.tokens.now _ _ c.in_ok-arms.ensures
