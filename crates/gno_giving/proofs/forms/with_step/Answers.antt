use Rattle.std.proofs.Common.{rules}
use Rattle.gno_giving.proofs.StandingForms.{new_step, with_step_by}
use Rattle.gno_giving.proofs.forms.with_step.Goals as goal

pub returns-in_ok-push-in-Primary-clause-stands : goal.returns-in_ok-push-in-Primary-clause-stands
returns-in_ok-push-in-Primary-clause-stands c table y s h k = with_step_by table c.args.form c.args.step _ (search rules) y s h k

pub returns-in_ok-push-in_default : goal.returns-in_ok-push-in_default
returns-in_ok-push-in_default c =
    let e = new_step c.args.form c.args.step c.in_ok-operand-in_default.operand c.new-steps.result c.push-in_default.new.self c.in_default.not-Primary c.in_ok-operand-in_default.ensures.is c.new-steps.ensures c.in_ok-push-in_default.ensures.ok in
    record { is = e; stands = λ table y s h k. with_step_by table c.args.form c.args.step _ e y s h k }
