use Rattle.std.proofs.Common.{rules}
use Rattle.gno_giving.proofs.StandingForms.{new_operation, with_operation_by}
use Rattle.gno_giving.proofs.forms.with_operation.Goals as goal

pub returns-in_ok-push-in-Binary-clause-stands : goal.returns-in_ok-push-in-Binary-clause-stands
returns-in_ok-push-in-Binary-clause-stands c table y o h k = with_operation_by table c.args.form c.args.operation _ (search rules) y o h k

pub returns-in_ok-push-in_default : goal.returns-in_ok-push-in_default
returns-in_ok-push-in_default c =
    let e = new_operation c.args.form c.args.operation c.in_ok-first-in_default.first c.new-rest.result c.push-in_default.new.self c.in_default.not-Binary c.in_ok-first-in_default.ensures.is c.new-rest.ensures c.in_ok-push-in_default.ensures.ok in
    record { is = e; stands = λ table y o h k. with_operation_by table c.args.form c.args.operation _ e y o h k }
