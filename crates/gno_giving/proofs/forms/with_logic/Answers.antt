use Rattle.std.proofs.Common.{rules}
use Rattle.gno_giving.proofs.StandingForms.{new_logic, with_logic_by}
use Rattle.gno_giving.proofs.forms.with_logic.Goals as goal

pub returns-in_ok-push-in-Logic-clause-stands : goal.returns-in_ok-push-in-Logic-clause-stands
returns-in_ok-push-in-Logic-clause-stands c table s y o is h k = with_logic_by table c.args.of c.args.form c.args.operation _ (search rules) s y o is h k

pub returns-in_ok-push-in_default : goal.returns-in_ok-push-in_default
returns-in_ok-push-in_default c =
    let e = new_logic c.args.of c.args.form c.args.operation c.in_ok-first-in_default.first c.new-rest.result c.push-in_default.new.self c.in_default.not-Logic c.in_ok-first-in_default.ensures.is c.new-rest.ensures c.in_ok-push-in_default.ensures.ok in
    record { is = e; stands = λ table s y o is h k. with_logic_by table c.args.of c.args.form c.args.operation _ e s y o is h k }
