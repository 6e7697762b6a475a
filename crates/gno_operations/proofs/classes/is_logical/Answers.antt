use Rattle.gno_operations.proofs.Operators.{either_logical, not_logical, on_bool, on_int}
use Rattle.gno_operations.proofs.classes.is_logical.Goals as goal

pub returns-in-BothTrue-clause-on_booleans : goal.returns-in-BothTrue-clause-on_booleans
returns-in-BothTrue-clause-on_booleans c = on_bool c.args.operator _ (either_logical c.args.operator c.in-BothTrue.is)

pub returns-in-BothTrue-clause-on_integers : goal.returns-in-BothTrue-clause-on_integers
returns-in-BothTrue-clause-on_integers c = on_int c.args.operator _ (either_logical c.args.operator c.in-BothTrue.is)

pub returns-in_default : goal.returns-in_default
returns-in_default c =
    let e = not_logical c.args.operator c.in_default.not-BothTrue c.in_default.not-OneTrue in
    record { on_booleans = on_bool c.args.operator _ e; on_integers = on_int c.args.operator _ e }
