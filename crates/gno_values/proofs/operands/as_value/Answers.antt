use Rattle.gno_values.proofs.Values.{the_method, the_value}
use Rattle.gno_values.proofs.operands.as_value.Goals as goal

pub returns-in-Value : goal.returns-in-Value
returns-in-Value c table y is = the_value table c.args.faults.now c.in-Value.value c.args.x y c.in-Value.is is

pub returns-in_ok-value-in-Method : goal.returns-in_ok-value-in-Method
returns-in_ok-value-in-Method c table y is = the_method table c.args.faults.now c.in-Method.pos c.in-Method.of c.in-Method.calls c.in-Method.form c.in-Method.bound c.in_ok-value-in-Method.value c.args.x y c.in-Method.is is
    (λ s b d own h way. c.in_ok-value-in-Method.ensures table s b d own h way)
