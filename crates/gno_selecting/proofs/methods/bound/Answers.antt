use Rattle.gno_judging.specs.Found.{OperandStands as operand}
use Rattle.gno_judging.specs.Stands.{BoundStands as bound}
use Rattle.gno_selecting.proofs.methods.bound.Goals as goal

pub returns : goal.returns
returns c table u w t y r is form rec = operand.method c.args.place c.args.x.calls is form (bound.bound c.args.as_place c.args.holder.pointer c.args.way c.args.method.name c.args.method.«package» rec)
