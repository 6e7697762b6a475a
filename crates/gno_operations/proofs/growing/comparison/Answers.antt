use Rattle.std.proofs.Common.{refl}
use Rattle.gno_judging.specs.Found.{PendingStands as pending, ValueStands as value}
use Rattle.gno_judging.specs.Waiting.{IsWaiting as waiting}
use Rattle.gno_typing.specs.declared.value.Waits.TheVariants as waits
use Rattle.gno_operations.proofs.growing.comparison.Goals as goal

pub returns : goal.returns
returns c table u b x y is boxed left right = value.waiting c.args.pos waits.Boolean c.args.calls (pending.comparison c.args.pos c.args.operator refl refl is boxed left right) (waiting.comparison c.args.pos c.args.operator u b x y refl)
