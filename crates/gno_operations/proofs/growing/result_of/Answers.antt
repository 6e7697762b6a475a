use Rattle.gno_judging.specs.Found.{ValueStands as value}
use Rattle.gno_typing.specs.declared.value.Standing.TheVariants as standing
use Rattle.gno_operations.proofs.growing.result_of.Goals as goal

pub returns : goal.returns
returns c table u x is h = value.typed c.args.pos standing.Result c.args.calls is h
