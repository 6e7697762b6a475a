use Rattle.gno_constants.proofs.Shifts.{power}
use Rattle.gno_constants.proofs.shift.power.Goals as goal

pub returns : goal.returns
returns c = power c.args.exponent c.requires
