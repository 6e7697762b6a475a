use Rattle.gno_constants.proofs.Complements.{one}
use Rattle.gno_constants.proofs.bits.bits_of_one.Goals as goal

pub returns : goal.returns
returns c = one c.args.x c.args.y c.ranges.x c.ranges.y
