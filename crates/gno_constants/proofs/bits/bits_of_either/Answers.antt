use Rattle.gno_constants.proofs.Complements.{either}
use Rattle.gno_constants.proofs.bits.bits_of_either.Goals as goal

pub returns : goal.returns
returns c = either c.args.x c.args.y c.ranges.x c.ranges.y
