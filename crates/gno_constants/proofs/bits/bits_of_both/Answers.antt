use Rattle.gno_constants.proofs.Complements.{both}
use Rattle.gno_constants.proofs.bits.bits_of_both.Goals as goal

pub returns : goal.returns
returns c = both c.args.x c.args.y c.ranges.x c.ranges.y
