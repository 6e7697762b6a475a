use Rattle.gno_operations.proofs.Seen.{no_division}
use Rattle.gno_operations.proofs.values.divides_by_zero.Goals as goal

pub returns-in_default : goal.returns-in_default
returns-in_default c table y h = no_division table c.args.operator c.args.x.now y h c.in_default.not-Constant
