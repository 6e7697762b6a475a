use Rattle.std.proofs.Common.{arith}
use Rattle.std.proofs.lemmas.Int.{ints}
use Rattle.gno_constants.proofs.Shifts.{too_far}
use Rattle.gno_constants.proofs.shift.shift_left.Goals as goal

pub returns-then-count-gt127 : goal.returns-then-count-gt127
returns-then-count-gt127 c = too_far c.args.value c.args.count c.if-value-eq0.false (omega (arith, ints))
