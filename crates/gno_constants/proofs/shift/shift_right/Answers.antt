use Rattle.std.proofs.Common.{arith}
use Rattle.std.proofs.lemmas.Int.{ints, to_z-of_z}
use Rattle.std.specs.Int.{w128}
use Rattle.gno_constants.proofs.Shifts.{right}
use Rattle.gno_constants.proofs.shift.shift_right.Goals as goal

pub returns : goal.returns
returns c =
    right c.args.value c.args.count _ c.min.result c.ranges.value (record { sfits = c.min.type_inv }) (omega (arith, ints)) (to_z-of_z w128 c.args.count c.ranges.count)
    c.min.ensures.value
