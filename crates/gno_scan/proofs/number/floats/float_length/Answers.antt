use Rattle.std.proofs.Common.{◌≡◌}
use Rattle.gno_scan.specs.Numbers.{IsFloat}
use Rattle.gno_scan.specs.NumberLengths.{float_length}
use Rattle.gno_scan.proofs.Measuring.{counted}
use Rattle.gno_scan.proofs.Numbers.{float_measure}
use Rattle.gno_scan.proofs.number.floats.float_length.Goals as goal

pub returns-clause-longest : goal.returns-clause-longest
unfolding float_length
returns-clause-longest c =
    let count : c.max.result ≡ float_length c.args.text.now = cc (c.max.ensures, c.decimal_float_length.ensures.count, c.hex_float_length.ensures.count) in
    counted IsFloat float_length float_measure c.args.text.now c.max.result count
