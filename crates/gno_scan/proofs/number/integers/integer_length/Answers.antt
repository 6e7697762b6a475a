use Rattle.std.proofs.Common.{◌≡◌}
use Rattle.gno_scan.specs.Numbers.{IsInteger}
use Rattle.gno_scan.specs.NumberLengths.{integer_length}
use Rattle.gno_scan.proofs.Measuring.{counted}
use Rattle.gno_scan.proofs.Integers.{integer_measure}
use Rattle.gno_scan.proofs.number.integers.integer_length.Goals as goal

pub returns-clause-longest : goal.returns-clause-longest
unfolding integer_length
returns-clause-longest c =
    let digits = c.digits_length.ensures.count in
    let count : c.max-2.result ≡ integer_length c.args.text.now = cc (c.max-2.ensures, c.max.ensures, digits, c.hex_length.ensures, c.other_base_length.ensures) in
    counted IsInteger integer_length integer_measure c.args.text.now c.max-2.result count
