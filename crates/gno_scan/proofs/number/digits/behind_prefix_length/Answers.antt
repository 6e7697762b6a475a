use Rattle.std.proofs.Common.{◌≡◌}
use Rattle.gno_scan.specs.Numbers.{AreBehindPrefix}
use Rattle.gno_scan.specs.NumberLengths.{behind_prefix_length, is_digit_of}
use Rattle.gno_scan.proofs.Measuring.{counted}
use Rattle.gno_scan.proofs.Integers.{behind_prefix_measure}
use Rattle.gno_scan.proofs.number.digits.behind_prefix_length.Goals as goal

pub returns-clause-longest : goal.returns-clause-longest
unfolding behind_prefix_length
returns-clause-longest c =
    let digits = c.digits_length.ensures.count in
    let count : c.max.result ≡ behind_prefix_length (is_digit_of c.args.radix) c.args.text.now = cc (c.max.ensures, digits, c.barred_length.ensures) in
    counted (AreBehindPrefix (is_digit_of c.args.radix)) (behind_prefix_length (is_digit_of c.args.radix)) (behind_prefix_measure (is_digit_of c.args.radix)) c.args.text.now c.max.result count
