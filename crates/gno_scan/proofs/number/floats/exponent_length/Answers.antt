use Rattle.std.proofs.Common.{◌≡◌, arith}
use Rattle.std.proofs.lemmas.Grind.{common_steps}
use Rattle.gno_scan.specs.Numbers.{IsExponent}
use Rattle.gno_scan.specs.NumberLengths.{exponent_length, is_mark_of}
use Rattle.gno_scan.proofs.Measuring.{counted}
use Rattle.gno_scan.proofs.Exponents.{exponent_measure}
use Rattle.gno_scan.proofs.number.floats.exponent_length.Goals as goal

pub returns-then-is_mark_of-clause-longest : goal.returns-then-is_mark_of-clause-longest
unfolding exponent_length
returns-then-is_mark_of-clause-longest c =
    let count : c.behind.result ≡ exponent_length (is_mark_of c.args.radix) c.args.text.now = grind (arith, common_steps) in
    counted (IsExponent (is_mark_of c.args.radix)) (exponent_length (is_mark_of c.args.radix)) (exponent_measure (is_mark_of c.args.radix)) c.args.text.now c.behind.result count
