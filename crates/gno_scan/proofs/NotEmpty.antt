-- No number is the empty text.
use Rattle.std.proofs.Common.{◌∷◌, ◌++◌, arith, length-append}
use Rattle.gno_scan.specs.Numbers.{IsInteger, IsFloat, is_decimal_digit}
use Rattle.gno_scan.specs.Numbers.IsInteger.{decimal, hex, other_base}
use Rattle.gno_scan.specs.Numbers.IsFloat.{pointed, scaled, part_only, hex_whole, hex_pointed, hex_part_only}
use Rattle.gno_scan.proofs.Measuring.{AreNotEmpty}
use Rattle.gno_scan.proofs.Integers.{digits_some}

pub integer_some : AreNotEmpty IsInteger
integer_some word (decimal digits h) = digits_some is_decimal_digit digits h
integer_some word (hex letter digits h k) = omega arith
integer_some word (other_base letter digits h k) = omega arith

pub float_some : AreNotEmpty IsFloat
float_some word (pointed whole part exponent h p e) = let full = digits_some is_decimal_digit whole h in omega (arith, length-append whole (46 ∷ (part ++ exponent)))
float_some word (scaled whole exponent h e) = let full = digits_some is_decimal_digit whole h in omega (arith, length-append whole exponent)
float_some word (part_only part exponent p e) = omega arith
float_some word (hex_whole letter whole exponent h w e) = omega arith
float_some word (hex_pointed letter whole part exponent h w p e) = omega arith
float_some word (hex_part_only letter part exponent h p e) = omega arith
