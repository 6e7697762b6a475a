-- A number begins with a digit, or with a point and a digit.
use Rattle.std.proofs.Common.{◌≡◌, ℕ, Bool, true, false, ◌||◌, ◌&&◌, List, [], ◌∷◌, ◌++◌, refl, inl, inr}
use Rattle.std.specs.Prelude.{◌==◌}
use Rattle.gno_scan.specs.NumberLengths.{begins_with}
use Rattle.gno_scan.specs.Numbers.{AreDecimal, IsFloat, IsImaginary, IsInteger, IsNumber, is_decimal_digit}
use Rattle.gno_scan.specs.Numbers.AreDigits.{last, digit, digit_and_bar}
use Rattle.gno_scan.specs.Numbers.IsInteger.{decimal, hex, other_base}
use Rattle.gno_scan.specs.Numbers.IsFloat.{pointed, scaled, part_only, hex_whole, hex_pointed, hex_part_only}
use Rattle.gno_scan.specs.Numbers.IsImaginary.{integer, float}

abbrev pub is_number_front : List ℕ → Bool
is_number_front [] = false
is_number_front (b ∷ rest) = is_decimal_digit b || (b == 46 && begins_with is_decimal_digit rest)

digits_first : (digits : List ℕ) → AreDecimal digits → begins_with is_decimal_digit digits ≡ true
digits_first _ (last b h) = h
digits_first _ (digit b rest h more) = h
digits_first _ (digit_and_bar b rest h more) = h

first_longer : (word rest : List ℕ) → begins_with is_decimal_digit word ≡ true → begins_with is_decimal_digit (word ++ rest) ≡ true
first_longer [] rest h = cc
first_longer (b ∷ bs) rest h = h

front_longer : (word rest : List ℕ) → is_number_front word ≡ true → is_number_front (word ++ rest) ≡ true
front_longer [] rest h = cc
front_longer (b ∷ []) rest h = elim (is_decimal_digit b) as (λ t. (t || (b == 46 && false)) ≡ true → (t || (b == 46 && begins_with is_decimal_digit rest)) ≡ true) [
  | true ↦ λ e. refl
  | false ↦ elim (b == 46) as (λ t. (t && false) ≡ true → (t && begins_with is_decimal_digit rest) ≡ true) [ true ↦ λ e. absurd (let f : false ≡ true = e in cc) | false ↦ λ e. e ]
] h
front_longer (b ∷ c ∷ bs) rest h = h

digits_front : (word rest : List ℕ) → begins_with is_decimal_digit word ≡ true → is_number_front (word ++ rest) ≡ true
digits_front [] rest h = cc
digits_front (b ∷ bs) rest h = rw h refl

front_alone : (word : List ℕ) → begins_with is_decimal_digit word ≡ true → is_number_front word ≡ true
front_alone [] h = cc
front_alone (b ∷ bs) h = rw h refl

integer_front : (word : List ℕ) → IsInteger word → is_number_front word ≡ true
integer_front _ (decimal digits h) = front_alone digits (digits_first digits h)
integer_front _ (hex letter digits h k) = refl
integer_front _ (other_base letter digits h k) = refl

float_front : (word : List ℕ) → IsFloat word → is_number_front word ≡ true
float_front _ (pointed whole part exponent h p e) = digits_front whole (46 ∷ (part ++ exponent)) (digits_first whole h)
float_front _ (scaled whole exponent h e) = digits_front whole exponent (digits_first whole h)
float_front _ (part_only part exponent p e) = first_longer part exponent (digits_first part p)
float_front _ (hex_whole letter whole exponent h w e) = refl
float_front _ (hex_pointed letter whole part exponent h w p e) = refl
float_front _ (hex_part_only letter part exponent h p e) = refl

imaginary_front : (word : List ℕ) → IsImaginary word → is_number_front word ≡ true
imaginary_front _ (integer number h) = front_longer number (105 ∷ []) (integer_front number h)
imaginary_front _ (float number h) = front_longer number (105 ∷ []) (float_front number h)

pub number_front : (word : List ℕ) → IsNumber word → is_number_front word ≡ true
number_front word (inl h) = integer_front word h
number_front word (inr (inl h)) = float_front word h
number_front word (inr (inr h)) = imaginary_front word h
