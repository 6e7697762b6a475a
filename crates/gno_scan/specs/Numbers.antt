-- Numbers. Go specification, "Integer literals", "Floating-point literals" and "Imaginary literals". The digits of an
-- integer are spelled here in any decimal digits, also those of a binary or octal one: whether they are digits of its
-- base is judged afterwards.
use Rattle.std.specs.Prelude.{ℕ, ◌≡◌, ◌<◌, ◌^◌, List, [], ◌∷◌, ◌++◌, ◌==◌, ◌||◌, ◌&&◌, Bool, true, not, if◌then◌else◌, nat_le, filter, ◌⊎◌}
use Rattle.std.specs.Str.Parse.{IsNumeral, digits_value}

abbrev pub is_decimal_digit : ℕ → Bool
is_decimal_digit b = nat_le 48 b && nat_le b 57

abbrev pub is_hex_digit : ℕ → Bool
is_hex_digit b = is_decimal_digit b || ((nat_le 65 b && nat_le b 70) || (nat_le 97 b && nat_le b 102))

-- digits, between which one `_` may stand
pub data AreDigits (is_one : ℕ → Bool) : List ℕ → Type 0 where
  last : (b : ℕ) → is_one b ≡ true → AreDigits is_one (b ∷ [])
  digit : (b : ℕ) (rest : List ℕ) → is_one b ≡ true → AreDigits is_one rest → AreDigits is_one (b ∷ rest)
  digit_and_bar : (b : ℕ) (rest : List ℕ) → is_one b ≡ true → AreDigits is_one rest → AreDigits is_one (b ∷ 95 ∷ rest)

abbrev pub AreDecimal : List ℕ → Type 0
AreDecimal = AreDigits is_decimal_digit

abbrev pub AreHex : List ℕ → Type 0
AreHex = AreDigits is_hex_digit

-- `0x`, `0b` or `0o`, in either case, and maybe a `_`
abbrev pub is_hex_letter : ℕ → Bool
is_hex_letter b = b == 120 || b == 88

abbrev pub is_other_base_letter : ℕ → Bool
is_other_base_letter b = (b == 98 || b == 66) || (b == 111 || b == 79)

-- digits, with maybe a `_` before them
pub data AreBehindPrefix (is_one : ℕ → Bool) : List ℕ → Type 0 where
  plain : (digits : List ℕ) → AreDigits is_one digits → AreBehindPrefix is_one digits
  barred : (digits : List ℕ) → AreDigits is_one digits → AreBehindPrefix is_one (95 ∷ digits)

pub data IsInteger : List ℕ → Type 0 where
  decimal : (digits : List ℕ) → AreDecimal digits → IsInteger digits
  hex : (letter : ℕ) (digits : List ℕ) → is_hex_letter letter ≡ true → AreBehindPrefix is_hex_digit digits → IsInteger (48 ∷ letter ∷ digits)
  other_base : (letter : ℕ) (digits : List ℕ) → is_other_base_letter letter ≡ true → AreBehindPrefix is_decimal_digit digits → IsInteger (48 ∷ letter ∷ digits)

-- the letter of an exponent, maybe a sign, and decimal digits
abbrev pub is_sign : ℕ → Bool
is_sign b = b == 43 || b == 45

pub data IsExponent (is_mark : ℕ → Bool) : List ℕ → Type 0 where
  unsigned : (mark : ℕ) (digits : List ℕ) → is_mark mark ≡ true → AreDecimal digits → IsExponent is_mark (mark ∷ digits)
  signed : (mark sign : ℕ) (digits : List ℕ) → is_mark mark ≡ true → is_sign sign ≡ true → AreDecimal digits → IsExponent is_mark (mark ∷ sign ∷ digits)

-- `e` or `E`, and `p` or `P`
abbrev pub is_decimal_mark : ℕ → Bool
is_decimal_mark b = b == 101 || b == 69

abbrev pub is_hex_mark : ℕ → Bool
is_hex_mark b = b == 112 || b == 80

-- nothing, or an exponent
abbrev pub IsMaybeExponent : List ℕ → Type 0
IsMaybeExponent word = (word ≡ []) ⊎ IsExponent is_decimal_mark word

abbrev pub AreMaybeDecimal : List ℕ → Type 0
AreMaybeDecimal word = (word ≡ []) ⊎ AreDecimal word

pub data IsFloat : List ℕ → Type 0 where
  pointed : (whole part exponent : List ℕ) → AreDecimal whole → AreMaybeDecimal part → IsMaybeExponent exponent → IsFloat (whole ++ 46 ∷ (part ++ exponent))
  scaled : (whole exponent : List ℕ) → AreDecimal whole → IsExponent is_decimal_mark exponent → IsFloat (whole ++ exponent)
  part_only : (part exponent : List ℕ) → AreDecimal part → IsMaybeExponent exponent → IsFloat (46 ∷ (part ++ exponent))
  hex_whole : (letter : ℕ) (whole exponent : List ℕ) → is_hex_letter letter ≡ true → AreBehindPrefix is_hex_digit whole → IsExponent is_hex_mark exponent → IsFloat (48 ∷ letter ∷ (whole ++ exponent))
  hex_pointed : (letter : ℕ) (whole part exponent : List ℕ) → is_hex_letter letter ≡ true → AreBehindPrefix is_hex_digit whole → (part ≡ []) ⊎ AreHex part → IsExponent is_hex_mark exponent → IsFloat (48 ∷ letter ∷ (whole ++ 46 ∷ (part ++ exponent)))
  hex_part_only : (letter : ℕ) (part exponent : List ℕ) → is_hex_letter letter ≡ true → AreHex part → IsExponent is_hex_mark exponent → IsFloat (48 ∷ letter ∷ 46 ∷ (part ++ exponent))

pub data IsImaginary : List ℕ → Type 0 where
  integer : (number : List ℕ) → IsInteger number → IsImaginary (number ++ 105 ∷ [])
  float : (number : List ℕ) → IsFloat number → IsImaginary (number ++ 105 ∷ [])

-- a number of Go, of any of its forms
abbrev pub IsNumber : List ℕ → Type 0
IsNumber word = IsInteger word ⊎ IsFloat word ⊎ IsImaginary word

-- the digits of a spelling without the bars between them
abbrev pub without_bars : List ℕ → List ℕ
without_bars digits = filter (λ b. not (b == 95)) digits

-- the base of an integer behind a `0` and a further byte: a digit or a bar there makes it octal
abbrev pub base_behind_zero : ℕ → ℕ
base_behind_zero letter = if is_hex_letter letter then 16 else if letter == 98 || letter == 66 then 2 else 8

-- The base of an integer and its digits. Go specification: `0x`, `0b`, `0o`, a leading `0`, or decimal.
abbrev pub base_and_digits : List ℕ → ℕ × List ℕ
base_and_digits [] = (10, [])
base_and_digits (b ∷ []) = (10, without_bars (b ∷ []))
base_and_digits (b ∷ letter ∷ rest) =
    if b == 48 then (base_behind_zero letter, if is_hex_letter letter || is_other_base_letter letter then without_bars rest else without_bars (letter ∷ rest))
    else (10, without_bars (b ∷ letter ∷ rest))

-- the integer spells this number: its digits are digits of its base, and the number is at most 2^127 - 1
pub record IsValue (word : List ℕ) (value : ℕ) : Type 0 where
  pub numeral : IsNumeral (base_and_digits word).0 (base_and_digits word).1
  pub value_is : value ≡ digits_value (base_and_digits word).0 (base_and_digits word).1
  pub not_too_wide : value < 2 ^ 127
