-- How many bytes the parts of a number have that a text begins with, as they are counted from left to right. Each count
-- is 0 where the text begins with no such part. The contracts of the readers say that it is the length of the longest one.
use Rattle.std.specs.Prelude.{ℕ, ◌+◌, List, [], ◌∷◌, ◌==◌, ◌||◌, ◌&&◌, Bool, false, if◌then◌else◌, drop, max}
use Rattle.gno_scan.specs.declared.number.digits.Radix.{Radix}
use Rattle.gno_scan.specs.declared.number.digits.Radix.TheVariants.{Decimal, Hex}
use Rattle.gno_scan.specs.Numbers.{is_decimal_digit, is_hex_digit, is_decimal_mark, is_hex_mark, is_sign, is_hex_letter, is_other_base_letter}

-- the digits of a base, and the letters by which an exponent begins there
abbrev pub is_digit_of : Radix → ℕ → Bool
is_digit_of Decimal = is_decimal_digit
is_digit_of Hex = is_hex_digit

abbrev pub is_mark_of : Radix → ℕ → Bool
is_mark_of Decimal = is_decimal_mark
is_mark_of Hex = is_hex_mark

abbrev pub begins_with : (ℕ → Bool) → List ℕ → Bool
begins_with is_one [] = false
begins_with is_one (b ∷ rest) = is_one b

-- something of some bytes behind k bytes, or nothing
abbrev pub behind : ℕ → ℕ → ℕ
behind k count = if count == 0 then 0 else k + count

-- two parts, of which neither may be missing
abbrev pub joined : ℕ → ℕ → ℕ
joined first second = if first == 0 then 0 else behind first second

-- what is counted behind a byte of a class
abbrev pub led_length : (ℕ → Bool) → (List ℕ → ℕ) → List ℕ → ℕ
led_length is_first count [] = 0
led_length is_first count (b ∷ rest) = if is_first b then behind 1 (count rest) else 0

-- what is counted behind what is counted first
abbrev pub joined_length : (List ℕ → ℕ) → (List ℕ → ℕ) → List ℕ → ℕ
joined_length first second text = joined (first text) (second (drop (first text) text))

-- digits go on with a digit, or with a `_` and a digit
abbrev pub goes_on : (ℕ → Bool) → List ℕ → Bool
goes_on is_one [] = false
goes_on is_one (b ∷ rest) = is_one b || (b == 95 && begins_with is_one rest)

-- how far digits go on, where a digit stands before the text or at its front
unfoldable pub run_length : (ℕ → Bool) → List ℕ → ℕ
run_length is_one [] = 0
run_length is_one (b ∷ rest) = if goes_on is_one (b ∷ rest) then 1 + run_length is_one rest else 0

-- digits, between which one `_` may stand
unfoldable pub digits_length : (ℕ → Bool) → List ℕ → ℕ
digits_length is_one text = if begins_with is_one text then run_length is_one text else 0

abbrev pub is_bar : ℕ → Bool
is_bar b = b == 95

abbrev pub is_zero : ℕ → Bool
is_zero b = b == 48

abbrev pub is_point : ℕ → Bool
is_point b = b == 46

-- digits, with maybe a `_` before them
unfoldable pub behind_prefix_length : (ℕ → Bool) → List ℕ → ℕ
behind_prefix_length is_one text = max (digits_length is_one text) (led_length is_bar (digits_length is_one) text)

-- decimal digits, with maybe a sign before them
unfoldable pub signed_length : List ℕ → ℕ
signed_length text = max (digits_length is_decimal_digit text) (led_length is_sign (digits_length is_decimal_digit) text)

-- a letter and such digits
unfoldable pub exponent_length : (ℕ → Bool) → List ℕ → ℕ
exponent_length is_mark text = led_length is_mark signed_length text

-- a `0` and a letter of a class
abbrev pub has_prefix : (ℕ → Bool) → List ℕ → Bool
has_prefix is_letter [] = false
has_prefix is_letter (b ∷ []) = false
has_prefix is_letter (b ∷ letter ∷ rest) = is_zero b && is_letter letter

-- what is counted behind them
abbrev pub prefixed_length : (ℕ → Bool) → (List ℕ → ℕ) → List ℕ → ℕ
prefixed_length is_letter count text = if has_prefix is_letter text then behind 2 (count (drop 2 text)) else 0

-- integers: behind `0b` or `0o`, behind `0x`, and of any form
unfoldable pub other_base_length : List ℕ → ℕ
other_base_length text = prefixed_length is_other_base_letter (behind_prefix_length is_decimal_digit) text

unfoldable pub hex_length : List ℕ → ℕ
hex_length text = prefixed_length is_hex_letter (behind_prefix_length is_hex_digit) text

unfoldable pub integer_length : List ℕ → ℕ
integer_length text = max (digits_length is_decimal_digit text) (max (hex_length text) (other_base_length text))

-- a point, and maybe digits behind it
unfoldable pub part_length : (ℕ → Bool) → List ℕ → ℕ
part_length is_one [] = 0
part_length is_one (b ∷ rest) = if is_point b then 1 + digits_length is_one rest else 0

-- a mantissa with a point, and any mantissa, by the count of what may stand before the point
unfoldable pub pointed_length : (ℕ → Bool) → (List ℕ → ℕ) → List ℕ → ℕ
pointed_length is_one whole text = max (joined_length whole (part_length is_one) text) (led_length is_point (digits_length is_one) text)

unfoldable pub mantissa_length : (ℕ → Bool) → (List ℕ → ℕ) → List ℕ → ℕ
mantissa_length is_one whole text = max (whole text) (pointed_length is_one whole text)

-- what a float's whole part is in a base
abbrev pub whole_length_of : Radix → List ℕ → ℕ
whole_length_of Decimal = digits_length is_decimal_digit
whole_length_of Hex = behind_prefix_length is_hex_digit

-- a mantissa and an exponent
unfoldable pub scaled_length : (ℕ → Bool) → (ℕ → Bool) → (List ℕ → ℕ) → List ℕ → ℕ
scaled_length is_one is_mark whole text = joined_length (mantissa_length is_one whole) (exponent_length is_mark) text

-- floats: decimal ones, hexadecimal ones, and all
unfoldable pub decimal_float_length : List ℕ → ℕ
decimal_float_length text =
    max (scaled_length is_decimal_digit is_decimal_mark (digits_length is_decimal_digit) text) (pointed_length is_decimal_digit (digits_length is_decimal_digit) text)

unfoldable pub hex_float_length : List ℕ → ℕ
hex_float_length text = prefixed_length is_hex_letter (scaled_length is_hex_digit is_hex_mark (behind_prefix_length is_hex_digit)) text

unfoldable pub float_length : List ℕ → ℕ
float_length text = max (decimal_float_length text) (hex_float_length text)

-- integers and floats
unfoldable pub real_length : List ℕ → ℕ
real_length text = max (integer_length text) (float_length text)

-- the letter of an imaginary number
unfoldable pub last_letter_length : List ℕ → ℕ
last_letter_length [] = 0
last_letter_length (b ∷ rest) = if b == 105 then 1 else 0

unfoldable pub number_length : List ℕ → ℕ
number_length text = max (real_length text) (joined_length real_length last_letter_length text)
