-- What an integer stands for, as its digits are read from left to right.
use Rattle.std.specs.Prelude.{ℕ, ◌+◌, ◌*◌, ◌^◌, List, [], ◌∷◌, ◌==◌, ◌||◌, ◌&&◌, Bool, not, nat_lt, if◌then◌else◌, Option, Some, None, option_and_then}
use Rattle.std.specs.Char.{digit_value}
use Rattle.gno_scan.specs.Numbers.{base_behind_zero, is_hex_letter, is_other_base_letter}

-- the base of an integer, as `base_and_digits` has it
abbrev pub base_of : List ℕ → ℕ
base_of [] = 10
base_of (b ∷ []) = 10
base_of (b ∷ letter ∷ rest) = if b == 48 then base_behind_zero letter else 10

-- how many bytes stand before the digits
abbrev pub prefix_length : List ℕ → ℕ
prefix_length [] = 0
prefix_length (b ∷ []) = 0
prefix_length (b ∷ letter ∷ rest) = if b == 48 then (if is_hex_letter letter || is_other_base_letter letter then 2 else 1) else 0

-- the bytes that are not left out
abbrev pub is_no_bar : ℕ → Bool
is_no_bar b = not (b == 95)

-- the number with one more digit, where that is a digit of the base and the number does not come to 2^127
unfoldable pub with_digit : ℕ → ℕ → ℕ → Option ℕ
with_digit base value b = if nat_lt (digit_value b) base && nat_lt (value * base + digit_value b) (2 ^ 127) then Some (value * base + digit_value b) else None

-- the same with any byte of the spelling: a `_` is left out
unfoldable pub with_byte : ℕ → ℕ → ℕ → Option ℕ
with_byte base value b = if is_no_bar b then with_digit base value b else Some value

-- the number that the digits write behind those of a number
unfoldable pub value_from : ℕ → ℕ → List ℕ → Option ℕ
value_from base value [] = Some value
value_from base value (b ∷ rest) = option_and_then (λ next. value_from base next rest) (with_byte base value b)
