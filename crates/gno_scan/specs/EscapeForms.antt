-- What stands behind the backslash of an escape, form by form.
use Rattle.std.specs.Prelude.{ℕ, ◌≡◌, ◌<◌, ◌⊎◌, List, ◌∷◌, true, take, drop}
use Rattle.std.specs.Char.{IsScalar}
use Rattle.std.specs.Str.Parse.{digits_value}
use Rattle.gno_scan.specs.Escapes.{AreDigitsIn, is_escape_letter}

-- one letter, a backslash or the quote
abbrev pub IsShort : ℕ → ℕ → Type 0
IsShort quote b = (b ≡ quote) ⊎ (is_escape_letter b ≡ true)

-- three octal digits of the number of a byte
abbrev pub BeginsOctal : List ℕ → Type 0
BeginsOctal text = AreDigitsIn 8 3 (take 3 text) × (digits_value 8 (take 3 text) < 256)

-- a letter, and so many hexadecimal digits
abbrev pub BeginsHex : ℕ → ℕ → List ℕ → Type 0
BeginsHex letter count text = (text ≡ letter ∷ drop 1 text) × AreDigitsIn 16 count (take count (drop 1 text))

-- the same, where they write the number of a character
abbrev pub BeginsScalar : ℕ → ℕ → List ℕ → Type 0
BeginsScalar letter count text = BeginsHex letter count text × IsScalar (digits_value 16 (take count (drop 1 text)))
