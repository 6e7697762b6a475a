-- Escapes and characters in rune literals and interpreted strings. Go specification, "Rune literals" and "String literals".
use Rattle.std.specs.Prelude.{ℕ, ◌≡◌, ◌≢◌, ◌<◌, ◌≤◌, List, [], ◌∷◌, ◌++◌, ◌==◌, Bool, true, length, codes}
use Rattle.std.specs.List.{list_any}
use Rattle.std.specs.Char.{encode_utf8, IsScalar}
use Rattle.std.specs.Str.{byte}
use Rattle.std.specs.Str.Parse.{AllDigits, digits_value}

-- the letter of an escape of one letter, or a backslash
abbrev pub is_escape_letter : ℕ → Bool
is_escape_letter b = list_any (λ letter. b == letter) (codes "abfnrtv\\")

-- so many digits in a base
pub record AreDigitsIn (base count : ℕ) (digits : List ℕ) : Type 0 where
  pub size : length digits ≡ count
  pub each : AllDigits base digits

-- an escape in a literal between such quotes
pub data IsEscape (quote : ℕ) : List ℕ → Type 0 where
  letter : (b : ℕ) → is_escape_letter b ≡ true → IsEscape quote (byte "\\" ∷ b ∷ [])
  quote_itself : IsEscape quote (byte "\\" ∷ quote ∷ [])
  octal : (digits : List ℕ) → AreDigitsIn 8 3 digits → digits_value 8 digits < 256 → IsEscape quote (byte "\\" ∷ digits)
  hex : (digits : List ℕ) → AreDigitsIn 16 2 digits → IsEscape quote (byte "\\" ∷ byte "x" ∷ digits)
  little : (digits : List ℕ) → AreDigitsIn 16 4 digits → IsScalar (digits_value 16 digits) → IsEscape quote (byte "\\" ∷ byte "u" ∷ digits)
  big : (digits : List ℕ) → AreDigitsIn 16 8 digits → IsScalar (digits_value 16 digits) → IsEscape quote (byte "\\" ∷ byte "U" ∷ digits)

-- escapes, and bytes that are no backslash, one behind the other
pub data AreParts (quote : ℕ) : List ℕ → Type 0 where
  nothing : AreParts quote []
  plain : (b : ℕ) (rest : List ℕ) → b ≢ byte "\\" → AreParts quote rest → AreParts quote (b ∷ rest)
  escape : (word rest : List ℕ) → IsEscape quote word → AreParts quote rest → AreParts quote (word ++ rest)

-- At so many bytes into the text stands the first backslash with which no escape begins: only parts stand before it.
pub record IsBadEscape (quote : ℕ) (inside : List ℕ) (at : ℕ) : Type 0 where
  pub front : List ℕ
  pub rest : List ℕ
  pub split : inside ≡ front ++ byte "\\" ∷ rest
  pub place : at ≡ length front
  pub parts : AreParts quote front
  pub no_escape : (word more : List ℕ) → IsEscape quote word → byte "\\" ∷ rest ≡ word ++ more → ⊥

-- one character or one escape; a byte of no character counts as one
pub data IsOneCharacter (quote : ℕ) : List ℕ → Type 0 where
  character : (c : ℕ) → IsScalar c → c ≢ byte "\\" → IsOneCharacter quote (encode_utf8 c)
  stray : (b : ℕ) → 128 ≤ b → IsOneCharacter quote (b ∷ [])
  escape : (word : List ℕ) → IsEscape quote word → IsOneCharacter quote word
