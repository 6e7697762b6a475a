-- What escapes stand for. Go specification, "Rune literals" and "String literals".
use Rattle.std.specs.Prelude.{ℕ, ◌≡◌, ◌<◌, ◌⊎◌, List, [], ◌∷◌, ◌==◌, Option, Some, None, if◌then◌else◌}
use Rattle.std.specs.Char.{encode_utf8, IsScalar}
use Rattle.std.specs.Str.{byte}
use Rattle.std.specs.Str.Parse.{digits_value}
use Rattle.gno_scan.specs.Escapes.{AreDigitsIn}
use Rattle.gno_literals.specs.declared.escape.Escaped.{Escaped}
use Rattle.gno_literals.specs.declared.escape.Escaped.TheVariants.{Byte, Character}

-- the byte that a letter behind a backslash stands for, or a backslash
abbrev pub letter_value : ℕ → Option ℕ
letter_value b =
    if b == byte "a" then Some 7
    else if b == byte "b" then Some 8
    else if b == byte "f" then Some 12
    else if b == byte "n" then Some 10
    else if b == byte "r" then Some 13
    else if b == byte "t" then Some 9
    else if b == byte "v" then Some 11
    else if b == byte "\\" then Some 92
    else None

-- an escape in a literal between such quotes, and the byte or the character that it stands for
pub data EscapeValue (quote : ℕ) : List ℕ → Escaped → Type 0 where
  letter : (b value : ℕ) → letter_value b ≡ Some value → EscapeValue quote (byte "\\" ∷ b ∷ []) (Byte value)
  quote_itself : EscapeValue quote (byte "\\" ∷ quote ∷ []) (Byte quote)
  octal : (digits : List ℕ) → AreDigitsIn 8 3 digits → digits_value 8 digits < 256 → EscapeValue quote (byte "\\" ∷ digits) (Byte (digits_value 8 digits))
  hex : (digits : List ℕ) → AreDigitsIn 16 2 digits → EscapeValue quote (byte "\\" ∷ byte "x" ∷ digits) (Byte (digits_value 16 digits))
  little : (digits : List ℕ) → AreDigitsIn 16 4 digits → IsScalar (digits_value 16 digits) → EscapeValue quote (byte "\\" ∷ byte "u" ∷ digits) (Character (digits_value 16 digits))
  big : (digits : List ℕ) → AreDigitsIn 16 8 digits → IsScalar (digits_value 16 digits) → EscapeValue quote (byte "\\" ∷ byte "U" ∷ digits) (Character (digits_value 16 digits))

-- the bytes of it in a string: a character has those of its encoding
abbrev pub escaped_bytes : Escaped → List ℕ
escaped_bytes (Byte b) = b ∷ []
escaped_bytes (Character c) = encode_utf8 c

-- the number of it in a rune literal
abbrev pub escaped_number : Escaped → ℕ
escaped_number (Byte b) = b
escaped_number (Character c) = c

-- what one byte behind a backslash stands for: a letter, a backslash or the quote
abbrev pub ShortValue : ℕ → ℕ → ℕ → Type 0
ShortValue quote b value = ((b ≡ quote) × (value ≡ quote)) ⊎ (letter_value b ≡ Some value)
