-- What stands between the quotes of a rune literal or an interpreted string, and its value. Go specification, "Rune literals" and "String literals".
use Rattle.std.specs.Prelude.{ℕ, ◌≢◌, List, [], ◌∷◌, ◌++◌}
use Rattle.std.specs.Char.{encode_utf8, IsScalar}
use Rattle.std.specs.Str.{byte}
use Rattle.gno_literals.specs.declared.escape.Escaped.{Escaped}
use Rattle.gno_literals.specs.declared.escape.Escaped.TheVariants.{Byte}
use Rattle.gno_literals.specs.EscapeValues.{EscapeValue, escaped_bytes, escaped_number}

-- one character but a backslash, or one escape, and its number
pub data CharacterValue (quote : ℕ) : List ℕ → ℕ → Type 0 where
  character : (c : ℕ) → IsScalar c → c ≢ byte "\\" → CharacterValue quote (encode_utf8 c) c
  escape : (word : List ℕ) (value : Escaped) → EscapeValue quote word value → CharacterValue quote word (escaped_number value)

-- escapes, and bytes that are no backslash, one behind the other, and the bytes that they stand for
pub data PartsValue (quote : ℕ) : List ℕ → List ℕ → Type 0 where
  nothing : PartsValue quote [] []
  plain : (b : ℕ) (rest bytes : List ℕ) → b ≢ byte "\\" → PartsValue quote rest bytes → PartsValue quote (b ∷ rest) (b ∷ bytes)
  escape : (word rest bytes : List ℕ) (value : Escaped) → EscapeValue quote word value → PartsValue quote rest bytes → PartsValue quote (word ++ rest) (escaped_bytes value ++ bytes)

-- a part that may stand on a line between such quotes: an escape, or a byte but the quote, a backslash and a line feed
pub data IsPart (quote : ℕ) : List ℕ → Escaped → Type 0 where
  plain : (b : ℕ) → b ≢ quote → b ≢ byte "\\" → b ≢ byte "\n" → IsPart quote (b ∷ []) (Byte b)
  escape : (word : List ℕ) (value : Escaped) → EscapeValue quote word value → IsPart quote word value
