-- Quoted texts: any bytes, between quotes, on one line. What is UTF-8 is std's word (RFC 3629).
use Rattle.std.specs.Prelude.{◌≡◌, ℕ, map, All, zero, suc, ◌/◌, ◌%◌, ◌==◌, ◌||◌, nat_lt, Bool, false, if◌then◌else◌, List, [], ◌∷◌, ◌++◌, codes, slice_index, take, flat_map, Option, Some, None}
use Rattle.std.specs.Char.{encode_utf8, IsScalar}
use Rattle.std.specs.Str.{is_utf8, continuation_len, byte, StartsWithNoChar}

-- a byte of a text: inside the encoding of a character, or outside of each
pub data Part : Type 0 where
  Inside : ℕ → Part
  Outside : ℕ → Part

-- whether a character begins the bytes: as many as its first byte announces are UTF-8
unfoldable pub begins_character : List ℕ → Bool
begins_character [] = false
begins_character (b ∷ bs) = is_utf8 (take (suc (continuation_len b)) (b ∷ bs))

-- the parts of bytes of which the first `more` end a character
unfoldable pub parts_after : ℕ → List ℕ → List Part
parts_after more [] = []
parts_after (suc more) (b ∷ bs) = Inside b ∷ parts_after more bs
parts_after zero (b ∷ bs) = if begins_character (b ∷ bs) then Inside b ∷ parts_after (continuation_len b) bs else Outside b ∷ parts_after zero bs

abbrev pub parts_of : List ℕ → List Part
parts_of text = parts_after zero text

-- the rule in std's words: bytes at which a character begins are inside, up to its end; else the first byte is outside; and reading goes on behind
pub record IsReadFromFront (text : List ℕ) : Type 0 where
  pub at_end : text ≡ [] → parts_of text ≡ []
  pub at_character : (c : ℕ) (rest : List ℕ) → IsScalar c → text ≡ encode_utf8 c ++ rest → parts_of text ≡ map Inside (encode_utf8 c) ++ parts_of rest
  pub at_stray : (b : ℕ) (rest : List ℕ) → StartsWithNoChar text → text ≡ b ∷ rest → parts_of text ≡ Outside b ∷ parts_of rest

-- the letter behind the backslash, of a byte that has one
unfoldable pub letter_of : ℕ → Option ℕ
letter_of b = if b == byte "\"" then Some (byte "\"")
    else if b == byte "\\" then Some (byte "\\")
    else if b == byte "\n" then Some (byte "n")
    else if b == byte "\t" then Some (byte "t")
    else if b == byte "\r" then Some (byte "r")
    else None

abbrev pub hex_digit : ℕ → ℕ
hex_digit n = slice_index (codes "0123456789abcdef") n

-- `\x` and two digits
unfoldable pub hex_escape : ℕ → List ℕ
hex_escape b = codes "\\x" ++ (hex_digit (b / 16) ∷ hex_digit (b % 16) ∷ [])

unfoldable pub is_control : ℕ → Bool
is_control b = nat_lt b 0x20 || (b == 0x7F)

-- the spelling of a byte inside a character, whose letter is given
abbrev pub spelling_with : Option ℕ → ℕ → List ℕ
spelling_with (Some letter) b = byte "\\" ∷ letter ∷ []
spelling_with None b = if is_control b then hex_escape b else b ∷ []

unfoldable pub spelling : Part → List ℕ
spelling (Inside b) = spelling_with (letter_of b) b
spelling (Outside b) = hex_escape b

abbrev pub spellings : List Part → List ℕ
spellings parts = flat_map spelling parts

-- the text between quotes
abbrev pub quoted : List ℕ → List ℕ
quoted text = byte "\"" ∷ (spellings (parts_of text) ++ byte "\"" ∷ [])

-- no control byte stands in the line
abbrev pub IsPlain : List ℕ → Type 0
IsPlain line = All (λ b. is_control b ≡ false) line
