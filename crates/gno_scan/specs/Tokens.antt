-- The tokens of a text and its first fault. Go specification, "Tokens", "Semicolons" and "Source code representation"; the codes are this project's own.
use Rattle.std.specs.Prelude.{ℕ, ◌≡◌, ◌+◌, List, [], ◌∷◌, ◌++◌, ◌==◌, ◌&&◌, Bool, true, false, Option, Some, None, length, if◌then◌else◌, take, drop}
use Rattle.std.specs.Str.{byte, bytes_eq}
use Rattle.std.specs.List.{list_any}
use Rattle.gno_scan.specs.declared.kind.TokenKind.{TokenKind}
use Rattle.gno_scan.specs.declared.kind.TokenKind.TheVariants.{Name, Integer, Rune, String, Break, Continue, Fallthrough, Return, Increment, Decrement, RightParen, RightBracket, RightBrace, Semicolon}
use Rattle.gno_scan.specs.declared.piece.Piece.{Piece}
use Rattle.gno_scan.specs.declared.piece.Piece.TheVariants.{Token, OtherNumber, LineComment, GeneralComment, Blank, LineEnd}
use Rattle.gno_scan.specs.Escapes.{AreParts, IsBadEscape, IsOneCharacter}
use Rattle.gno_scan.specs.Numbers.{IsValue}
use Rattle.gno_scan.specs.Pieces.{BeginsOpen, BeginsStray, BeginsWith}

-- a token and the bytes of the text that it has: from the first of them up to the one behind the last
pub record Span : Type 0 where
  pub kind : TokenKind
  pub start : ℕ
  pub end : ℕ

pub record Fault : Type 0 where
  pub code : ℕ
  pub at : ℕ

-- behind such a token a line's end inserts a semicolon
abbrev pub closes_line : TokenKind → Bool
closes_line Name = true
closes_line Integer = true
closes_line Rune = true
closes_line String = true
closes_line Break = true
closes_line Continue = true
closes_line Fallthrough = true
closes_line Return = true
closes_line Increment = true
closes_line Decrement = true
closes_line RightParen = true
closes_line RightBracket = true
closes_line RightBrace = true
closes_line kind = false

-- a line ends in the piece: a line end, or a comment that has one
abbrev pub ends_line : Piece → List ℕ → Bool
ends_line LineEnd word = true
ends_line GeneralComment word = list_any (λ b. b == byte "\n") word
ends_line piece word = false

-- how many bytes stand before the first line feed
abbrev pub to_line_feed : List ℕ → ℕ
to_line_feed [] = 0
to_line_feed (b ∷ bs) = if b == byte "\n" then 0 else to_line_feed bs + 1

-- a piece that is no token
abbrev pub IsBetween : Piece → Type 0
IsBetween (Token kind) = ⊥
IsBetween OtherNumber = ⊥
IsBetween LineComment = Unit {0}
IsBetween GeneralComment = Unit {0}
IsBetween Blank = Unit {0}
IsBetween LineEnd = Unit {0}

-- What is wrong with a piece, and how many bytes into it: a bad escape, a rune literal of other than one character, an
-- integer that is too wide or has digits outside its base, a floating-point or imaginary literal.
pub data IsWrong : Piece → List ℕ → ℕ → ℕ → Type 0 where
  rune_escape : (inside : List ℕ) (at : ℕ) → IsBadEscape (byte "'") inside at → IsWrong (Token Rune) (byte "'" ∷ (inside ++ byte "'" ∷ [])) 4 (at + 1)
  string_escape : (inside : List ℕ) (at : ℕ) → IsBadEscape (byte "\"") inside at → IsWrong (Token String) (byte "\"" ∷ (inside ++ byte "\"" ∷ [])) 4 (at + 1)
  rune_count : (inside : List ℕ) → AreParts (byte "'") inside → (IsOneCharacter (byte "'") inside → ⊥) → IsWrong (Token Rune) (byte "'" ∷ (inside ++ byte "'" ∷ [])) 4 0
  integer : (word : List ℕ) → ((value : ℕ) → IsValue word value → ⊥) → IsWrong (Token Integer) word 5 0
  other_number : (word : List ℕ) → IsWrong OtherNumber word 6 0

abbrev pub IsRight : Piece → List ℕ → Type 0
IsRight piece word = (code at : ℕ) → IsWrong piece word code at → ⊥

-- an inserted semicolon has no bytes
abbrev pub inserted : ℕ → Span
inserted at = record { kind = Semicolon; start = at; end = at }

-- The tokens from a place on, and the fault that ends them if there is one. The flag says that a line's end here inserts a semicolon.
pub data Tokens : ℕ → Bool → List ℕ → List Span → Option Fault → Type 0 where
  nothing : (at : ℕ) → Tokens at false [] [] None
  last_semicolon : (at : ℕ) → Tokens at true [] (inserted at ∷ []) None
  passed : (at : ℕ) (closed : Bool) (piece : Piece) (word rest : List ℕ) (spans : List Span) (fault : Option Fault) → BeginsWith (word ++ rest) piece word → IsBetween piece →
      closed && ends_line piece word ≡ false → Tokens (at + length word) closed rest spans fault → Tokens at closed (word ++ rest) spans fault
  line_end : (at : ℕ) (piece : Piece) (word rest : List ℕ) (spans : List Span) (fault : Option Fault) → BeginsWith (word ++ rest) piece word → IsBetween piece →
      ends_line piece word ≡ true → Tokens (at + length word) false rest spans fault → Tokens at true (word ++ rest) (inserted (at + to_line_feed word) ∷ spans) fault
  token : (at : ℕ) (closed : Bool) (kind : TokenKind) (word rest : List ℕ) (spans : List Span) (fault : Option Fault) → BeginsWith (word ++ rest) (Token kind) word →
      IsRight (Token kind) word → Tokens (at + length word) (closes_line kind) rest spans fault →
      Tokens at closed (word ++ rest) (record { kind = kind; start = at; end = at + length word } ∷ spans) fault
  wrong : (at : ℕ) (closed : Bool) (piece : Piece) (word rest : List ℕ) (code offset : ℕ) → BeginsWith (word ++ rest) piece word → IsWrong piece word code offset →
      Tokens at closed (word ++ rest) [] (Some (record { code = code; at = at + offset }))
  open_piece : (at : ℕ) (closed : Bool) (text : List ℕ) → BeginsOpen text → Tokens at closed text [] (Some (record { code = 3; at = at }))
  stray : (at : ℕ) (closed : Bool) (b : ℕ) (rest : List ℕ) → BeginsStray (b ∷ rest) → Tokens at closed (b ∷ rest) [] (Some (record { code = 2; at = at }))

-- the place behind the byte order mark that a text may begin with
abbrev pub first_place : List ℕ → ℕ
first_place text = if bytes_eq (take 3 text) (239 ∷ 187 ∷ 191 ∷ []) then 3 else 0

-- the tokens of a text, and the first fault of its tokens
abbrev pub TokensOf : List ℕ → List Span → Option Fault → Type 0
TokensOf text spans fault = Tokens (first_place text) false (drop (first_place text) text) spans fault
