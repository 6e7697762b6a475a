-- The pieces of a text: tokens, numbers that Gno does not have, comments, blanks and line ends. Go specification, "Tokens" and "Comments".
use Rattle.std.specs.Prelude.{ℕ, ◌≡◌, List, [], ◌∷◌, ◌==◌, ◌||◌, ◌⊎◌, Bool, true, Some, ◌<◌, ◌≤◌, length, take}
use Rattle.std.specs.Str.{byte}
use Rattle.gno_scan.specs.declared.kind.TokenKind.{TokenKind}
use Rattle.gno_scan.specs.declared.kind.TokenKind.TheVariants.{Name, Integer, Rune, String}
use Rattle.gno_scan.specs.declared.piece.Piece.{Piece}
use Rattle.gno_scan.specs.declared.piece.Piece.TheVariants.{Token, OtherNumber, LineComment, GeneralComment, Blank, LineEnd}
use Rattle.gno_scan.specs.declared.piece.Beginning.{Beginning}
use Rattle.gno_scan.specs.declared.piece.Beginning.TheVariants.{Begun, Open, Stray}
use Rattle.gno_scan.specs.Fixed.{keyword_spelling, operator_spelling}
use Rattle.gno_scan.specs.Longest.{BeginsWithNone, IsLongest}
use Rattle.gno_scan.specs.Names.{IsName}
use Rattle.gno_scan.specs.Numbers.{IsFloat, IsImaginary, IsInteger}
use Rattle.gno_scan.specs.Quoted.{IsGeneralComment, IsLineComment, IsQuoted, IsRaw}

abbrev pub IsFixed : TokenKind → List ℕ → Type 0
IsFixed kind word = (keyword_spelling kind ≡ Some word) ⊎ (operator_spelling kind ≡ Some word)

-- the spellings of a kind of token
abbrev pub IsSpelled : TokenKind → List ℕ → Type 0
IsSpelled Name word = IsName word
IsSpelled Integer word = IsInteger word
IsSpelled Rune word = IsQuoted (byte "'") word
IsSpelled String word = IsQuoted (byte "\"") word ⊎ IsRaw word
IsSpelled kind word = IsFixed kind word

-- a space, a tab or a carriage return
abbrev pub is_blank : ℕ → Bool
is_blank b = b == byte " " || (b == byte "\t" || b == byte "\r")

abbrev pub IsPiece : Piece → List ℕ → Type 0
IsPiece (Token kind) word = IsSpelled kind word
IsPiece OtherNumber word = IsFloat word ⊎ IsImaginary word
IsPiece LineComment word = IsLineComment word
IsPiece GeneralComment word = IsGeneralComment word
IsPiece Blank word = (b : ℕ) × (is_blank b ≡ true) × (word ≡ b ∷ [])
IsPiece LineEnd word = word ≡ byte "\n" ∷ []

-- the bytes of a piece of any sort
abbrev pub IsAnyPiece : List ℕ → Type 0
IsAnyPiece word = (piece : Piece) × IsPiece piece word

-- A general comment or a literal begins, and its end never comes, or the line's end comes first.
pub data BeginsOpen : List ℕ → Type 0 where
  comment : (rest : List ℕ) → BeginsWithNone IsGeneralComment (byte "/" ∷ byte "*" ∷ rest) → BeginsOpen (byte "/" ∷ byte "*" ∷ rest)
  rune : (rest : List ℕ) → BeginsWithNone (IsQuoted (byte "'")) (byte "'" ∷ rest) → BeginsOpen (byte "'" ∷ rest)
  string : (rest : List ℕ) → BeginsWithNone (IsQuoted (byte "\"")) (byte "\"" ∷ rest) → BeginsOpen (byte "\"" ∷ rest)
  raw : (rest : List ℕ) → BeginsWithNone IsRaw (byte "`" ∷ rest) → BeginsOpen (byte "`" ∷ rest)

-- The piece with which a text begins: the longest one. With a comment that does not end no `/` begins.
pub record BeginsWith (text : List ℕ) (piece : Piece) (word : List ℕ) : Type 0 where
  pub is_piece : IsPiece piece word
  pub longest : IsLongest IsAnyPiece text word
  pub not_open : BeginsOpen text → ⊥

-- no piece begins, and none that stays open
pub record BeginsStray (text : List ℕ) : Type 0 where
  pub no_piece : BeginsWithNone IsAnyPiece text
  pub not_open : BeginsOpen text → ⊥

-- what a text begins with
abbrev pub IsBeginning : List ℕ → Beginning → Type 0
IsBeginning text (Begun piece size) = BeginsWith text piece (take size text) × (0 < size) × (size ≤ length text)
IsBeginning text Open = BeginsOpen text
IsBeginning text Stray = BeginsStray text
