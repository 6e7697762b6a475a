-- Which pieces begin with a byte of each class.
use Rattle.std.proofs.Common.{◌≡◌, ℕ, ◌≤◌, Bool, true, false, not, ◌||◌, ◌&&◌, List, [], ◌∷◌, ◌++◌, refl, sym, ap, ◌∙◌, subst, arith, length, inl, inr, eqb-true, length-append}
use Rattle.std.specs.Prelude.{◌==◌, ◌⊎◌, Option, Some, None, nat_le, flat_map}
use Rattle.std.specs.Char.{encode_utf8}
use Rattle.std.proofs.lemmas.Bool.{and_parts, leb-true}
use Rattle.gno_scan.specs.declared.kind.TokenKind.{TokenKind}
use Rattle.gno_scan.specs.declared.kind.TokenKind.TheVariants as kind
use Rattle.gno_scan.specs.declared.piece.Piece.{Piece}
use Rattle.gno_scan.specs.declared.piece.Piece.TheVariants.{Token, OtherNumber, LineComment, GeneralComment, Blank, LineEnd}
use Rattle.gno_scan.specs.declared.class.Class.{Class}
use Rattle.gno_scan.specs.declared.class.Class.TheVariants.{Space, LineFeed, Quote, DoubleQuote, BackQuote, Digit, Point, Solidus, Mark, Other}
use Rattle.gno_scan.specs.Classes.{class_at, class_of, is_mark}
use Rattle.gno_scan.specs.Fixed.{IsOperator, keyword_spelling, operator_spelling}
use Rattle.gno_scan.specs.Longest.{Begins}
use Rattle.gno_scan.specs.NumberLengths.{begins_with}
use Rattle.gno_scan.specs.Names.{IsIdentifier, IsKeyword, begins_with_letter, is_letter}
use Rattle.gno_scan.specs.Numbers.{IsFloat, IsImaginary, IsInteger, IsNumber, is_decimal_digit}
use Rattle.gno_scan.specs.Pieces.{IsAnyPiece, IsFixed, IsPiece, IsSpelled, is_blank}
use Rattle.gno_scan.specs.Quoted.{IsGeneralComment, IsLineComment, IsQuoted, IsRaw}
use Rattle.gno_scan.proofs.Characters.{not_empty}
use Rattle.gno_scan.proofs.Classes.{digit_class, letter_first}
use Rattle.gno_scan.proofs.KeywordNames.{keyword_identifier}
use Rattle.gno_scan.proofs.NumberFronts.{is_number_front, number_front}

-- the second byte is a digit
abbrev pub has_digit_second : List ℕ → Bool
has_digit_second (a ∷ b ∷ rest) = is_decimal_digit b
has_digit_second word = false

-- the second byte is this one
abbrev pub is_second : ℕ → List ℕ → Bool
is_second byte (a ∷ b ∷ rest) = b == byte
is_second byte word = false

-- the second byte is one with which a comment goes on
abbrev pub is_comment_front : List ℕ → Bool
is_comment_front word = is_second 47 word || is_second 42 word

-- what a piece is that begins with a byte of the class
abbrev pub Sort : Class → List ℕ → Type 0
Sort Space word = length word ≤ 1
Sort LineFeed word = length word ≤ 1
Sort Quote word = IsQuoted 39 word
Sort DoubleQuote word = IsQuoted 34 word
Sort BackQuote word = IsRaw word
Sort Digit word = IsNumber word
Sort Point word = (IsNumber word × (has_digit_second word ≡ true)) ⊎ (IsOperator word × (has_digit_second word ≡ false))
Sort Solidus word = IsLineComment word ⊎ (IsGeneralComment word ⊎ (IsOperator word × (length word ≤ 2)))
Sort Mark word = IsOperator word
Sort Other word = IsIdentifier word

-- which numbers are tokens
abbrev pub IsNumberPiece : Piece → List ℕ → Type 0
IsNumberPiece piece word = ((piece ≡ Token kind.Integer) × IsInteger word) ⊎ ((piece ≡ OtherNumber) × (IsFloat word ⊎ IsImaginary word))

abbrev pub IsOperatorPiece : Piece → List ℕ → Type 0
IsOperatorPiece piece word = (kind : TokenKind) × (piece ≡ Token kind) × (operator_spelling kind ≡ Some word)

abbrev pub IsKeywordPiece : Piece → List ℕ → Type 0
IsKeywordPiece piece word = (kind : TokenKind) × (piece ≡ Token kind) × (keyword_spelling kind ≡ Some word)

-- the same, with the piece that the word is
abbrev pub Told : Class → Piece → List ℕ → Type 0
Told Space piece word = piece ≡ Blank
Told LineFeed piece word = piece ≡ LineEnd
Told Quote piece word = piece ≡ Token kind.Rune
Told DoubleQuote piece word = piece ≡ Token kind.String
Told BackQuote piece word = piece ≡ Token kind.String
Told Digit piece word = IsNumberPiece piece word
Told Point piece word = ((has_digit_second word ≡ true) × IsNumberPiece piece word) ⊎ ((has_digit_second word ≡ false) × IsOperatorPiece piece word)
Told Solidus piece word = ((is_second 47 word ≡ true) × (piece ≡ LineComment)) ⊎ (((is_second 42 word ≡ true) × (piece ≡ GeneralComment)) ⊎ ((is_comment_front word ≡ false) × IsOperatorPiece piece word))
Told Mark piece word = IsOperatorPiece piece word
Told Other piece word = ((piece ≡ Token kind.Name) × (IsKeyword word → ⊥)) ⊎ IsKeywordPiece piece word

-- the word is not empty, and is what its first byte tells
pub record Fits (piece : Piece) (word : List ℕ) : Type 0 where
  pub first : ℕ
  pub rest : List ℕ
  pub parts : word ≡ first ∷ rest
  pub sort : Sort (class_of first) word
  pub told : Told (class_of first) piece word

fits_at : (b : ℕ) (rest : List ℕ) (piece : Piece) (word : List ℕ) (class : Class) → word ≡ b ∷ rest → class_of b ≡ class → Sort class word → Told class piece word → Fits piece word
fits_at b rest piece word class parts e sort told = record {
  first = b;
  rest = rest;
  parts = parts;
  sort = subst (λ (class : Class). Sort class word) (sym e) sort;
  told = subst (λ (class : Class). Told class piece word) (sym e) told;
}

blank_class : (b : ℕ) → is_blank b ≡ true → class_of b ≡ Space
unfolding class_of
blank_class b h = rw h refl

point_class : (b : ℕ) → b ≡ 46 → class_of b ≡ Point
unfolding class_of
point_class b e = rw e refl

-- a number that begins with a point has a digit behind it
pub number_sort : (word : List ℕ) → IsNumber word → (class_at word ≡ Digit) ⊎ ((class_at word ≡ Point) × (has_digit_second word ≡ true))
number_sort word number = by_front word (number_front word number)
  where
    behind_point : (b : ℕ) (rest : List ℕ) → (b == 46 && begins_with is_decimal_digit rest) ≡ true → (class_of b ≡ Point) × (has_digit_second (b ∷ rest) ≡ true)
    behind_point b rest h = elim (b == 46) as (λ t. (b == 46) ≡ t → (t && begins_with is_decimal_digit rest) ≡ true → (class_of b ≡ Point) × (has_digit_second (b ∷ rest) ≡ true)) [
      | true ↦ λ e f. (point_class b (eqb-true b 46 e), second rest f)
      | false ↦ λ e f. absurd (let g : false ≡ true = f in cc)
    ] refl h
      where
        second : (rest : List ℕ) → begins_with is_decimal_digit rest ≡ true → has_digit_second (b ∷ rest) ≡ true
        second [] h = h
        second (c ∷ cs) h = h

    by_front : (word : List ℕ) → is_number_front word ≡ true → (class_at word ≡ Digit) ⊎ ((class_at word ≡ Point) × (has_digit_second word ≡ true))
    by_front [] h = cc
    by_front (b ∷ rest) h = elim (is_decimal_digit b) as (λ t. is_decimal_digit b ≡ t → (t || (b == 46 && begins_with is_decimal_digit rest)) ≡ true → (class_of b ≡ Digit) ⊎ ((class_of b ≡ Point) × (has_digit_second (b ∷ rest) ≡ true))) [
      | true ↦ λ e f. inl (digit_class b e)
      | false ↦ λ e f. inr (behind_point b rest f)
    ] refl h

number_fits : (piece : Piece) (word : List ℕ) → IsNumber word → IsNumberPiece piece word → Fits piece word
number_fits piece [] number told = absurd (let h : false ≡ true = number_front [] number in cc)
number_fits piece (b ∷ rest) number told = elim (number_sort (b ∷ rest) number) [
  | inl digit ↦ fits_at b rest piece (b ∷ rest) Digit refl digit number told
  | inr point ↦ fits_at b rest piece (b ∷ rest) Point refl point.0 (inl (number, point.1)) (inl (point.1, told))
]

-- what the first byte of an operator tells
abbrev is_operator_front : Class → List ℕ → Bool
is_operator_front Mark word = true
is_operator_front Point word = not (has_digit_second word)
is_operator_front Solidus word = nat_le (length word) 2 && not (is_comment_front word)
is_operator_front class word = false

abbrev is_operator_spelling : Option (List ℕ) → Bool
is_operator_spelling None = true
is_operator_spelling (Some []) = false
is_operator_spelling (Some (b ∷ rest)) = is_operator_front (class_of b) (b ∷ rest)

each_operator : (kind : TokenKind) → is_operator_spelling (operator_spelling kind) ≡ true
unfolding operator_spelling class_of is_mark
each_operator kind.Plus = refl
each_operator kind = refl

operator_fits : (kind : TokenKind) (word : List ℕ) → operator_spelling kind ≡ Some word → Fits (Token kind) word
operator_fits kind [] e = absurd (let h : false ≡ true = ap is_operator_spelling (sym e) ∙ each_operator kind in cc)
operator_fits kind (b ∷ rest) e =
    let front = ap is_operator_spelling (sym e) ∙ each_operator kind in
    record { first = b; rest = rest; parts = refl; sort = by_class (class_of b) front; told = told_by (class_of b) front }
  where
    off : (t : Bool) → not t ≡ true → t ≡ false
    off true h = cc
    off false h = refl

    by_class : (class : Class) → is_operator_front class (b ∷ rest) ≡ true → Sort class (b ∷ rest)
    by_class Mark h = (kind, e)
    by_class Point h = inr ((kind, e), off (has_digit_second (b ∷ rest)) h)
    by_class Solidus h = inr (inr ((kind, e), leb-true (length (b ∷ rest)) 2 (and_parts (nat_le (length (b ∷ rest)) 2) (not (is_comment_front (b ∷ rest))) h).0))
    by_class class h = absurd (let f : false ≡ true = h in cc)

    told_by : (class : Class) → is_operator_front class (b ∷ rest) ≡ true → Told class (Token kind) (b ∷ rest)
    told_by Mark h = (kind, refl, e)
    told_by Point h = inr (off (has_digit_second (b ∷ rest)) h, (kind, refl, e))
    told_by Solidus h = inr (inr (off (is_comment_front (b ∷ rest)) (and_parts (nat_le (length (b ∷ rest)) 2) (not (is_comment_front (b ∷ rest))) h).1, (kind, refl, e)))
    told_by class h = absurd (let f : false ≡ true = h in cc)

identifier_fits : (piece : Piece) (word : List ℕ) → IsIdentifier word → Told Other piece word → Fits piece word
identifier_fits piece word name told = by_characters name.characters name.first name.spelled
  where
    by_word : (word characters : List ℕ) (c : ℕ) → is_letter c ≡ true → IsIdentifier word → Told Other piece word → word ≡ encode_utf8 c ++ flat_map encode_utf8 characters → Fits piece word
    by_word [] characters c letter name told e = absurd (omega (arith, ap length e, not_empty c, length-append (encode_utf8 c) (flat_map encode_utf8 characters)))
    by_word (b ∷ rest) characters c letter name told e =
        fits_at b rest piece (b ∷ rest) Other refl (letter_first c (b ∷ rest) (flat_map encode_utf8 characters) letter (omega arith) e) name told

    by_characters : (characters : List ℕ) → begins_with_letter characters ≡ true → word ≡ flat_map encode_utf8 characters → Fits piece word
    by_characters [] first spelled = absurd (let h : false ≡ true = first in cc)
    by_characters (c ∷ characters) first spelled = by_word word characters c first name told spelled

fixed_fits : (kind : TokenKind) (word : List ℕ) → IsFixed kind word → Fits (Token kind) word
fixed_fits kind word (inl keyword) = identifier_fits (Token kind) word (keyword_identifier kind word keyword) (inr (kind, refl, keyword))
fixed_fits kind word (inr operator) = operator_fits kind word operator

quoted_fits : (word : List ℕ) → IsQuoted 39 word → Fits (Token kind.Rune) word
unfolding class_of
quoted_fits word quoted = fits_at 39 (quoted.inside ++ 39 ∷ []) (Token kind.Rune) word Quote quoted.spelled refl quoted refl

double_quoted_fits : (word : List ℕ) → IsQuoted 34 word → Fits (Token kind.String) word
unfolding class_of
double_quoted_fits word quoted = fits_at 34 (quoted.inside ++ 34 ∷ []) (Token kind.String) word DoubleQuote quoted.spelled refl quoted refl

raw_fits : (word : List ℕ) → IsRaw word → Fits (Token kind.String) word
unfolding class_of
raw_fits word raw = fits_at 96 (raw.inside ++ 96 ∷ []) (Token kind.String) word BackQuote raw.spelled refl raw refl

token_fits : (kind : TokenKind) (word : List ℕ) → IsSpelled kind word → Fits (Token kind) word
token_fits kind.Name word name = identifier_fits (Token kind.Name) word name.identifier (inl (refl, name.no_keyword))
token_fits kind.Integer word integer = number_fits (Token kind.Integer) word (inl integer) (inl (refl, integer))
token_fits kind.Rune word quoted = quoted_fits word quoted
token_fits kind.String word (inl quoted) = double_quoted_fits word quoted
token_fits kind.String word (inr raw) = raw_fits word raw
token_fits kind word fixed = fixed_fits kind word fixed

line_fits : (word : List ℕ) → IsLineComment word → Fits LineComment word
unfolding class_of
line_fits word comment = fits_at 47 (47 ∷ comment.inside) LineComment word Solidus comment.spelled refl (inl comment) (inl (ap (is_second 47) comment.spelled, refl))

general_fits : (word : List ℕ) → IsGeneralComment word → Fits GeneralComment word
unfolding class_of
general_fits word comment =
    fits_at 47 (42 ∷ (comment.inside ++ 42 ∷ 47 ∷ [])) GeneralComment word Solidus comment.spelled refl (inr (inl comment)) (inr (inl (ap (is_second 42) comment.spelled, refl)))

one_byte_fits : (b : ℕ) (piece : Piece) (word : List ℕ) (class : Class) → word ≡ b ∷ [] → class_of b ≡ class → (length word ≤ 1 → Sort class word) → Told class piece word → Fits piece word
one_byte_fits b piece word class e at sort told = fits_at b [] piece word class e at (sort (omega (arith, ap length e))) told

line_end_fits : (word : List ℕ) → word ≡ 10 ∷ [] → Fits LineEnd word
unfolding class_of
line_end_fits word e = one_byte_fits 10 LineEnd word LineFeed e refl (λ short. short) refl

pub fits : (piece : Piece) (word : List ℕ) → IsPiece piece word → Fits piece word
fits (Token kind) word h = token_fits kind word h
fits OtherNumber word (inl float) = number_fits OtherNumber word (inr (inl float)) (inr (refl, inl float))
fits OtherNumber word (inr imaginary) = number_fits OtherNumber word (inr (inr imaginary)) (inr (refl, inr imaginary))
fits LineComment word h = line_fits word h
fits GeneralComment word h = general_fits word h
fits Blank word h = one_byte_fits h.0 Blank word Space h.2 (blank_class h.0 h.1) (λ short. short) refl
fits LineEnd word h = line_end_fits word h

-- each piece that the text begins with is such a word
abbrev pub Only : (List ℕ → Type 0) → List ℕ → Type 0
Only P text = (word : List ℕ) → IsAnyPiece word → Begins word text → P word

pub only_sort : (text : List ℕ) (class : Class) → class_at text ≡ class → Only (Sort class) text
only_sort text class at word any begins =
    let it = fits any.0 word any.1 in
    let same : class_of it.first ≡ class = ap class_at (sym (begins.1 ∙ ap (λ (w : List ℕ). w ++ begins.0) it.parts)) ∙ at in
    subst (λ (class : Class). Sort class word) same it.sort
