-- The longest piece that a text begins with, by the class of its first byte.
use Rattle.std.proofs.Common.{◌≡◌, ◌≢◌, ℕ, zero, suc, take-append-drop, eqb-true, ◌≤◌, ◌<◌, true, false, List, [], ◌∷◌, ◌++◌, refl, sym, ap, ◌∙◌, subst, arith, length, take, drop, get_or, inl, inr}
use Rattle.std.specs.Prelude.{◌↔◌, Option, Some, None}
use Rattle.gno_scan.specs.declared.piece.Piece.{Piece}
use Rattle.gno_scan.specs.declared.class.Class.{Class}
use Rattle.gno_scan.specs.declared.class.Class.TheVariants.{Space, LineFeed, Quote, DoubleQuote, BackQuote, Digit, Point, Solidus}
use Rattle.gno_scan.specs.declared.piece.Beginning.TheVariants.{Begun}
use Rattle.gno_scan.specs.declared.kind.TokenKind.{TokenKind}
use Rattle.gno_scan.specs.declared.kind.TokenKind.TheVariants as kind
use Rattle.gno_scan.specs.declared.piece.Piece.TheVariants.{Blank, LineEnd}
use Rattle.gno_scan.specs.Classes.{class_at, class_of}
use Rattle.gno_scan.specs.Fixed.{IsOperator, keyword_spelling, operator_spelling}
use Rattle.gno_scan.specs.Longest.{Begins, BeginsWithNone, IsLongest}
use Rattle.gno_scan.specs.Numbers.{IsNumber, is_decimal_digit}
use Rattle.gno_scan.specs.Pieces.{BeginsOpen, BeginsStray, IsAnyPiece, IsBeginning, IsPiece, IsSpelled, comment, rune, string, raw}
use Rattle.gno_scan.specs.Quoted.{IsGeneralComment, IsLineComment, IsQuoted, IsRaw}
use Rattle.gno_scan.specs.Names.{IsIdentifier, IsName}
use Rattle.gno_scan.proofs.Classes.{agrees, is_other_class, led_by}
use Rattle.gno_scan.proofs.Comments.{starts_with_two}
use Rattle.gno_scan.proofs.Sorts.{Fits, Only, Sort, fits, has_digit_second, number_sort, only_sort}

pub class_first : (text : List ℕ) (class : Class) → 0 < length text → class_of (get_or text 0 0) ≡ class → class_at text ≡ class
class_first [] class some e = absurd (omega (arith, some))
class_first (b ∷ rest) class some e = e

-- what stays open in a text that begins with a byte of the class
abbrev OpenSort : Class → List ℕ → Type 0
OpenSort Quote text = BeginsWithNone (IsQuoted 39) text
OpenSort DoubleQuote text = BeginsWithNone (IsQuoted 34) text
OpenSort BackQuote text = BeginsWithNone IsRaw text
OpenSort Solidus text = BeginsWithNone IsGeneralComment text × (text ≡ 47 ∷ 42 ∷ drop 2 text)
OpenSort class text = ⊥

open_sort : (text : List ℕ) → BeginsOpen text → OpenSort (class_at text) text
unfolding class_of
open_sort _ (comment rest none) = (none, refl)
open_sort _ (rune rest none) = none
open_sort _ (string rest none) = none
open_sort _ (raw rest none) = none

open_as : (text : List ℕ) (class : Class) → class_at text ≡ class → BeginsOpen text → OpenSort class text
open_as text class at is_open = subst (λ (class : Class). OpenSort class text) at (open_sort text is_open)

-- nothing stays open that begins with a byte of the class
abbrev IsClosed : Class → Type 0
IsClosed Quote = ⊥
IsClosed DoubleQuote = ⊥
IsClosed BackQuote = ⊥
IsClosed Solidus = ⊥
IsClosed class = Unit {0}

pub not_open : (text : List ℕ) (class : Class) → IsClosed class → class_at text ≡ class → BeginsOpen text → ⊥
not_open text class closed at is_open = by_class class closed (open_as text class at is_open)
  where
    by_class : (class : Class) → IsClosed class → OpenSort class text → ⊥
    by_class Quote closed is_open = closed
    by_class DoubleQuote closed is_open = closed
    by_class BackQuote closed is_open = closed
    by_class Solidus closed is_open = closed
    by_class class closed is_open = is_open

only_longest : (P : List ℕ → Type 0) (text word : List ℕ) (piece : Piece) → Only P text → IsLongest P text word → IsPiece piece word → IsLongest IsAnyPiece text word
only_longest P text word piece only longest is = record {
  spelled = (piece, is);
  begins = longest.begins;
  longest = λ other any begins. longest.longest other (only other any begins) begins;
}

some_taken : (n : ℕ) (piece : Piece) (text : List ℕ) → Fits piece (take n text) → 0 < n
some_taken zero piece text it = absurd (let e : [] ≡ it.first ∷ it.rest = it.parts in cc)
some_taken (suc n) piece text it = omega arith

-- the longest of the pieces of one sort is the one that the text begins with
pub begun : (P : List ℕ → Type 0) (text : List ℕ) (piece : Piece) (n : ℕ) → Only P text → IsLongest P text (take n text) → IsPiece piece (take n text) → n ≤ length text → (BeginsOpen text → ⊥) →
    IsBeginning text (Begun piece n)
begun P text piece n only longest is within closed =
    (record { is_piece = is; longest = only_longest P text (take n text) piece only longest is; not_open = closed }, some_taken n piece text (fits piece (take n text) is), within)

pub begins_none : (P : List ℕ → Type 0) (text : List ℕ) → Only P text → BeginsWithNone P text → BeginsWithNone IsAnyPiece text
begins_none P text only none word any begins = none word (only word any begins) begins

pub stray : (P : List ℕ → Type 0) (text : List ℕ) → Only P text → BeginsWithNone P text → (BeginsOpen text → ⊥) → BeginsStray text
stray P text only none closed = record { no_piece = begins_none P text only none; not_open = closed }

-- a literal that ends is not open
pub quoted_closed : (text word : List ℕ) → class_at text ≡ Quote → IsLongest (IsQuoted 39) text word → BeginsOpen text → ⊥
quoted_closed text word at longest is_open = (open_as text Quote at is_open) word longest.spelled longest.begins

pub double_quoted_closed : (text word : List ℕ) → class_at text ≡ DoubleQuote → IsLongest (IsQuoted 34) text word → BeginsOpen text → ⊥
double_quoted_closed text word at longest is_open = (open_as text DoubleQuote at is_open) word longest.spelled longest.begins

pub raw_closed : (text word : List ℕ) → class_at text ≡ BackQuote → IsLongest IsRaw text word → BeginsOpen text → ⊥
raw_closed text word at longest is_open = (open_as text BackQuote at is_open) word longest.spelled longest.begins

blank_piece : (text : List ℕ) → class_at text ≡ Space → IsPiece Blank (take 1 text)
blank_piece text at = let led = led_by text Space refl at in (led.0, led.2, ap (take 1) led.1)

line_end_piece : (text : List ℕ) → class_at text ≡ LineFeed → IsPiece LineEnd (take 1 text)
line_end_piece text at = let led = led_by text LineFeed refl at in ap (take 1) led.1 ∙ ap (λ (b : ℕ). b ∷ []) (eqb-true led.0 10 led.2)

-- pieces of one byte
one_longest : (P : List ℕ → Type 0) (text : List ℕ) (b : ℕ) → text ≡ b ∷ drop 1 text → P (take 1 text) → ((word : List ℕ) → P word → length word ≤ 1) → IsLongest P text (take 1 text)
one_longest P text b e is short = record {
  spelled = is;
  begins = (drop 1 text, sym (take-append-drop 1 text));
  longest = λ other one begins. let most = short other one in omega (arith, most, ap (λ (t : List ℕ). length (take 1 t)) e);
}

one_within : (text : List ℕ) (b : ℕ) → text ≡ b ∷ drop 1 text → 1 ≤ length text
one_within text b e = omega (arith, ap length e)

pub blank_begins : (text : List ℕ) → class_at text ≡ Space → IsBeginning text (Begun Blank 1)
blank_begins text at =
    let led = led_by text Space refl at in
    let short : length (take 1 text) ≤ 1 = omega (arith, ap (λ (t : List ℕ). length (take 1 t)) led.1) in
    begun (Sort Space) text Blank 1 (only_sort text Space at) (one_longest (Sort Space) text led.0 led.1 short (λ word is. is)) (blank_piece text at) (one_within text led.0 led.1) (not_open text Space tt at)

pub line_end_begins : (text : List ℕ) → class_at text ≡ LineFeed → IsBeginning text (Begun LineEnd 1)
line_end_begins text at =
    let led = led_by text LineFeed refl at in
    let short : length (take 1 text) ≤ 1 = omega (arith, ap (λ (t : List ℕ). length (take 1 t)) led.1) in
    begun (Sort LineFeed) text LineEnd 1 (only_sort text LineFeed at) (one_longest (Sort LineFeed) text led.0 led.1 short (λ word is. is)) (line_end_piece text at) (one_within text led.0 led.1)
    (not_open text LineFeed tt at)

-- the first byte where the class tells it
byte_first : (text : List ℕ) (class : Class) (byte : ℕ) → is_other_class class ≡ false → ((b : ℕ) → agrees class b ≡ true → b ≡ byte) → class_at text ≡ class → text ≡ byte ∷ drop 1 text
byte_first text class byte other tells at = let led = led_by text class other at in led.1 ∙ ap (λ (b : ℕ). b ∷ drop 1 text) (tells led.0 led.2)

pub quoted_open : (text : List ℕ) → class_at text ≡ Quote → BeginsWithNone (IsQuoted 39) text → BeginsOpen text
quoted_open text at none =
    let e = byte_first text Quote 39 refl (λ b h. eqb-true b 39 h) at in
    subst BeginsOpen (sym e) (rune (drop 1 text) (subst (λ (t : List ℕ). BeginsWithNone (IsQuoted 39) t) e none))

pub double_quoted_open : (text : List ℕ) → class_at text ≡ DoubleQuote → BeginsWithNone (IsQuoted 34) text → BeginsOpen text
double_quoted_open text at none =
    let e = byte_first text DoubleQuote 34 refl (λ b h. eqb-true b 34 h) at in
    subst BeginsOpen (sym e) (string (drop 1 text) (subst (λ (t : List ℕ). BeginsWithNone (IsQuoted 34) t) e none))

pub raw_open : (text : List ℕ) → class_at text ≡ BackQuote → BeginsWithNone IsRaw text → BeginsOpen text
raw_open text at none =
    let e = byte_first text BackQuote 96 refl (λ b h. eqb-true b 96 h) at in
    subst BeginsOpen (sym e) (raw (drop 1 text) (subst (λ (t : List ℕ). BeginsWithNone IsRaw t) e none))

-- two words begin a text at a point, and only one has a digit behind it: the other is the point alone
shorter : (other word text : List ℕ) → has_digit_second word ≡ true → has_digit_second other ≡ false → Begins other text → Begins word text → length other ≤ length word
shorter [] word text digit none begins begins' = omega arith
shorter other [] text digit none begins begins' = absurd (let h : false ≡ true = digit in cc)
shorter other (c ∷ []) text digit none begins begins' = absurd (let h : false ≡ true = digit in cc)
shorter (a ∷ []) (c ∷ d ∷ more) text digit none begins begins' = omega arith
shorter (a ∷ b ∷ rest) (c ∷ d ∷ more) text digit none begins begins' =
    let both : ◌≡◌ {A = List ℕ} (a ∷ b ∷ (rest ++ begins.0)) (c ∷ d ∷ (more ++ begins'.0)) = sym begins.1 ∙ begins'.1 in
    let same : b ≡ d = cc in
    let h : true ≡ false = sym digit ∙ ap is_decimal_digit (sym same) ∙ none in
    absurd (cc)

second_digit : (text word : List ℕ) → class_at text ≡ Point → IsNumber word → Begins word text → has_digit_second word ≡ true
second_digit text [] at number begins = absurd (elim (number_sort [] number) [ inl digit ↦ cc | inr point ↦ let h : false ≡ true = point.1 in cc ])
second_digit text (b ∷ rest) at number begins = elim (number_sort (b ∷ rest) number) [
  | inl digit ↦ let h : Digit ≡ Point = sym digit ∙ ap class_at (sym begins.1) ∙ at in absurd (cc)
  | inr point ↦ point.1
]

pub point_longest : (text word : List ℕ) → class_at text ≡ Point → IsLongest IsNumber text word → IsLongest (Sort Point) text word
point_longest text word at longest =
    let second = second_digit text word at longest.spelled longest.begins in
    record {
      spelled = inl (longest.spelled, second);
      begins = longest.begins;
      longest = λ other sort begins. elim sort [
        | inl number ↦ longest.longest other number.0 begins
        | inr operator ↦ shorter other word text second operator.1 begins longest.begins
      ];
    }

pub point_operator : (text : List ℕ) → class_at text ≡ Point → BeginsWithNone IsNumber text → Only IsOperator text
point_operator text at none word any begins = elim (only_sort text Point at word any begins) [
  | inl number ↦ absurd (none word number.0 begins)
  | inr operator ↦ operator.0
]

-- no comment of one sort begins where one of the other does
apart : (text line general : List ℕ) → IsLineComment line → IsGeneralComment general → Begins line text → Begins general text → ⊥
apart text line general is is' begins begins' =
    let ends : 47 ∷ 47 ∷ (is.inside ++ begins.0) ≡ 47 ∷ 42 ∷ ((is'.inside ++ 42 ∷ 47 ∷ []) ++ begins'.0) =
    sym (begins.1 ∙ ap (λ (w : List ℕ). w ++ begins.0) is.spelled) ∙ begins'.1 ∙ ap (λ (w : List ℕ). w ++ begins'.0) is'.spelled in
    let same : ◌≡◌ {A = ℕ} 47 42 = cc in
    omega (arith, same)

pub line_sort : (text word : List ℕ) → IsLongest IsLineComment text word → IsLongest (Sort Solidus) text word
line_sort text word longest = record {
  spelled = inl longest.spelled;
  begins = longest.begins;
  longest = λ other sort begins. elim sort [
    | inl line ↦ longest.longest other line begins
    | inr more ↦ elim more [
      | inl general ↦ absurd (apart text word other longest.spelled general longest.begins begins)
      | inr operator ↦ let most = operator.1 in omega (arith, most, ap length longest.spelled.spelled)
    ]
  ];
}

pub general_sort : (text word : List ℕ) → IsLongest IsGeneralComment text word → IsLongest (Sort Solidus) text word
general_sort text word longest = record {
  spelled = inr (inl longest.spelled);
  begins = longest.begins;
  longest = λ other sort begins. elim sort [
    | inl line ↦ absurd (apart text other word line longest.spelled begins longest.begins)
    | inr more ↦ elim more [
      | inl general ↦ longest.longest other general begins
      | inr operator ↦ let most = operator.1 in omega (arith, most, ap length longest.spelled.spelled)
    ]
  ];
}

pub solidus_operator : (text : List ℕ) → class_at text ≡ Solidus → BeginsWithNone IsLineComment text → BeginsWithNone IsGeneralComment text → Only IsOperator text
solidus_operator text at no_line no_general word any begins = elim (only_sort text Solidus at word any begins) [
  | inl line ↦ absurd (no_line word line begins)
  | inr more ↦ elim more [ inl general ↦ absurd (no_general word general begins) | inr operator ↦ operator.0 ]
]

pub line_closed : (text word : List ℕ) → class_at text ≡ Solidus → IsLongest IsLineComment text word → BeginsOpen text → ⊥
line_closed text word at longest is_open =
    let both : 47 ∷ 42 ∷ drop 2 text ≡ 47 ∷ 47 ∷ (longest.spelled.inside ++ longest.begins.0) =
    sym (open_as text Solidus at is_open).1 ∙ longest.begins.1 ∙ ap (λ (w : List ℕ). w ++ longest.begins.0) longest.spelled.spelled in
    let same : ◌≡◌ {A = ℕ} 42 47 = cc in
    omega (arith, same)

pub general_closed : (text word : List ℕ) → class_at text ≡ Solidus → IsLongest IsGeneralComment text word → BeginsOpen text → ⊥
general_closed text word at longest is_open = (open_as text Solidus at is_open).0 word longest.spelled longest.begins

pub general_open : (text : List ℕ) → class_at text ≡ Solidus → 2 ≤ length text → get_or text 1 0 ≡ 42 → BeginsWithNone IsGeneralComment text → BeginsOpen text
general_open text at some second none =
    let first = byte_first text Solidus 47 refl (λ b h. eqb-true b 47 h) at in
    let e = starts_with_two 47 42 text some (ap (λ (t : List ℕ). get_or t 0 0) first) second in
    subst BeginsOpen (sym e) (comment (drop 2 text) (subst (λ (t : List ℕ). BeginsWithNone IsGeneralComment t) e none))

pub short_closed : (text : List ℕ) → class_at text ≡ Solidus → length text < 2 → BeginsOpen text → ⊥
short_closed text at short is_open = omega (arith, short, ap length (open_as text Solidus at is_open).1)

pub other_closed : (text : List ℕ) → class_at text ≡ Solidus → get_or text 1 0 ≢ 42 → BeginsOpen text → ⊥
other_closed text at other is_open = other (ap (λ (t : List ℕ). get_or t 1 0) (open_as text Solidus at is_open).1)

-- what a spelling of a keyword or of an operator spells
pub keyword_spelled : (kind : TokenKind) (word : List ℕ) → keyword_spelling kind ≡ Some word → IsSpelled kind word
unfolding keyword_spelling
keyword_spelled kind.Name word e = cc
keyword_spelled kind.Integer word e = cc
keyword_spelled kind.Rune word e = cc
keyword_spelled kind.String word e = cc
keyword_spelled kind word e = inl e

pub operator_spelled : (kind : TokenKind) (word : List ℕ) → operator_spelling kind ≡ Some word → IsSpelled kind word
unfolding operator_spelling
operator_spelled kind.Name word e = cc
operator_spelled kind.Integer word e = cc
operator_spelled kind.Rune word e = cc
operator_spelled kind.String word e = cc
operator_spelled kind word e = inr e

pub name_spelled : (word : List ℕ) (found : Option TokenKind) → IsIdentifier word → ((kind : TokenKind) → (found ≡ Some kind) ↔ (keyword_spelling kind ≡ Some word)) → found ≡ None → IsName word
name_spelled word found identifier exact none = record { identifier = identifier; no_keyword = λ keyword. let e = (exact keyword.0).1 keyword.1 in cc }
