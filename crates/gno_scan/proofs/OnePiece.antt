-- A word is a piece in one way, and a text begins in one way.
use Rattle.std.proofs.Common.{◌≡◌, ℕ, ◌≤◌, Bool, true, false, ◌||◌, List, [], ◌∷◌, ◌++◌, refl, sym, ap, ◌∙◌, subst, arith, length, take, length-take, inl, inr, eqb-true}
use Rattle.gno_scan.specs.declared.piece.Piece.{Piece}
use Rattle.gno_scan.specs.declared.piece.Piece.TheVariants.{Token}
use Rattle.gno_scan.specs.declared.piece.Beginning.{Beginning}
use Rattle.gno_scan.specs.declared.piece.Beginning.TheVariants.{Begun, Open, Stray}
use Rattle.gno_scan.specs.declared.class.Class.{Class}
use Rattle.gno_scan.specs.declared.class.Class.TheVariants.{Space, LineFeed, Quote, DoubleQuote, BackQuote, Digit, Point, Solidus, Mark, Other}
use Rattle.gno_scan.specs.Classes.{class_of}
use Rattle.gno_scan.specs.Longest.{Begins}
use Rattle.gno_scan.specs.Pieces.{BeginsOpen, BeginsStray, BeginsWith, IsBeginning, IsPiece}
use Rattle.gno_scan.proofs.FloatMarks.{not_both}
use Rattle.gno_scan.proofs.Fronts.{same_head}
use Rattle.gno_scan.proofs.Keywords.{one_keyword}
use Rattle.gno_scan.proofs.Operators.{one_operator}
use Rattle.gno_scan.proofs.Sorts.{IsKeywordPiece, IsNumberPiece, IsOperatorPiece, Told, fits, is_second}

one_number : (piece other : Piece) (word : List ℕ) → IsNumberPiece piece word → IsNumberPiece other word → piece ≡ other
one_number piece other word (inl a) (inl b) = a.0 ∙ sym b.0
one_number piece other word (inl a) (inr b) = absurd (not_both word a.1 b.1)
one_number piece other word (inr a) (inl b) = absurd (not_both word b.1 a.1)
one_number piece other word (inr a) (inr b) = a.0 ∙ sym b.0

same_operator : (piece other : Piece) (word : List ℕ) → IsOperatorPiece piece word → IsOperatorPiece other word → piece ≡ other
same_operator piece other word a b = a.1 ∙ ap Token (one_operator a.0 b.0 word a.2 b.2) ∙ sym b.1

same_keyword : (piece other : Piece) (word : List ℕ) → IsKeywordPiece piece word → IsKeywordPiece other word → piece ≡ other
same_keyword piece other word a b = a.1 ∙ ap Token (one_keyword a.0 b.0 word a.2 b.2) ∙ sym b.1

clash : (t : Bool) → t ≡ true → t ≡ false → ⊥
clash true h k = cc
clash false h k = cc

-- no byte is second where another one is
seconds : (word : List ℕ) → is_second 47 word ≡ true → is_second 42 word ≡ true → ⊥
seconds [] h k = cc
seconds (a ∷ []) h k = cc
seconds (a ∷ b ∷ rest) h k = omega (arith, eqb-true b 47 h, eqb-true b 42 k)

first_none : (s t : Bool) → s ≡ true → (s || t) ≡ false → ⊥
first_none true t h k = cc
first_none false t h k = cc

second_none : (s t : Bool) → t ≡ true → (s || t) ≡ false → ⊥
second_none true t h k = cc
second_none false t h k = cc

at_solidus : (piece other : Piece) (word : List ℕ) → Told Solidus piece word → Told Solidus other word → piece ≡ other
at_solidus piece other word (inl a) (inl b) = a.1 ∙ sym b.1
at_solidus piece other word (inl a) (inr (inl b)) = absurd (seconds word a.0 b.0)
at_solidus piece other word (inl a) (inr (inr b)) = absurd (first_none (is_second 47 word) (is_second 42 word) a.0 b.0)
at_solidus piece other word (inr (inl a)) (inl b) = absurd (seconds word b.0 a.0)
at_solidus piece other word (inr (inl a)) (inr (inl b)) = a.1 ∙ sym b.1
at_solidus piece other word (inr (inl a)) (inr (inr b)) = absurd (second_none (is_second 47 word) (is_second 42 word) a.0 b.0)
at_solidus piece other word (inr (inr a)) (inl b) = absurd (first_none (is_second 47 word) (is_second 42 word) b.0 a.0)
at_solidus piece other word (inr (inr a)) (inr (inl b)) = absurd (second_none (is_second 47 word) (is_second 42 word) b.0 a.0)
at_solidus piece other word (inr (inr a)) (inr (inr b)) = same_operator piece other word a.1 b.1

at_other : (piece other : Piece) (word : List ℕ) → Told Other piece word → Told Other other word → piece ≡ other
at_other piece other word (inl a) (inl b) = a.0 ∙ sym b.0
at_other piece other word (inl a) (inr b) = absurd (a.1 (b.0, b.2))
at_other piece other word (inr a) (inl b) = absurd (b.1 (a.0, a.2))
at_other piece other word (inr a) (inr b) = same_keyword piece other word a b

at_point : (piece other : Piece) (word : List ℕ) → Told Point piece word → Told Point other word → piece ≡ other
at_point piece other word (inl a) (inl b) = one_number piece other word a.1 b.1
at_point piece other word (inl a) (inr b) = absurd (clash _ a.0 b.0)
at_point piece other word (inr a) (inl b) = absurd (clash _ b.0 a.0)
at_point piece other word (inr a) (inr b) = same_operator piece other word a.1 b.1

one_told : (class : Class) (piece other : Piece) (word : List ℕ) → Told class piece word → Told class other word → piece ≡ other
one_told Space piece other word a b = a ∙ sym b
one_told LineFeed piece other word a b = a ∙ sym b
one_told Quote piece other word a b = a ∙ sym b
one_told DoubleQuote piece other word a b = a ∙ sym b
one_told BackQuote piece other word a b = a ∙ sym b
one_told Digit piece other word a b = one_number piece other word a b
one_told Point piece other word a b = at_point piece other word a b
one_told Solidus piece other word a b = at_solidus piece other word a b
one_told Mark piece other word a b = same_operator piece other word a b
one_told Other piece other word a b = at_other piece other word a b

pub one_piece : (piece other : Piece) (word : List ℕ) → IsPiece piece word → IsPiece other word → piece ≡ other
one_piece piece other word is is' =
    let a = fits piece word is in
    let b = fits other word is' in
    let first : b.first ≡ a.first = same_head b.first a.first b.rest a.rest (sym b.parts ∙ a.parts) in
    one_told (class_of a.first) piece other word a.told (subst (λ (x : ℕ). Told (class_of x) other word) first b.told)

-- two fronts of a text that are as long are one
same_front : (word other text : List ℕ) → length word ≤ length other → length other ≤ length word → Begins word text → Begins other text → word ≡ other
same_front word other text short long begins begins' = fronts word other begins.0 begins'.0 (omega (arith, short, long)) (sym begins.1 ∙ begins'.1)
  where
    fronts : (xs ys rest more : List ℕ) → length xs ≡ length ys → xs ++ rest ≡ ys ++ more → xs ≡ ys
    fronts [] [] rest more size e = refl
    fronts [] (y ∷ ys) rest more size e = absurd (omega (arith, size))
    fronts (x ∷ xs) [] rest more size e = absurd (omega (arith, size))
    fronts (x ∷ xs) (y ∷ ys) rest more size e =
        let head : x ≡ y = cc in
        let tail : xs ++ rest ≡ ys ++ more = cc in
        let behind = fronts xs ys rest more (omega (arith, size)) tail in
        cc

pub one_beginning : (text : List ℕ) (piece other : Piece) (word word' : List ℕ) → BeginsWith text piece word → BeginsWith text other word' → (piece ≡ other) × (word ≡ word')
one_beginning text piece other word word' a b =
    let short = b.longest.longest word (piece, a.is_piece) a.longest.begins in
    let long = a.longest.longest word' (other, b.is_piece) b.longest.begins in
    let same = same_front word word' text short long a.longest.begins b.longest.begins in
    (one_piece piece other word' (subst (λ (w : List ℕ). IsPiece piece w) same a.is_piece) b.is_piece, same)

-- The three beginnings exclude each other: none of a piece, of one that stays open and of none holds beside another.
pub open_or_begun : (text : List ℕ) (piece : Piece) (word : List ℕ) → BeginsOpen text → BeginsWith text piece word → ⊥
open_or_begun text piece word is_open begun = begun.not_open is_open

pub stray_or_begun : (text : List ℕ) (piece : Piece) (word : List ℕ) → BeginsStray text → BeginsWith text piece word → ⊥
stray_or_begun text piece word none begun = none.no_piece word (piece, begun.is_piece) begun.longest.begins

pub stray_or_open : (text : List ℕ) → BeginsStray text → BeginsOpen text → ⊥
stray_or_open text none is_open = none.not_open is_open

-- a text has one beginning
pub one_result : (text : List ℕ) (first second : Beginning) → IsBeginning text first → IsBeginning text second → first ≡ second
one_result text (Begun piece size) (Begun other size') a b =
    let same = one_beginning text piece other (take size text) (take size' text) a.0 b.0 in
    let count : size ≡ size' = omega (arith, a.2, b.2, ap length same.1, length-take size text, length-take size' text) in
    λ i. Begun (same.0 i) (count i)
one_result text (Begun piece size) Open a b = absurd (open_or_begun text piece (take size text) b a.0)
one_result text (Begun piece size) Stray a b = absurd (stray_or_begun text piece (take size text) b a.0)
one_result text Open (Begun piece size) a b = absurd (open_or_begun text piece (take size text) a b.0)
one_result text Open Open a b = refl
one_result text Open Stray a b = absurd (stray_or_open text b a)
one_result text Stray (Begun piece size) a b = absurd (stray_or_begun text piece (take size text) a b.0)
one_result text Stray Open a b = absurd (stray_or_open text a b)
one_result text Stray Stray a b = refl
