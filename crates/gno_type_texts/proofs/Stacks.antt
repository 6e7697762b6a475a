-- Pieces on a stack.
use Rattle.std.proofs.Common.{◌≡◌, refl, sym, ap, ap₂, ◌∙◌, subst, ℕ, List, [], ◌∷◌, ◌++◌, Option, Some, None, append_assoc, append-nil, length-append, length, ◌+◌, ◌*◌, ◌<◌, ◌≤◌, arith}
use Rattle.std.specs.Prelude.{IfSome, MatchOption}
use Rattle.gno_terms.specs.declared.term.GoType.{GoType}
use Rattle.gno_terms.specs.declared.term.TypeRef.{TypeRef}
use Rattle.gno_terms.specs.Lawful.{Each}
use Rattle.gno_terms.proofs.Parts.{Each-append, Each-left, Each-right}
use Rattle.gno_type_texts.specs.declared.piece.Piece.{Piece}
use Rattle.gno_type_texts.specs.declared.writer.Writer.{Writer}
use Rattle.gno_type_texts.specs.Pieces.{AddsOf, AreGood, IsGoodPiece, Pays, piece_text, stack_text, whole_text}

-- the last piece comes first
pub stack_push : (at : TypeRef → List ℕ) (pieces : List Piece) (piece : Piece) → stack_text at (pieces ++ piece ∷ []) ≡ piece_text at piece ++ stack_text at pieces
unfolding stack_text
stack_push at [] piece = sym (append-nil (piece_text at piece))
stack_push at (other ∷ pieces) piece =
    ap (λ text. text ++ piece_text at other) (stack_push at pieces piece)
    ∙ append_assoc (piece_text at piece) (stack_text at pieces) (piece_text at other)

pub good_push : (types : List GoType) (old new : Writer) (piece : Piece) → new.pieces ≡ old.pieces ++ piece ∷ [] → AreGood types old → IsGoodPiece types piece → AreGood types new
unfolding AreGood
good_push types old new piece e h good = subst (Each (IsGoodPiece types)) (sym e) (Each-append (IsGoodPiece types) old.pieces (piece ∷ []) h (good, tt))

pub good_same : (types : List GoType) (old new : Writer) → new.pieces ≡ old.pieces → AreGood types old → AreGood types new
unfolding AreGood
good_same types old new e h = subst (Each (IsGoodPiece types)) (sym e) h

-- what is taken from a stack
abbrev Taken : List Piece → List Piece → Option Piece → Type 0
Taken old new r = MatchOption r ((old ≡ []) × (new ≡ [])) (λ piece. old ≡ new ++ piece ∷ [])

pub stack_pop : (at : TypeRef → List ℕ) (old new : List Piece) (r : Option Piece) → Taken old new r
    → MatchOption r (stack_text at old ≡ []) (λ piece. stack_text at old ≡ piece_text at piece ++ stack_text at new)
unfolding stack_text
stack_pop at old new None h = ap (stack_text at) h.0
stack_pop at old new (Some piece) h = ap (stack_text at) h ∙ stack_push at new piece

pub good_pop : (types : List GoType) (old new : Writer) (r : Option Piece) → Taken old.pieces new.pieces r → AreGood types old → IfSome r (λ piece. IsGoodPiece types piece × AreGood types new)
unfolding AreGood
good_pop types old new None h are = tt
good_pop types old new (Some piece) h are =
    let both = subst (Each (IsGoodPiece types)) h are in
    ((Each-right (IsGoodPiece types) new.pieces (piece ∷ []) both).0, Each-left (IsGoodPiece types) new.pieces (piece ∷ []) both)

pub stack_none : (at : TypeRef → List ℕ) → stack_text at [] ≡ []
unfolding stack_text
stack_none at = refl

pub good_none : (types : List GoType) (w : Writer) → w.pieces ≡ [] → AreGood types w
unfolding AreGood
good_none types w e = subst (Each (IsGoodPiece types)) (sym e) tt

-- some bytes, and then pieces
pub adds_written : (at : TypeRef → List ℕ) (old mid new : Writer) (bytes more : List ℕ) → mid.text ≡ old.text ++ bytes → mid.pieces ≡ old.pieces → new.text ≡ mid.text
    → stack_text at new.pieces ≡ more ++ stack_text at mid.pieces → AddsOf at old new (bytes ++ more)
adds_written at old mid new bytes more e f g h =
    ap₂ (λ l m. l ++ m) (g ∙ e) (h ∙ ap (λ l. more ++ stack_text at l) f)
    ∙ append_assoc old.text bytes (more ++ stack_text at old.pieces)
    ∙ ap (λ l. old.text ++ l) (sym (append_assoc bytes more (stack_text at old.pieces)))

-- the first piece is the whole text
pub begun : (at : TypeRef → List ℕ) (old new : Writer) (text : List ℕ) → old.text ≡ [] → old.pieces ≡ [] → new.text ≡ old.text → stack_text at new.pieces ≡ text ++ stack_text at old.pieces
    → whole_text at new ≡ text
begun at old new text e f g h =
    ap (λ l. l ++ stack_text at new.pieces) (g ∙ e)
    ∙ h
    ∙ ap (λ l. text ++ stack_text at l) f
    ∙ ap (λ l. text ++ l) (stack_none at)
    ∙ append-nil text

-- each piece that is written leaves less
pub smaller : (at : TypeRef → List ℕ) (old mid new : Writer) (piece : Piece) → stack_text at old.pieces ≡ piece_text at piece ++ stack_text at mid.pieces → length old.pieces ≡ length mid.pieces + 1
    → AddsOf at mid new (piece_text at piece) → Pays 0 mid new
    → 4 * length (stack_text at new.pieces) + length new.pieces < 4 * length (stack_text at old.pieces) + length old.pieces
smaller at old mid new piece e count adds pays =
    let lengths : length new.text + length (stack_text at new.pieces) ≡ length mid.text + length (stack_text at old.pieces) =
    sym (length-append new.text (stack_text at new.pieces))
    ∙ ap length (adds ∙ ap (λ l. mid.text ++ l) (sym e))
    ∙ length-append mid.text (stack_text at old.pieces) in
    let paid : length new.pieces + 4 * length mid.text ≤ length mid.pieces + 4 * length new.text + 0 = pays in
    omega (arith, lengths, paid, count)
