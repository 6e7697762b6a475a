-- A piece has at most one fault.
use Rattle.std.proofs.Common.{◌≡◌, ◌∙◌, ◌+◌, ℕ, List, [], ◌∷◌, ◌++◌, ap, refl, sym, subst}
use Rattle.std.proofs.lemmas.List.{append_cancel_right}
use Rattle.gno_scan.specs.declared.kind.TokenKind.TheVariants.{Integer, Rune, String}
use Rattle.gno_scan.specs.declared.piece.Piece.{Piece}
use Rattle.gno_scan.specs.declared.piece.Piece.TheVariants.{Token, OtherNumber}
use Rattle.gno_scan.specs.Escapes.{AreParts, IsBadEscape, IsOneCharacter}
use Rattle.gno_scan.specs.Numbers.{IsValue}
use Rattle.gno_scan.specs.Tokens.{IsWrong, rune_escape, string_escape, rune_count, integer, other_number}
use Rattle.gno_scan.proofs.Fronts.{same_tail}
use Rattle.gno_scan.proofs.OneEscape.{no_bad_escape, one_bad_escape, size_of}

-- a literal between such quotes has a bad escape
pub record HasBadEscape (quote : ℕ) (word : List ℕ) (code at : ℕ) : Type 0 where
  pub inside : List ℕ
  pub place : ℕ
  pub spelled : word ≡ quote ∷ (inside ++ quote ∷ [])
  pub bad : IsBadEscape quote inside place
  pub code_is : code ≡ 4
  pub at_is : at ≡ place + 1

-- a rune literal has no bad escape, and other than one character
pub record HasOtherCount (word : List ℕ) (code at : ℕ) : Type 0 where
  pub inside : List ℕ
  pub spelled : word ≡ 39 ∷ (inside ++ 39 ∷ [])
  pub parts : AreParts 39 inside
  pub other : IsOneCharacter 39 inside → ⊥
  pub code_is : code ≡ 4
  pub at_is : at ≡ 0

-- what is wrong, by the piece
pub data Wrongs (piece : Piece) (word : List ℕ) (code at : ℕ) : Type 0 where
  in_rune : piece ≡ Token Rune → HasBadEscape 39 word code at → Wrongs piece word code at
  in_string : piece ≡ Token String → HasBadEscape 34 word code at → Wrongs piece word code at
  in_count : piece ≡ Token Rune → HasOtherCount word code at → Wrongs piece word code at
  in_integer : piece ≡ Token Integer → ((value : ℕ) → IsValue word value → ⊥) → code ≡ 5 → at ≡ 0 → Wrongs piece word code at
  in_other : piece ≡ OtherNumber → code ≡ 6 → at ≡ 0 → Wrongs piece word code at

pub wrongs : (piece : Piece) (word : List ℕ) (code at : ℕ) → IsWrong piece word code at → Wrongs piece word code at
wrongs _ _ _ _ (rune_escape inside place bad) = in_rune refl (record { inside = inside; place = place; spelled = refl; bad = bad; code_is = refl; at_is = refl })
wrongs _ _ _ _ (string_escape inside place bad) = in_string refl (record { inside = inside; place = place; spelled = refl; bad = bad; code_is = refl; at_is = refl })
wrongs _ _ _ _ (rune_count inside parts other) = in_count refl (record { inside = inside; spelled = refl; parts = parts; other = other; code_is = refl; at_is = refl })
wrongs _ _ _ _ (integer word none) = in_integer refl none refl refl
wrongs _ _ _ _ (other_number word) = in_other refl refl refl

pub same_inside : (quote : ℕ) (word inside inside' : List ℕ) → word ≡ quote ∷ (inside ++ quote ∷ []) → word ≡ quote ∷ (inside' ++ quote ∷ []) → inside ≡ inside'
same_inside quote word inside inside' e e' =
    append_cancel_right inside inside' (quote ∷ []) (same_tail quote quote (inside ++ quote ∷ []) (inside' ++ quote ∷ []) (sym e ∙ e'))

abbrev pub AreSame : ℕ → ℕ → ℕ → ℕ → Type 0
AreSame code at code' at' = (code ≡ code') × (at ≡ at')

both_escapes : (quote : ℕ) (word : List ℕ) (code at code' at' : ℕ) → size_of quote ≡ 2 → HasBadEscape quote word code at → HasBadEscape quote word code' at' → AreSame code at code' at'
both_escapes quote word code at code' at' two h h' =
    let inside : h'.inside ≡ h.inside = same_inside quote word h'.inside h.inside h'.spelled h.spelled in
    let place : h.place ≡ h'.place = one_bad_escape quote h.inside h.place h'.place two h.bad (subst (λ (t : List ℕ). IsBadEscape quote t h'.place) inside h'.bad) in
    (h.code_is ∙ sym h'.code_is, h.at_is ∙ ap (λ n. n + 1) place ∙ sym h'.at_is)

not_both : (word : List ℕ) (code at code' at' : ℕ) → HasBadEscape 39 word code at → HasOtherCount word code' at' → ⊥
not_both word code at code' at' h h' =
    let inside : h'.inside ≡ h.inside = same_inside 39 word h'.inside h.inside h'.spelled h.spelled in
    no_bad_escape 39 h.inside h.place refl (subst (λ (t : List ℕ). AreParts 39 t) inside h'.parts) h.bad

one_of : (piece : Piece) (word : List ℕ) (code at code' at' : ℕ) → Wrongs piece word code at → Wrongs piece word code' at' → AreSame code at code' at'
one_of piece word code at code' at' (in_rune is h) (in_rune is' h') = both_escapes 39 word code at code' at' refl h h'
one_of piece word code at code' at' (in_rune is h) (in_string is' h') = absurd (cc (is, is'))
one_of piece word code at code' at' (in_rune is h) (in_count is' h') = absurd (not_both word code at code' at' h h')
one_of piece word code at code' at' (in_rune is h) (in_integer is' none' code_is' at_is') = absurd (cc (is, is'))
one_of piece word code at code' at' (in_rune is h) (in_other is' code_is' at_is') = absurd (cc (is, is'))
one_of piece word code at code' at' (in_string is h) (in_rune is' h') = absurd (cc (is, is'))
one_of piece word code at code' at' (in_string is h) (in_string is' h') = both_escapes 34 word code at code' at' refl h h'
one_of piece word code at code' at' (in_string is h) (in_count is' h') = absurd (cc (is, is'))
one_of piece word code at code' at' (in_string is h) (in_integer is' none' code_is' at_is') = absurd (cc (is, is'))
one_of piece word code at code' at' (in_string is h) (in_other is' code_is' at_is') = absurd (cc (is, is'))
one_of piece word code at code' at' (in_count is h) (in_rune is' h') = absurd (not_both word code' at' code at h' h)
one_of piece word code at code' at' (in_count is h) (in_string is' h') = absurd (cc (is, is'))
one_of piece word code at code' at' (in_count is h) (in_count is' h') = (h.code_is ∙ sym h'.code_is, h.at_is ∙ sym h'.at_is)
one_of piece word code at code' at' (in_count is h) (in_integer is' none' code_is' at_is') = absurd (cc (is, is'))
one_of piece word code at code' at' (in_count is h) (in_other is' code_is' at_is') = absurd (cc (is, is'))
one_of piece word code at code' at' (in_integer is none code_is at_is) (in_integer is' none' code_is' at_is') = (code_is ∙ sym code_is', at_is ∙ sym at_is')
one_of piece word code at code' at' (in_integer is none code_is at_is) (in_rune is' h') = absurd (cc (is, is'))
one_of piece word code at code' at' (in_integer is none code_is at_is) (in_string is' h') = absurd (cc (is, is'))
one_of piece word code at code' at' (in_integer is none code_is at_is) (in_count is' h') = absurd (cc (is, is'))
one_of piece word code at code' at' (in_integer is none code_is at_is) (in_other is' code_is' at_is') = absurd (cc (is, is'))
one_of piece word code at code' at' (in_other is code_is at_is) (in_other is' code_is' at_is') = (code_is ∙ sym code_is', at_is ∙ sym at_is')
one_of piece word code at code' at' (in_other is code_is at_is) (in_rune is' h') = absurd (cc (is, is'))
one_of piece word code at code' at' (in_other is code_is at_is) (in_string is' h') = absurd (cc (is, is'))
one_of piece word code at code' at' (in_other is code_is at_is) (in_count is' h') = absurd (cc (is, is'))
one_of piece word code at code' at' (in_other is code_is at_is) (in_integer is' none' code_is' at_is') = absurd (cc (is, is'))

-- a piece has one fault, at one place
pub one_wrong : (piece : Piece) (word : List ℕ) (code at code' at' : ℕ) → IsWrong piece word code at → IsWrong piece word code' at' → (code ≡ code') × (at ≡ at')
one_wrong piece word code at code' at' w w' = one_of piece word code at code' at' (wrongs piece word code at w) (wrongs piece word code' at' w')
