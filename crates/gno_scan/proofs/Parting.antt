-- Escapes and other bytes, one behind the other.
use Rattle.std.proofs.Common.{◌≡◌, ◌≢◌, ◌∙◌, ◌≤◌, ◌<◌, ◌+◌, ℕ, List, [], ◌∷◌, ◌++◌, append_assoc, ap, refl, sym, subst, arith, length, take, drop, get_or, length-append, length-take}
use Rattle.std.proofs.lemmas.List.{append-nil, take-append-drop}
use Rattle.std.proofs.Math.Seq.{take-append-add}
use Rattle.gno_scan.specs.Escapes.{AreParts, IsBadEscape, IsEscape, nothing, plain, escape}
use Rattle.gno_scan.specs.Longest.{BeginsWithNone}

pub parts_append : (quote : ℕ) (front rest : List ℕ) → AreParts quote front → AreParts quote rest → AreParts quote (front ++ rest)
parts_append quote _ rest nothing more = more
parts_append quote _ rest (plain b front other parts) more = plain b (front ++ rest) other (parts_append quote front rest parts more)
parts_append quote _ rest (escape word front is parts) more =
    subst (λ (t : List ℕ). AreParts quote t) (sym (append_assoc word front rest)) (escape word (front ++ rest) is (parts_append quote front rest parts more))

pub parts_step : (quote at n : ℕ) (inside : List ℕ) → at ≤ length inside → AreParts quote (take at inside) → AreParts quote (take n (drop at inside)) → AreParts quote (take (at + n) inside)
parts_step quote at n inside within front next =
    let size : length (take at inside) ≡ at = omega (arith, length-take at inside, within) in
    let whole : take at inside ++ drop at inside ≡ inside = take-append-drop at inside in
    let split : take (at + n) inside ≡ take at inside ++ take n (drop at inside) = (λ i. take ((sym size) i + n) ((sym whole) i)) ∙ take-append-add (take at inside) (drop at inside) n in
    subst (λ (t : List ℕ). AreParts quote t) (sym split) (parts_append quote (take at inside) (take n (drop at inside)) front next)

pub one_part : (quote : ℕ) (word : List ℕ) → IsEscape quote word → AreParts quote word
one_part quote word is = subst (λ (t : List ℕ). AreParts quote t) (append-nil word) (escape word [] is nothing)

pub one_byte : (quote : ℕ) (text : List ℕ) → 0 < length text → get_or text 0 0 ≢ 92 → AreParts quote (take 1 text)
one_byte quote [] some other = absurd (omega (arith, some))
one_byte quote (b ∷ bs) some other = plain b [] other nothing

pub bad_at_once : (quote : ℕ) (text : List ℕ) → 0 < length text → get_or text 0 0 ≡ 92 → BeginsWithNone (IsEscape quote) text → IsBadEscape quote text 0
bad_at_once quote [] some first none = absurd (omega (arith, some))
bad_at_once quote (b ∷ bs) some first none = record {
  front = [];
  rest = bs;
  split = ap (λ x. x ∷ bs) first;
  place = refl;
  parts = nothing;
  no_escape = λ word more is begins. none word is (more, ap (λ x. x ∷ bs) first ∙ begins);
}

pub bad_later : (quote at : ℕ) (inside : List ℕ) → at ≤ length inside → AreParts quote (take at inside) → IsBadEscape quote (drop at inside) 0 → IsBadEscape quote inside at
bad_later quote at inside within front bad = record {
  front = take at inside ++ bad.front;
  rest = bad.rest;
  split = sym (take-append-drop at inside) ∙ ap (λ t. take at inside ++ t) bad.split ∙ sym (append_assoc (take at inside) bad.front (92 ∷ bad.rest));
  place = omega (arith, length-append (take at inside) bad.front, length-take at inside, within, bad.place);
  parts = parts_append quote (take at inside) bad.front front bad.parts;
  no_escape = bad.no_escape;
}
