-- Fronts of a text, and the first byte of a value.
use Rattle.std.proofs.Common.{◌≡◌, ◌≢◌, ◌∙◌, ◌+◌, ◌-◌, ℕ, suc, List, [], ◌∷◌, ◌++◌, ap, refl, sym, arith, length, take, drop, get_or, length-drop, length-take}
use Rattle.std.specs.Prelude.{All, false, nat_eq, true}
use Rattle.std.proofs.lemmas.List.{take-append-le, take_all}
use Rattle.gno_scan.specs.Closing.{StandsFirst}

pub take_front : (front rest : List ℕ) → take (length front) (front ++ rest) ≡ front
take_front front rest = take-append-le (length front) front rest (omega arith) ∙ take_all (length front) front (omega arith)

pub starts_with : (first : ℕ) (text : List ℕ) → nat_eq (length text) 0 ≡ false → get_or text 0 0 ≡ first → text ≡ first ∷ drop 1 text
starts_with first [] some same = cc
starts_with first (b ∷ bs) some same = ap (λ x. x ∷ bs) same

pub same_head : (x y : ℕ) (xs ys : List ℕ) → x ∷ xs ≡ y ∷ ys → x ≡ y
same_head x y xs ys e = cc

pub same_tail : (x y : ℕ) (xs ys : List ℕ) → x ∷ xs ≡ y ∷ ys → xs ≡ ys
same_tail x y xs ys e = cc

-- two fronts without a byte, behind which it stands, have one length
pub same_place : (b : ℕ) (front front' rest rest' : List ℕ) → All (λ x. x ≢ b) front → All (λ x. x ≢ b) front' → front ++ b ∷ rest ≡ front' ++ b ∷ rest' → length front ≡ length front'
same_place b [] [] rest rest' none none' e = refl
same_place b [] (x ∷ xs) rest rest' none none' e = absurd (none' 0 0 (omega arith) (sym (same_head b x rest (xs ++ b ∷ rest') e)))
same_place b (x ∷ xs) [] rest rest' none none' e = absurd (none 0 0 (omega arith) (same_head x b (xs ++ b ∷ rest) rest' e))
same_place b (x ∷ xs) (y ∷ ys) rest rest' none none' e =
    ap suc (same_place b xs ys rest rest' (λ k d lt. none (suc k) d (omega (arith, lt))) (λ k d lt. none' (suc k) d (omega (arith, lt))) (same_tail x y (xs ++ b ∷ rest) (ys ++ b ∷ rest') e))

-- a byte that stands behind a front is none that stands nowhere
pub not_nowhere : (b : ℕ) (front rest : List ℕ) → All (λ x. x ≢ b) (front ++ b ∷ rest) → ⊥
not_nowhere b [] rest none = none 0 0 (omega arith) refl
not_nowhere b (x ∷ xs) rest none = not_nowhere b xs rest (λ k d lt. none (suc k) d (omega (arith, lt)))

pub first_is : (b : ℕ) (text front rest : List ℕ) (at : ℕ) → StandsFirst b text at → All (λ x. x ≢ b) front → text ≡ front ++ b ∷ rest → at ≡ length front
first_is b text front rest at first none parts =
    omega (arith, same_place b (take at text) front (drop (at + 1) text) rest first.before none (sym first.parts ∙ parts), length-take at text, first.within)

pub not_true : false ≡ true → ⊥
not_true e = cc

pub behind_at : (at : ℕ) (text : List ℕ) → take (length text - at) (drop at text) ≡ drop at text
behind_at at text = take_all (length text - at) (drop at text) (omega (arith, length-drop at text))
