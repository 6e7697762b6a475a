-- A list with another element at a place.
use Rattle.std.proofs.Common.{◌≡◌, refl, ap, ℕ, zero, suc, ◌+◌, ◌<◌, List, [], ◌∷◌, length, Some, rules, arith}
use Rattle.std.specs.Prelude.{slice_get, slice_set}

module _ {A : Type 0} where
  pub set_size : (xs : List A) (i : ℕ) (y : A) → length (slice_set xs i y) ≡ length xs
  set_size [] i y = refl
  set_size (x ∷ xs) zero y = refl
  set_size (x ∷ xs) (suc i) y = ap suc (set_size xs i y)

  pub set_here : (xs : List A) (i : ℕ) (y : A) → i < length xs → slice_get (slice_set xs i y) i ≡ Some y
  set_here [] i y w = absurd (omega (arith, w))
  set_here (x ∷ xs) zero y w = refl
  set_here (x ∷ xs) (suc i) y w = set_here xs i y (omega (arith, w))

  pub set_elsewhere : (xs : List A) (i : ℕ) (y : A) (n : ℕ) → (n ≡ i → ⊥) → slice_get (slice_set xs i y) n ≡ slice_get xs n
  set_elsewhere [] i y n h = refl
  set_elsewhere (x ∷ xs) zero y zero h = absurd (h refl)
  set_elsewhere (x ∷ xs) zero y (suc n) h = refl
  set_elsewhere (x ∷ xs) (suc i) y zero h = refl
  set_elsewhere (x ∷ xs) (suc i) y (suc n) h = set_elsewhere xs i y n (λ e. h (ap suc e))

-- a place, or elsewhere
pub data Same (n i : ℕ) : Type 0 where
  here : n ≡ i → Same n i
  elsewhere : (n ≡ i → ⊥) → Same n i

one_more : (n i : ℕ) → Same n i → Same (suc n) (suc i)
one_more n i (here e) = here (ap suc e)
one_more n i (elsewhere f) = elsewhere (λ e. f (omega (arith, e)))

pub where_is : (n i : ℕ) → Same n i
where_is zero zero = here refl
where_is zero (suc i) = elsewhere (λ e. search (rules, e))
where_is (suc n) zero = elsewhere (λ e. search (rules, e))
where_is (suc n) (suc i) = one_more n i (where_is n i)

-- a place before the next one that is another
pub before : (n i : ℕ) → n < i + 1 → (n ≡ i → ⊥) → n < i
before zero zero w f = absurd (f refl)
before zero (suc i) w f = omega arith
before (suc n) zero w f = absurd (omega (arith, w))
before (suc n) (suc i) w f = let h = before n i (omega (arith, w)) (λ e. f (ap suc e)) in omega arith
