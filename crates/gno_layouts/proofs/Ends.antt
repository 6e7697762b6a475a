-- A list with one element more.
use Rattle.std.proofs.Common.{◌≡◌, refl, sym, ap, ℕ, zero, suc, ◌<◌, List, [], ◌∷◌, ◌++◌, length, Option, Some, None, rules, arith}
use Rattle.std.specs.Prelude.{slice_get}

module _ {A : Type 0} where
  pub get_left : (xs : List A) (y : A) (i : ℕ) (x : A) → slice_get xs i ≡ Some x → slice_get (xs ++ y ∷ []) i ≡ Some x
  get_left [] y i x e = absurd (search (rules, e))
  get_left (z ∷ xs) y zero x e = e
  get_left (z ∷ xs) y (suc i) x e = get_left xs y i x e

  pub get_last : (xs : List A) (y : A) → slice_get (xs ++ y ∷ []) (length xs) ≡ Some y
  get_last [] y = refl
  get_last (z ∷ xs) y = get_last xs y

  -- an element of the longer list is one of the shorter, or the last
  pub data Where (xs : List A) (y : A) (i : ℕ) (x : A) : Type 0 where
    inside : slice_get xs i ≡ Some x → Where xs y i x
    last : i ≡ length xs → x ≡ y → Where xs y i x

  some_of : A → Option A → A
  some_of d None = d
  some_of d (Some a) = a

  further : {z : A} {xs : List A} {y : A} {i : ℕ} {x : A} → Where xs y i x → Where (z ∷ xs) y (suc i) x
  further (inside h) = inside h
  further (last h k) = last (ap suc h) k

  pub get_where : (xs : List A) (y : A) (i : ℕ) (x : A) → slice_get (xs ++ y ∷ []) i ≡ Some x → Where xs y i x
  unfolding some_of
  get_where [] y zero x e = last refl (ap (some_of x) (sym e))
  get_where [] y (suc i) x e = absurd (search (rules, e))
  get_where (z ∷ xs) y zero x e = inside e
  get_where (z ∷ xs) y (suc i) x e = further (get_where xs y i x e)

  pub some_at : (xs : List A) (i : ℕ) → i < length xs → (x : A) × (slice_get xs i ≡ Some x)
  some_at [] i w = absurd (omega (arith, w))
  some_at (x ∷ xs) zero w = (x, refl)
  some_at (x ∷ xs) (suc i) w = some_at xs i (omega (arith, w))
