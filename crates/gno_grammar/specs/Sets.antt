-- Sets of kinds of token: lists of numbers.
use Rattle.std.specs.Prelude.{ℕ, Bool, true, false, not, ◌||◌, ◌&&◌, ◌==◌, List, [], ◌∷◌}

unfoldable pub member : ℕ → List ℕ → Bool
member k [] = false
member k (x ∷ xs) = (k == x) || member k xs

unfoldable pub disjoint : List ℕ → List ℕ → Bool
disjoint [] ys = true
disjoint (x ∷ xs) ys = not (member x ys) && disjoint xs ys

unfoldable pub within : List ℕ → List ℕ → Bool
within [] ys = true
within (x ∷ xs) ys = member x ys && within xs ys

abbrev pub choose {ℓ} : {X : Type ℓ} → Bool → X → X → X
choose true x y = x
choose false x y = y
