-- Values that may be missing, one behind the other.
use Rattle.std.specs.Prelude.{List, [], ◌∷◌, ◌++◌, Bool, true, false, Option, Some, None, option_map}

abbrev pub and_then : {A B : Type 0} → Option A → (A → Option B) → Option B
and_then None next = None
and_then (Some value) next = next value

-- the value, where the test holds
abbrev pub where_true : {A : Type 0} → Bool → Option A → Option A
where_true true value = value
where_true false value = None

-- what stands alone
abbrev pub only : {A : Type 0} → List A → Option A
only [] = None
only (x ∷ []) = Some x
only (x ∷ y ∷ more) = None

-- what each gives, where each gives something
abbrev pub each : {A B : Type 0} → (A → Option B) → List A → Option (List B)
each f [] = Some []
each f (x ∷ xs) = and_then (f x) (λ y. option_map (λ ys. y ∷ ys) (each f xs))

-- the lists that each gives, one behind the other, where each gives one
abbrev pub all_from : {A B : Type 0} → (A → Option (List B)) → List A → Option (List B)
all_from f [] = Some []
all_from f (x ∷ xs) = and_then (f x) (λ ys. option_map (λ more. ys ++ more) (all_from f xs))

abbrev pub is_empty : {A : Type 0} → List A → Bool
is_empty [] = true
is_empty (x ∷ xs) = false
