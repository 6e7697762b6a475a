-- What holds of each value that is given.
use Rattle.std.proofs.Common.{◌≡◌, List, [], ◌∷◌, Bool, true, false, refl, subst, Option, Some, None}
use Rattle.std.specs.Prelude.{option_map}
use Rattle.gno_first.specs.Options.{and_then, where_true, each}

-- P of what is given, where something is
abbrev pub Holds : {A : Type 0} → (A → Type 0) → Option A → Type 0
Holds P None = Unit {0}
Holds P (Some x) = P x

pub holds_if : {A : Type 0} → (P : A → Type 0) (o : Option A) → ((x : A) → o ≡ Some x → P x) → Holds P o
holds_if P None h = tt
holds_if P (Some x) h = h x refl

pub holds_at : {A : Type 0} → (P : A → Type 0) (o : Option A) (x : A) → Holds P o → o ≡ Some x → P x
holds_at P o x h e = subst (Holds P) e h

pub holds_then : {A B : Type 0} → (P : B → Type 0) (o : Option A) (f : A → Option B) → ((x : A) → o ≡ Some x → Holds P (f x)) → Holds P (and_then o f)
holds_then P None f h = tt
holds_then P (Some x) f h = h x refl

pub holds_map : {A B : Type 0} → (P : B → Type 0) (g : A → B) (o : Option A) → Holds (λ x. P (g x)) o → Holds P (option_map g o)
holds_map P g None h = tt
holds_map P g (Some x) h = h

pub holds_true : {A : Type 0} → (P : A → Type 0) (b : Bool) (o : Option A) → (b ≡ true → Holds P o) → Holds P (where_true b o)
holds_true P true o h = h refl
holds_true P false o h = tt

abbrev pub AllOf : {A : Type 0} → (A → Type 0) → List A → Type 0
AllOf P [] = Unit {0}
AllOf P (x ∷ xs) = P x × AllOf P xs

pub holds_each : {A B : Type 0} → (P : B → Type 0) (f : A → Option B) → ((x : A) → Holds P (f x)) → (xs : List A) → Holds (AllOf P) (each f xs)
holds_each P f h [] = tt
holds_each P f h (x ∷ xs) = holds_then (AllOf P) (f x) _ (λ y e. holds_map (AllOf P) (λ ys. y ∷ ys) (each f xs)
    (holds_if (λ ys. P y × AllOf P ys) (each f xs) (λ ys d. (holds_at P (f x) y (h x) e, holds_at (AllOf P) (each f xs) ys (holds_each P f h xs) d))))
