-- What is known of the parts of an option that holds something.
use Rattle.std.proofs.Common.{◌≡◌, refl, cond, Bool, true, false, inl, inr}
use Rattle.std.specs.Prelude.{Option, Some, None, ◌⊎◌}
use Rattle.std.specs.Option.{option_map, option_and_then}
use Rattle.std.proofs.lemmas.Option.{none-some, same_Some}

pub bound : {A B : Type 0} (f : A → Option B) (o : Option A) (y : B) → option_and_then f o ≡ Some y → (x : A) × (o ≡ Some x) × (f x ≡ Some y)
bound f None y e = absurd (none-some y e)
bound f (Some x) y e = (x, refl, e)

pub mapped : {A B : Type 0} (f : A → B) (o : Option A) (y : B) → option_map f o ≡ Some y → (x : A) × (o ≡ Some x) × (f x ≡ y)
mapped f None y e = absurd (none-some y e)
mapped f (Some x) y e = (x, refl, same_Some (f x) y e)

pub chosen : {A : Type 0} (b : Bool) (x y z : A) → cond b x y ≡ z → ((b ≡ true) × (x ≡ z)) ⊎ ((b ≡ false) × (y ≡ z))
chosen true x y z e = inl (refl, e)
chosen false x y z e = inr (refl, e)

pub chosen_some : {A : Type 0} (b : Bool) (o : Option A) (y : A) → cond b o None ≡ Some y → (b ≡ true) × (o ≡ Some y)
chosen_some true o y e = (refl, e)
chosen_some false o y e = absurd (none-some y e)

pub bound_none : {A B : Type 0} (f : A → Option B) (o : Option A) → option_and_then f o ≡ None → (o ≡ None) ⊎ ((x : A) × (o ≡ Some x) × (f x ≡ None))
bound_none f None e = inl refl
bound_none f (Some x) e = inr (x, refl, e)
