-- Lists whose items each give something, item by item.
use Rattle.std.proofs.Common.{◌≡◌, ℕ, ◌+◌, ◌<◌, ◌≤◌, List, [], ◌∷◌, ◌++◌, length, get_or, drop, refl, sym, ◌∙◌, ap, Option, Some, None, append_assoc}
use Rattle.std.specs.Option.{option_map}
use Rattle.std.proofs.lemmas.List.{append-nil, drop_more, drop_all}
use Rattle.gno_first.specs.declared.fault.FirstFault.{FirstFault}
use Rattle.gno_first.specs.declared.fault.FirstFault.TheVariants.{NotFirst, NoMemory}
use Rattle.gno_first.specs.Gives.{Fails}
use Rattle.gno_first.specs.Options.{each}

-- what was given so far, and what the rest gives
abbrev pub continued : {B : Type 0} → List B → Option (List B) → Option (List B)
continued done rest = option_map (λ more. done ++ more) rest

pub continued_nothing : {B : Type 0} → (found : Option (List B)) → continued [] found ≡ found
continued_nothing None = refl
continued_nothing (Some ys) = refl

-- the rest of a list begins with the item at its place
pub rest_at : {A : Type 0} → (xs : List A) (i : ℕ) (x : A) → i < length xs → x ≡ get_or xs i x → drop i xs ≡ x ∷ drop (i + 1) xs
rest_at xs i x h e = drop_more xs i x h ∙ ap (λ w. w ∷ drop (i + 1) xs) (sym e)

pub each_start : {A B : Type 0} → (f : A → Option B) (xs : List A) (done : List B) → done ≡ [] → continued done (each f xs) ≡ each f xs
each_start f xs done e = rw e (continued_nothing (each f xs))

continued_again : {B : Type 0} → (done : List B) (y : B) (rest : Option (List B)) → continued (done ++ y ∷ []) rest ≡ continued done (option_map (λ ys. y ∷ ys) rest)
continued_again done y None = refl
continued_again done y (Some more) = rw (append_assoc done (y ∷ []) more) refl

pub each_next : {A B : Type 0} → (f : A → Option B) (done : List B) (xs : List A) (i : ℕ) (x : A) (y : B) → drop i xs ≡ x ∷ drop (i + 1) xs → f x ≡ Some y
    → continued (done ++ y ∷ []) (each f (drop (i + 1) xs)) ≡ continued done (each f (drop i xs))
each_next f done xs i x y at e = rw (at, e) (continued_again done y (each f (drop (i + 1) xs)))

pub each_failed : {A B : Type 0} → (f : A → Option B) (done : List B) (xs : List A) (i : ℕ) (x : A) → drop i xs ≡ x ∷ drop (i + 1) xs → f x ≡ None
    → continued done (each f (drop i xs)) ≡ None
each_failed f done xs i x at e = rw (at, e) refl

pub each_over : {A B : Type 0} → (f : A → Option B) (done : List B) (xs : List A) (i : ℕ) → length xs ≤ i → continued done (each f (drop i xs)) ≡ Some done
each_over f done xs i h = rw (drop_all i xs h, append-nil done) refl

-- what fails where a part fails
pub fails_with : {A B : Type 0} → (part : Option A) (whole : Option B) (fault : FirstFault) → (part ≡ None → whole ≡ None) → Fails part fault → Fails whole fault
fails_with part whole NotFirst h e = h e
fails_with part whole NoMemory h e = tt
