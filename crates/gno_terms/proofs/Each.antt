-- What holds of each of a list.
use Rattle.std.proofs.Common.{List, [], ◌∷◌, ◌++◌, map}
use Rattle.gno_terms.specs.Lawful.{Each}

pub each-append : {A : Type 0} (P : A → Type 0) (xs ys : List A) → Each P xs → Each P ys → Each P (xs ++ ys)
each-append P [] ys p q = q
each-append P (x ∷ xs) ys p q = (p.0, each-append P xs ys p.1 q)

pub each_parts : {A : Type 0} (P : A → Type 0) (xs ys : List A) → Each P (xs ++ ys) → Each P xs × Each P ys
each_parts P [] ys p = (tt, p)
each_parts P (x ∷ xs) ys p = let t = each_parts P xs ys p.1 in ((p.0, t.0), t.1)

pub each-map : {A B : Type 0} (P : A → Type 0) (Q : B → Type 0) (f : A → B) → ((a : A) → P a → Q (f a)) → (xs : List A) → Each P xs → Each Q (map f xs)
each-map P Q f h [] p = tt
each-map P Q f h (x ∷ xs) p = (h x p.0, each-map P Q f h xs p.1)

pub each_of-map : {A B : Type 0} (P : A → Type 0) (Q : B → Type 0) (f : A → B) → ((a : A) → Q (f a) → P a) → (xs : List A) → Each Q (map f xs) → Each P xs
each_of-map P Q f h [] p = tt
each_of-map P Q f h (x ∷ xs) p = (h x p.0, each_of-map P Q f h xs p.1)

pub each_both : {A : Type 0} (P Q : A → Type 0) (xs : List A) → Each P xs → Each Q xs → Each (λ x. P x × Q x) xs
each_both P Q [] p q = tt
each_both P Q (x ∷ xs) p q = ((p.0, q.0), each_both P Q xs p.1 q.1)
