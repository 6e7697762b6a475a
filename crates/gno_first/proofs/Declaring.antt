-- Names that are declared one behind the other, and those that may stand together.
use Rattle.std.proofs.Common.{◌≡◌, ℕ, List, [], ◌∷◌, ◌++◌, Bool, true, false, cond, refl, sym, Option, Some, None, append_assoc, ◌+◌, ◌≤◌, length, drop}
use Rattle.std.specs.List.{list_all}
use Rattle.std.specs.Option.{option_map}
use Rattle.std.proofs.lemmas.List.{append-nil, drop_all}
use Rattle.gno_first.specs.Declaring.{is_new, with_names, alone}
use Rattle.gno_first.specs.Form.{are_names}
use Rattle.gno_first.specs.Lawful.{are_distinct}
use Rattle.gno_first.specs.Names.{is_name}
use Rattle.gno_first.specs.Options.{and_then, each, all_from}
use Rattle.gno_first.proofs.Places.{both_true}
use Rattle.gno_first.proofs.Distinct.{AreNames, one_more_name, next_is_new, names_in_front}

pub as_names : (names : List (List ℕ)) → are_names names ≡ true → AreNames names
unfolding are_names
as_names names e =
    let parts = both_true (list_all is_name names) (are_distinct names) e in
    record { each = parts.0; differ = parts.1 }

pub from_names : (names : List (List ℕ)) → AreNames names → are_names names ≡ true
unfolding are_names
from_names names all = rw (all.each, all.differ) refl

-- names that begin other names
pub front_names : (names more : List (List ℕ)) → are_names (names ++ more) ≡ true → are_names names ≡ true
front_names names more e = from_names names (names_in_front names more (as_names (names ++ more) e))

pub with_new : (names : List (List ℕ)) (name : List ℕ) → are_names names ≡ true → is_new names name ≡ true → with_names names (Some (alone name)) ≡ Some (names ++ name ∷ [])
unfolding with_names
with_new names name all new = rw (from_names (names ++ name ∷ []) (one_more_name names name (as_names names all) new)) refl

pub test_false : (b : Bool) → (b ≡ true → ⊥) → b ≡ false
test_false true h = absurd (h refl)
test_false false h = refl

-- names do not stand together where their front does not
pub with_none : (names ys more : List (List ℕ)) → with_names names (Some ys) ≡ None → with_names names (Some (ys ++ more)) ≡ None
unfolding with_names
with_none names ys more e =
    let no : are_names (names ++ (ys ++ more)) ≡ false = test_false (are_names (names ++ (ys ++ more))) (λ all.
    let whole : are_names ((names ++ ys) ++ more) ≡ true = rw append_assoc all in
    let front = front_names (names ++ ys) more whole in
    let some : cond (are_names (names ++ ys)) (Some (names ++ ys)) None ≡ Some (names ++ ys) = rw front refl in
    cc) in
    rw no refl

pub with_old : (names : List (List ℕ)) (name : List ℕ) → is_new names name ≡ false → with_names names (Some (alone name)) ≡ None
unfolding with_names
with_old names name old =
    let no : are_names (names ++ name ∷ []) ≡ false = test_false (are_names (names ++ name ∷ [])) (λ all.
    let new = next_is_new names [] name (as_names (names ++ name ∷ []) all) in
    cc) in
    rw no refl

-- what stands together
pub with_names_is : (names ys scope : List (List ℕ)) → with_names names (Some ys) ≡ Some scope → (scope ≡ names ++ ys) × (are_names scope ≡ true)
unfolding with_names
with_names_is names ys scope e = by_test (are_names (names ++ ys)) refl e
  where
    by_test : (b : Bool) → are_names (names ++ ys) ≡ b → cond b (Some (names ++ ys)) None ≡ Some scope → (scope ≡ names ++ ys) × (are_names scope ≡ true)
    by_test true t h = let same : scope ≡ names ++ ys = cc in (same, rw same t)
    by_test false t h = let no : ⊥ = cc in absurd no

pub with_nothing : (names : List (List ℕ)) → are_names names ≡ true → with_names names (Some []) ≡ Some names
unfolding with_names
with_nothing names all = rw (append-nil names, all) refl

none_of : (b : Bool) (l : List (List ℕ)) → cond b (Some l) None ≡ None → b ≡ false
none_of true l e = let no : ⊥ = cc in absurd no
none_of false l e = refl

-- what does not stand together
pub no_names : (names more : List (List ℕ)) → with_names names (Some more) ≡ None → are_names (names ++ more) ≡ false
unfolding with_names
no_names names more e = none_of (are_names (names ++ more)) (names ++ more) e

pub all_names : (names more scope : List (List ℕ)) → with_names names (Some more) ≡ Some scope → are_names (names ++ more) ≡ true
all_names names more scope e =
    let found = with_names_is names more scope e in
    rw (← found.0) found.1

-- what comes behind names that were added
abbrev pub behind : Option (List (List ℕ)) → List (List ℕ) → Option (List (List ℕ))
behind rest ys = option_map (λ more. ys ++ more) rest

pub with_more : (names : List (List ℕ)) (found rest : Option (List (List ℕ))) (scope : List (List ℕ)) → with_names names found ≡ Some scope
    → with_names names (and_then found (behind rest)) ≡ with_names scope rest
unfolding with_names
with_more names None rest scope e = cc
with_more names (Some ys) None scope e = refl
with_more names (Some ys) (Some more) scope e =
    let same = (with_names_is names ys scope e).0 in
    rw (same, append_assoc names ys more) refl

pub with_failed : (names : List (List ℕ)) (found rest : Option (List (List ℕ))) → with_names names found ≡ None → with_names names (and_then found (behind rest)) ≡ None
unfolding with_names
with_failed names None rest e = refl
with_failed names (Some ys) None e = refl
with_failed names (Some ys) (Some more) e = with_none names ys more e

pub with_none_found : (names : List (List ℕ)) → with_names names None ≡ None
unfolding with_names
with_none_found names = refl

pub with_stands : (names : List (List ℕ)) (found : Option (List (List ℕ))) (scope : List (List ℕ)) → with_names names found ≡ Some scope → are_names scope ≡ true
with_stands names None scope e = let no : ⊥ = cc (with_none_found names) in absurd no
with_stands names (Some ys) scope e = (with_names_is names ys scope e).1

-- one name that is found, and those behind it
one_found : (found : Option (List ℕ)) (rest : Option (List (List ℕ))) → and_then (option_map alone found) (behind rest) ≡ and_then found (λ y. option_map (λ ys. y ∷ ys) rest)
one_found None rest = refl
one_found (Some y) rest = refl

pub each_more : {A : Type 0} → (f : A → Option (List ℕ)) (names : List (List ℕ)) (xs : List A) (i : ℕ) (x : A) (scope : List (List ℕ)) → drop i xs ≡ x ∷ drop (i + 1) xs
    → with_names names (option_map alone (f x)) ≡ Some scope → with_names scope (each f (drop (i + 1) xs)) ≡ with_names names (each f (drop i xs))
each_more f names xs i x scope at e =
    rw (at, ← one_found (f x) (each f (drop (i + 1) xs))) (sym (with_more names (option_map alone (f x)) (each f (drop (i + 1) xs)) scope e))

pub each_fails : {A : Type 0} → (f : A → Option (List ℕ)) (names : List (List ℕ)) (xs : List A) (i : ℕ) (x : A) → drop i xs ≡ x ∷ drop (i + 1) xs
    → with_names names (option_map alone (f x)) ≡ None → with_names names (each f (drop i xs)) ≡ None
each_fails f names xs i x at e = rw (at, ← one_found (f x) (each f (drop (i + 1) xs))) (with_failed names (option_map alone (f x)) (each f (drop (i + 1) xs)) e)

pub each_ends : {A : Type 0} → (f : A → Option (List ℕ)) (names : List (List ℕ)) (xs : List A) (i : ℕ) → length xs ≤ i → are_names names ≡ true → with_names names (each f (drop i xs)) ≡ Some names
each_ends f names xs i h all = rw (drop_all i xs h) (with_nothing names all)

pub from_more : {A : Type 0} → (f : A → Option (List (List ℕ))) (names : List (List ℕ)) (xs : List A) (i : ℕ) (x : A) (scope : List (List ℕ)) → drop i xs ≡ x ∷ drop (i + 1) xs
    → with_names names (f x) ≡ Some scope → with_names scope (all_from f (drop (i + 1) xs)) ≡ with_names names (all_from f (drop i xs))
from_more f names xs i x scope at e = rw at (sym (with_more names (f x) (all_from f (drop (i + 1) xs)) scope e))

pub from_fails : {A : Type 0} → (f : A → Option (List (List ℕ))) (names : List (List ℕ)) (xs : List A) (i : ℕ) (x : A) → drop i xs ≡ x ∷ drop (i + 1) xs
    → with_names names (f x) ≡ None → with_names names (all_from f (drop i xs)) ≡ None
from_fails f names xs i x at e = rw at (with_failed names (f x) (all_from f (drop (i + 1) xs)) e)

pub from_ends : {A : Type 0} → (f : A → Option (List (List ℕ))) (names : List (List ℕ)) (xs : List A) (i : ℕ) → length xs ≤ i → are_names names ≡ true → with_names names (all_from f (drop i xs)) ≡ Some names
from_ends f names xs i h all = rw (drop_all i xs h) (with_nothing names all)

pub nothing_stands : are_names [] ≡ true
unfolding are_names
nothing_stands = refl
