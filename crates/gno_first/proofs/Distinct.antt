-- Names that may be declared together, and those that may be declared beside them.
use Rattle.std.proofs.Common.{◌≡◌, ℕ, List, [], ◌∷◌, ◌++◌, Bool, true, false, refl, sym, ◌∙◌, ◌&&◌, ◌||◌, not, append_assoc, subst}
use Rattle.std.specs.Str.{bytes_eq}
use Rattle.std.specs.List.{list_all}
use Rattle.std.proofs.lemmas.List.Folds.{list_any-append, list_all-append}
use Rattle.gno_first.specs.Names.{is_among, is_name}
use Rattle.gno_first.specs.Lawful.{are_distinct}
use Rattle.gno_first.specs.Declaring.{is_new}
use Rattle.gno_first.proofs.Places.{bytes_eq_sym, both_true, not_true}

regrouped : (a b d m : Bool) → (not (a || (b || false)) && (d && not m)) ≡ ((not a && d) && not (b || m))
regrouped true b d m = refl
regrouped false true true m = refl
regrouped false true false m = refl
regrouped false false d m = refl

pub distinct_push : (names : List (List ℕ)) (name : List ℕ) → are_distinct (names ++ name ∷ []) ≡ (are_distinct names && not (is_among names name))
distinct_push [] name = refl
distinct_push (x ∷ xs) name =
    rw (list_any-append (bytes_eq x) xs (name ∷ []), distinct_push xs name, bytes_eq_sym name x)
    (regrouped (is_among xs x) (bytes_eq x name) (are_distinct xs) (is_among xs name))

-- names, all of them, and no two the same
pub record AreNames (names : List (List ℕ)) : Type 0 where
  pub each : list_all is_name names ≡ true
  pub differ : are_distinct names ≡ true

pub no_names : AreNames []
no_names = record { each = refl; differ = refl }

new_parts : (a m : Bool) → (a && not m) ≡ true → (a ≡ true) × (m ≡ false)
new_parts true true e = let f : (true ≡ true) × (true ≡ false) = (cc, cc) in f
new_parts true false e = (refl, refl)
new_parts false m e = let f : (false ≡ true) × (m ≡ false) = (cc, cc) in f

pub new_is : (names : List (List ℕ)) (name : List ℕ) → is_new names name ≡ true → (is_name name ≡ true) × (is_among names name ≡ false)
new_is names name e = new_parts (is_name name) (is_among names name) e

pub one_more_name : (names : List (List ℕ)) (name : List ℕ) → AreNames names → is_new names name ≡ true → AreNames (names ++ name ∷ [])
one_more_name names name all new =
    let parts = new_is names name new in
    record {
      each = list_all-append is_name names (name ∷ []) ∙ rw (all.each, parts.0) refl;
      differ = distinct_push names name ∙ rw (all.differ, parts.1) refl;
    }

-- the converse
pub names_before : (names : List (List ℕ)) (name : List ℕ) → AreNames (names ++ name ∷ []) → AreNames names × (is_new names name ≡ true)
names_before names name all =
    let n = both_true (list_all is_name names) (is_name name && true) (sym (list_all-append is_name names (name ∷ [])) ∙ all.each) in
    let m = both_true (is_name name) true n.1 in
    let d = both_true (are_distinct names) (not (is_among names name)) (sym (distinct_push names name) ∙ all.differ) in
    (record { each = n.0; differ = d.0 }, rw (m.0, d.1) refl)

-- the front of such a list, and the name that comes next
pub names_in_front : (names more : List (List ℕ)) → AreNames (names ++ more) → AreNames names
names_in_front [] more all = no_names
names_in_front (x ∷ xs) more all =
    let n = both_true (is_name x) (list_all is_name (xs ++ more)) all.each in
    let d = both_true (not (is_among (xs ++ more) x)) (are_distinct (xs ++ more)) all.differ in
    let rest = names_in_front xs more (record { each = n.1; differ = d.1 }) in
    let out = not_true (is_among (xs ++ more) x) d.0 in
    let parts : (is_among xs x || is_among more x) ≡ false = sym (list_any-append (bytes_eq x) xs more) ∙ out in
    let here = or_false (is_among xs x) (is_among more x) parts in
    record { each = rw (n.0, rest.each) refl; differ = rw (here, rest.differ) refl }
  where
    or_false : (a b : Bool) → (a || b) ≡ false → a ≡ false
    or_false true b e = cc
    or_false false b e = refl

pub next_is_new : (names more : List (List ℕ)) (name : List ℕ) → AreNames (names ++ name ∷ more) → is_new names name ≡ true
next_is_new names more name all =
    let e : names ++ name ∷ more ≡ (names ++ name ∷ []) ++ more = sym (append_assoc names (name ∷ []) more) in
    (names_before names name (names_in_front (names ++ name ∷ []) more (subst AreNames e all))).1
