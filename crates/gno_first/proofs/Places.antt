-- Names in lists: their places, and whether they differ.
use Rattle.std.proofs.Common.{◌≡◌, ℕ, suc, List, [], ◌∷◌, ◌++◌, length, Bool, true, false, cond, refl, sym, ◌∙◌, ap, Option, Some, None, ◌&&◌, ◌||◌, not, subst}
use Rattle.std.specs.Str.{bytes_eq}
use Rattle.std.specs.List.{list_any, slice_get}
use Rattle.std.specs.Option.{option_map, is_some}
use Rattle.std.proofs.lemmas.Slice.Eq.{bytes_eq-Decides}
use Rattle.gno_first.specs.Names.{is_among}
use Rattle.gno_first.specs.Places.{place}

pub bool_same : (a b : Bool) → (a ≡ true → b ≡ true) → (b ≡ true → a ≡ true) → a ≡ b
bool_same true true h k = refl
bool_same true false h k = let e = h refl in cc
bool_same false true h k = let e = k refl in cc
bool_same false false h k = refl

pub bytes_eq_sym : (xs ys : List ℕ) → bytes_eq xs ys ≡ bytes_eq ys xs
bytes_eq_sym xs ys = bool_same (bytes_eq xs ys) (bytes_eq ys xs)
    (λ e. (bytes_eq-Decides ys xs).1 (sym ((bytes_eq-Decides xs ys).0 e)))
    (λ e. (bytes_eq-Decides xs ys).1 (sym ((bytes_eq-Decides ys xs).0 e)))

none_under_suc : (o : Option ℕ) → option_map suc o ≡ None → o ≡ None
none_under_suc None e = refl
none_under_suc (Some n) e = cc

-- the head differs, and the name is not in the tail
pub absent_parts : (b : Bool) (o : Option ℕ) → cond b (Some 0) (option_map suc o) ≡ None → (b ≡ false) × (o ≡ None)
absent_parts true o e = let f : (true ≡ false) × (o ≡ None) = (cc, cc) in f
absent_parts false o e = (refl, none_under_suc o e)

-- a name that is not in the list is not among its words
pub not_among : (name : List ℕ) (names : List (List ℕ)) → is_among names name ≡ false → place name names ≡ None
not_among name [] e = refl
not_among name (x ∷ xs) e =
    elim (bytes_eq name x) as (λ b. (b || list_any (bytes_eq name) xs) ≡ false → cond b (Some 0) (option_map suc (place name xs)) ≡ None)
    [ true ↦ λ h. cc | false ↦ λ h. rw (not_among name xs h) refl ] e

pub among_is_placed : (name : List ℕ) (names : List (List ℕ)) → is_among names name ≡ is_some (place name names)
among_is_placed name [] = refl
among_is_placed name (x ∷ xs) =
    elim (bytes_eq name x) as (λ b. (b || list_any (bytes_eq name) xs) ≡ is_some (cond b (Some 0) (option_map suc (place name xs)))) [
      | true ↦ refl
      | false ↦ among_is_placed name xs ∙ elim (place name xs) as (λ o. is_some o ≡ is_some (option_map suc o)) [ None ↦ refl | Some n ↦ refl ]
    ]

-- the places after a new name has come to the end
pub place_push : (q name : List ℕ) (names : List (List ℕ)) → place name names ≡ None → place q (names ++ name ∷ []) ≡ cond (bytes_eq name q) (Some (length names)) (place q names)
place_push q name [] e = rw (bytes_eq_sym name q) refl
place_push q name (x ∷ xs) e =
    let parts = absent_parts (bytes_eq name x) (place name xs) e in
    let rest = place_push q name xs parts.1 in
    elim (bytes_eq q x) as (λ b. bytes_eq q x ≡ b → cond b (Some 0) (option_map suc (place q (xs ++ name ∷ []))) ≡ cond (bytes_eq name q) (Some (suc (length xs))) (cond b (Some 0) (option_map suc (place q xs)))) [
      | true ↦ λ h.
          let same : q ≡ x = (bytes_eq-Decides q x).0 h in
          let apart : bytes_eq name q ≡ false = ap (bytes_eq name) same ∙ parts.0 in
          rw apart refl
      | false ↦ λ h. rw rest (elim (bytes_eq name q) as (λ b. option_map suc (cond b (Some (length xs)) (place q xs)) ≡ cond b (Some (suc (length xs))) (option_map suc (place q xs))) [ true ↦ refl | false ↦ refl ])
    ]
    refl

pub place_is : (name : List ℕ) (names : List (List ℕ)) (n : ℕ) → place name names ≡ Some n → slice_get names n ≡ Some name
place_is name [] n e = cc
place_is name (x ∷ xs) n e =
    elim (bytes_eq name x) as (λ b. bytes_eq name x ≡ b → cond b (Some 0) (option_map suc (place name xs)) ≡ Some n → slice_get (x ∷ xs) n ≡ Some name) [
      | true ↦ λ t h.
          let same : name ≡ x = (bytes_eq-Decides name x).0 t in
          let at : 0 ≡ n = cc in
          subst (λ k. slice_get (x ∷ xs) k ≡ Some name) at (ap Some (sym same))
      | false ↦ λ t h. elim (place name xs) as (λ o. place name xs ≡ o → option_map suc o ≡ Some n → slice_get (x ∷ xs) n ≡ Some name) [
        | None ↦ λ p q. cc
        | Some m ↦ λ p q. let at : suc m ≡ n = cc in subst (λ k. slice_get (x ∷ xs) k ≡ Some name) at (place_is name xs m p)
      ] refl h
    ]
    refl e

pub both_true : (a b : Bool) → (a && b) ≡ true → (a ≡ true) × (b ≡ true)
both_true true b e = (refl, e)
both_true false b e = let f : (false ≡ true) × (b ≡ true) = (cc, cc) in f

pub not_true : (a : Bool) → not a ≡ true → a ≡ false
not_true true e = cc
not_true false e = refl
