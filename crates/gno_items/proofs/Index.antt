-- The index of the packages by their paths.
use Rattle.std.proofs.Common.{◌≡◌, ◌∙◌, ℕ, suc, ◌<◌, List, [], ◌∷◌, ◌++◌, true, false, cond, refl, sym, ap, subst, arith, length, set, get_or, Option, Some, None, Vec}
use Rattle.std.specs.Prelude.{slice_get, IfSome, IsSome}
use Rattle.std.specs.Option.{option_map}
use Rattle.std.specs.declared.alloc.Global.{Global}
use Rattle.std.specs.declared.cmp.Ordering.{Ordering}
use Rattle.std.specs.BTreeMap.{BTreeMap, UpdatesBy}
use Rattle.std.specs.Cmp.Lexicographic.{slice_cmp}
use Rattle.std.specs.Ordering.{nat_cmp}
use Rattle.std.specs.Str.{bytes_eq}
use Rattle.std.proofs.lemmas.Slice.Eq.{bytes_eq-Decides}
use Rattle.std.proofs.lemmas.Option.{slice_get_within, slice_get_read}
use Rattle.std.proofs.lemmas.List.{map_push, length-map}
use Rattle.gno_base.specs.Number.{Number}
use Rattle.gno_first.specs.Places.{place}
use Rattle.gno_first.proofs.Places.{absent_parts, bytes_eq_sym, place_is}
use Rattle.gno_items.proofs.Tables.{has_places_push, place_append}
use Rattle.gno_items.specs.Index.{HasPlaces}
use Rattle.gno_items.specs.Well.{IsWell, IsWellPackage}
use Rattle.gno_items.specs.declared.memory.Package.{Package}
use Rattle.gno_items.proofs.ValueSteps.{valued}
use Rattle.gno_items.specs.Memory.{package_of, paths, with_values}

abbrev pub key_cmp : Vec ℕ Global → Vec ℕ Global → Ordering
key_cmp x y = slice_cmp nat_cmp x.items y.items

-- what is found at a place
abbrev pub at_place : List Package → Option ℕ → Option Package
at_place ps None = None
at_place ps (Some n) = slice_get ps n

next_place : (p : Package) (ps : List Package) (o : Option ℕ) → at_place (p ∷ ps) (option_map suc o) ≡ at_place ps o
next_place p ps None = refl
next_place p ps (Some n) = refl

pub found_at : (ps : List Package) (path : List ℕ) → at_place ps (place path (paths ps)) ≡ package_of ps path
found_at [] path = refl
found_at (p ∷ ps) path =
    rw (bytes_eq_sym p.path path)
    (elim (bytes_eq path p.path) as (λ b. at_place (p ∷ ps) (cond b (Some 0) (option_map suc (place path (paths ps)))) ≡ cond b (Some p) (package_of ps path)) [
      | true ↦ refl
      | false ↦ next_place p ps (place path (paths ps)) ∙ found_at ps path
    ])

pub place_within : (ps : List Package) (path : List ℕ) (n : ℕ) → place path (paths ps) ≡ Some n → n < length ps
place_within ps path n e = omega (arith, length-map ps (λ (p : Package). p.path), slice_get_within (paths ps) n path (place_is path (paths ps) n e))

-- a name that comes once more to the end
other_end : (q name : List ℕ) (names : List (List ℕ)) → bytes_eq q name ≡ false → place q (names ++ name ∷ []) ≡ place q names
other_end q name [] e = rw e refl
other_end q name (x ∷ xs) e = ap (λ o. cond (bytes_eq q x) (Some 0) (option_map suc o)) (other_end q name xs e)

pub place_again : (q name : List ℕ) (names : List (List ℕ)) (n : ℕ) → place name names ≡ Some n → place q (names ++ name ∷ []) ≡ place q names
place_again q name names n e =
    elim (bytes_eq q name) as (λ b. bytes_eq q name ≡ b → place q (names ++ name ∷ []) ≡ place q names) [
      | true ↦ λ t.
          let same : q ≡ name = (bytes_eq-Decides q name).0 t in
          let there : place q names ≡ Some n = ap (λ l. place l names) same ∙ e in
          place_append q names (name ∷ []) n there ∙ sym there
      | false ↦ λ t. other_end q name names t
    ] refl

pub same_paths : (ps : List Package) (path : List ℕ) (values : List Number) → paths (with_values ps path values) ≡ paths ps
same_paths [] path values = refl
same_paths (p ∷ ps) path values =
    elim (bytes_eq p.path path) as (λ b. paths (cond b (valued p values ∷ ps) (p ∷ with_values ps path values)) ≡ paths (p ∷ ps)) [
      | true ↦ refl
      | false ↦ ap (λ t. p.path ∷ t) (same_paths ps path values)
    ]

pub set_nowhere : (ps : List Package) (path : List ℕ) (values : List Number) → place path (paths ps) ≡ None → ps ≡ with_values ps path values
set_nowhere [] path values e = refl
set_nowhere (p ∷ ps) path values e =
    let parts = absent_parts (bytes_eq path p.path) (place path (paths ps)) e in
    rw (bytes_eq_sym p.path path, parts.0) (ap (λ t. p ∷ t) (set_nowhere ps path values parts.1))

pub set_place : (ps : List Package) (path : List ℕ) (values : List Number) (n : ℕ) (x : Package) → place path (paths ps) ≡ Some n → x ≡ get_or ps n x → set ps n (valued x values) ≡ with_values ps path values
set_place [] path values n x e h = cc
set_place (p ∷ ps) path values n x e h =
    rw (bytes_eq_sym p.path path)
    (elim (bytes_eq path p.path) as (λ b. cond b (Some 0) (option_map suc (place path (paths ps))) ≡ Some n → set (p ∷ ps) n (valued x values) ≡ cond b (valued p values ∷ ps) (p ∷ with_values ps path values)) [
      | true ↦ λ q.
          let at : 0 ≡ n = cc in
          subst (λ k. x ≡ get_or (p ∷ ps) k x → set (p ∷ ps) k (valued x values) ≡ valued p values ∷ ps) at (λ g. ap (λ (y : Package). valued y values ∷ ps) g) h
      | false ↦ λ q. elim (place path (paths ps)) as (λ o. place path (paths ps) ≡ o → option_map suc o ≡ Some n → set (p ∷ ps) n (valued x values) ≡ p ∷ with_values ps path values) [
        | None ↦ λ i q. cc
        | Some m ↦ λ i q.
            let at : suc m ≡ n = cc in
            subst (λ k. x ≡ get_or (p ∷ ps) k x → set (p ∷ ps) k (valued x values) ≡ p ∷ with_values ps path values) at (λ g. ap (λ t. p ∷ t) (set_place ps path values m x i g)) h
      ] refl q
    ] e)

pub some_within : (ps : List Package) (path : List ℕ) (o : Option ℕ) → o ≡ place path (paths ps) → IfSome o (λ at. at < length ps)
some_within ps path None e = tt
some_within ps path (Some n) e = place_within ps path n (sym e)

pub found_some : (ps : List Package) (path : List ℕ) (n : ℕ) (x : Package) → Some n ≡ place path (paths ps) → x ≡ get_or ps n x → Some x ≡ package_of ps path
found_some ps path n x e h = sym (slice_get_read ps (length ps) n x refl (place_within ps path n (sym e)) h) ∙ ap (at_place ps) e ∙ found_at ps path

pub found_none : (ps : List Package) (path : List ℕ) → None ≡ place path (paths ps) → None ≡ package_of ps path
found_none ps path e = ap (at_place ps) e ∙ found_at ps path

pub well_found : (ps : List Package) (path : List ℕ) (x : Package) → IsWell ps → Some x ≡ package_of ps path → IsWellPackage x
well_found [] path x w e = cc
well_found (p ∷ ps) path x w e =
    elim (bytes_eq p.path path) as (λ b. Some x ≡ cond b (Some p) (package_of ps path) → IsWellPackage x) [
      | true ↦ λ q. let same : p ≡ x = cc in subst (λ (y : Package). IsWellPackage y) same w.0
      | false ↦ λ q. well_found ps path x w.2 q
    ] e

-- a package of a path that is there leaves the index
pub index_again : (table : BTreeMap (Vec ℕ Global) ℕ) (ps next : List Package) (p : Package) → HasPlaces table (paths ps) → IsSome (place p.path (paths ps)) → next ≡ ps ++ p ∷ [] → HasPlaces table (paths next)
index_again table ps next p has there e = λ name. has name ∙ again name (place p.path (paths ps)) refl there ∙ ap (place name) (sym (ap paths e ∙ map_push (λ (p : Package). p.path) ps p))
  where
    again : (name : List ℕ) (o : Option ℕ) → place p.path (paths ps) ≡ o → IsSome o → place name (paths ps) ≡ place name (paths ps ++ p.path ∷ [])
    again name None i s = cc
    again name (Some n) i s = sym (place_again name p.path (paths ps) n i)

-- and one of a new path comes to its end
pub index_first : (table index : BTreeMap (Vec ℕ Global) ℕ) (ps next : List Package) (p : Package) (key : Vec ℕ Global) (count : ℕ) → HasPlaces table (paths ps) → place p.path (paths ps) ≡ None → key.items ≡ p.path → count ≡ length ps
    → UpdatesBy key_cmp (key_cmp key) table index (Some count) → next ≡ ps ++ p ∷ [] → HasPlaces index (paths next)
index_first table index ps next p key count has new k c updates e =
    let absent : place key.items (paths ps) ≡ None = ap (λ l. place l (paths ps)) k ∙ new in
    let pushed : paths next ≡ paths ps ++ key.items ∷ [] = ap paths e ∙ map_push (λ (p : Package). p.path) ps p ∙ ap (λ l. paths ps ++ l ∷ []) (sym k) in
    subst (HasPlaces index) (sym pushed) (has_places_push table index (paths ps) key count has absent (c ∙ sym (length-map ps (λ (p : Package). p.path))) updates)

pub index_same : (table : BTreeMap (Vec ℕ Global) ℕ) (ps next : List Package) (path : List ℕ) (values : List Number) → HasPlaces table (paths ps) → next ≡ with_values ps path values → HasPlaces table (paths next)
index_same table ps next path values has e = subst (HasPlaces table) (sym (ap paths e ∙ same_paths ps path values)) has
