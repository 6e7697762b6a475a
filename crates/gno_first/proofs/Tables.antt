-- A table of places after a new name has come to the end.
use Rattle.std.proofs.Common.{◌≡◌, ◌∙◌, ℕ, List, [], ◌∷◌, ◌++◌, length, Bor, Some, None, refl}
use Rattle.std.specs.BTreeMap.{BTreeMap, UpdatesBy}
use Rattle.std.specs.Cmp.Lexicographic.{slice_cmp}
use Rattle.std.specs.Ordering.{nat_cmp}
use Rattle.std.proofs.lemmas.Map.Text.{btree_map_updates_str}
use Rattle.gno_first.specs.Scope.{HasPlaces}
use Rattle.gno_first.specs.Places.{place}
use Rattle.gno_first.proofs.Places.{place_push}

pub has_places_push : (table next : BTreeMap (Bor (List ℕ)) ℕ) (names : List (List ℕ)) (name : List ℕ) (count : ℕ) → HasPlaces table names → place name names ≡ None → count ≡ length names
    → UpdatesBy (λ x y. slice_cmp nat_cmp x.now y.now) (λ key. slice_cmp nat_cmp name key.now) table next (Some count) → HasPlaces next (names ++ name ∷ [])
has_places_push table next names name count has new at updates = λ query.
    btree_map_updates_str name table next (Some count) updates query ∙ rw (place_push query name names new, at, has query) refl
