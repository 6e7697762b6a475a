-- A table of places after a new name has come to the end.
use Rattle.std.proofs.Common.{◌≡◌, ◌∙◌, ℕ, suc, cond, Option, None, List, [], ◌∷◌, ◌++◌, length, Bool, true, false, Some, sym, Vec, refl, subst}
use Rattle.std.specs.declared.cmp.Ordering.{Ordering}
use Rattle.std.specs.BTreeMap.{BTreeMap, get_by, is_at, UpdatesBy}
use Rattle.std.specs.Map.{KeepsOthers, IsKeyTest, AreApart, lookup}
use Rattle.std.specs.Cmp.{eq_by_cmp_equiv}
use Rattle.std.specs.Cmp.Lexicographic.{slice_cmp, nat_list_cmp_total}
use Rattle.std.specs.Ordering.{nat_cmp, is_eq, eq_by_cmp}
use Rattle.std.specs.Str.{bytes_eq}
use Rattle.std.specs.Option.{option_map}
use Rattle.std.specs.declared.alloc.Global.{Global}
use Rattle.std.proofs.lemmas.Map.Text.{is_eq-slice_cmp}
use Rattle.std.proofs.lemmas.Slice.Eq.{bytes_eq-Decides}
use Rattle.gno_items.specs.Index.{HasPlaces}
use Rattle.gno_first.specs.Places.{place}
use Rattle.gno_first.proofs.Places.{place_push, bytes_eq_sym}

abbrev key_cmp : Vec ℕ Global → Vec ℕ Global → Ordering
key_cmp x y = slice_cmp nat_cmp x.items y.items

-- the entries that a query for another key finds
others : (eq : Vec ℕ Global → Vec ℕ Global → Bool) (test other : Vec ℕ Global → Bool) (old new : List (Vec ℕ Global × ℕ)) → KeepsOthers eq test old new → IsKeyTest eq other → AreApart test other
    → lookup other new ≡ lookup other old
unfolding KeepsOthers
others eq test other old new keeps is apart = keeps other is apart

apart_in_order : (name key other : List ℕ) → bytes_eq key name ≡ false → is_eq (slice_cmp nat_cmp key other) ≡ true → is_eq (slice_cmp nat_cmp name other) ≡ false
apart_in_order name key other differ e =
    let same : key ≡ other = (bytes_eq-Decides key other).0 (sym (is_eq-slice_cmp key other) ∙ e) in
    is_eq-slice_cmp name other ∙ subst (λ l. bytes_eq name l ≡ false) same (bytes_eq_sym name key ∙ differ)

pub has_places_push : (table next : BTreeMap (Vec ℕ Global) ℕ) (names : List (List ℕ)) (key : Vec ℕ Global) (count : ℕ) → HasPlaces table names → place key.items names ≡ None → count ≡ length names
    → UpdatesBy key_cmp (key_cmp key) table next (Some count) → HasPlaces next (names ++ key.items ∷ [])
has_places_push table next names key count has new at updates = λ name.
    elim (bytes_eq key.items name) as (λ b. bytes_eq key.items name ≡ b → get_by (λ k. slice_cmp nat_cmp name k.items) next ≡ place name (names ++ key.items ∷ [])) [
      | true ↦ λ e.
          let same : key.items ≡ name = (bytes_eq-Decides key.items name).0 e in
          subst (λ l. get_by (λ k. slice_cmp nat_cmp l k.items) next ≡ place name (names ++ key.items ∷ [])) same
          (updates.1 ∙ rw (place_push name key.items names new, e, at) refl)
      | false ↦ λ e.
          others (eq_by_cmp key_cmp) (is_at (key_cmp key)) (λ k. is_eq (slice_cmp nat_cmp name k.items)) table.entries next.entries updates.3
          (λ x y. (eq_by_cmp_equiv nat_list_cmp_total).congr name x.items y.items) (λ k. apart_in_order name key.items k.items e)
          ∙ has name ∙ rw (place_push name key.items names new, e) refl
    ]
    refl

-- a name stays where it is when more names come behind
pub place_append : (name : List ℕ) (names more : List (List ℕ)) (n : ℕ) → place name names ≡ Some n → place name (names ++ more) ≡ Some n
place_append name [] more n e = cc
place_append name (x ∷ xs) more n e =
    elim (bytes_eq name x) as (λ b. cond b (Some 0) (option_map suc (place name xs)) ≡ Some n → cond b (Some 0) (option_map suc (place name (xs ++ more))) ≡ Some n) [
      | true ↦ λ h. h
      | false ↦ λ h. elim (place name xs) as (λ o. place name xs ≡ o → option_map suc o ≡ Some n → option_map suc (place name (xs ++ more)) ≡ Some n)
          [ None ↦ λ p q. cc | Some m ↦ λ p q. rw (place_append name xs more m p) q ] refl h
    ] e
