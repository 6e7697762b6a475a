-- Where nodes stand, by their numbers.
use Rattle.std.proofs.Common.{◌≡◌, ◌≢◌, refl, sym, ap, ◌∙◌, ℕ, ◌<◌, List, [], ◌∷◌, ◌++◌, Bool, true, false, cond, Some, None, length, arith}
use Rattle.std.specs.Prelude.{slice_get, slice_set}
use Rattle.std.specs.BTreeMap.{BTreeMap, get, Updates, IsEmpty, is_at}
use Rattle.std.specs.Map.{lookup}
use Rattle.gno_embedding.proofs.Ends.{only_one}
use Rattle.std.specs.Ordering.{nat_cmp, is_eq}
use Rattle.std.specs.Cmp.{unsigned_ties}
use Rattle.std.proofs.lemmas.Bool.Decides.{Decides-eqb}
use Rattle.std.proofs.lemmas.Option.{same_Some, slice_get_within, none-some}
use Rattle.gno_layouts.proofs.Ends.{get_left, get_last, Where, inside, last, get_where}
use Rattle.gno_layouts.proofs.SetAt.{set_here, set_elsewhere, Same, here, elsewhere, where_is}
use Rattle.gno_type_rows.proofs.Defining.{ref_eq}
use Rattle.gno_terms.specs.declared.term.TypeRef.{TypeRef}
use Rattle.gno_embedding.specs.declared.ways.Reached.{Reached}
use Rattle.gno_embedding.specs.Nodes.{ArePlaces}
use Rattle.gno_embedding.proofs.Nearest.{one_place}

same_number : (a b : ℕ) → is_eq (nat_cmp a b) ≡ true → a ≡ b
same_number a b e = (Decides-eqb a b).0 (unsigned_ties a b ∙ e)

itself : (a : ℕ) → is_eq (nat_cmp a a) ≡ true
itself a = sym (unsigned_ties a a) ∙ (Decides-eqb a a).1 refl

-- one node more
module _ (nodes : List Reached) (m n : BTreeMap ℕ ℕ) (are : ArePlaces nodes m) (way : Reached) (first : 0 < length nodes)
    (new : (k : ℕ) (it : Reached) → slice_get nodes k ≡ Some it → 0 < k → it.of ≢ way.of) (place : ℕ) (is : place ≡ length nodes) (updates : Updates nat_cmp m n way.of.0 (Some place)) where
  there : (t : ℕ) (b : Bool) → is_eq (nat_cmp way.of.0 t) ≡ b → get nat_cmp n t ≡ cond b (Some place) (get nat_cmp m t)
  there t b e = updates.0 t ∙ ap (λ z. cond z (Some place) (get nat_cmp m t)) e

  found_by : (t k : ℕ) (b : Bool) → is_eq (nat_cmp way.of.0 t) ≡ b → get nat_cmp n t ≡ Some k → (it : Reached) × (slice_get (nodes ++ way ∷ []) k ≡ Some it) × (it.of.0 ≡ t) × (0 < k)
  found_by t k true e h =
      let same : place ≡ k = same_Some place k (sym (there t true e) ∙ h) in
      (way, ap (slice_get (nodes ++ way ∷ [])) (sym same ∙ is) ∙ get_last nodes way, same_number way.of.0 t e, omega (arith, same, is, first))
  found_by t k false e h =
      let f = are.found t k (sym (there t false e) ∙ h) in
      (f.0, get_left nodes way k f.0 f.1, f.2, f.3)

  each_old : (k : ℕ) (it : Reached) (b : Bool) → is_eq (nat_cmp way.of.0 it.of.0) ≡ b → slice_get nodes k ≡ Some it → 0 < k → get nat_cmp n it.of.0 ≡ Some k
  each_old k it true e h pos = absurd (new k it h pos (ref_eq it.of way.of (sym (same_number way.of.0 it.of.0 e))))
  each_old k it false e h pos = there it.of.0 false e ∙ are.each k it h pos

  each_by : (k : ℕ) (it : Reached) → Where nodes way k it → 0 < k → get nat_cmp n it.of.0 ≡ Some k
  each_by k it (inside h) pos = each_old k it (is_eq (nat_cmp way.of.0 it.of.0)) refl h pos
  each_by k it (last e h) pos =
      let same : way.of.0 ≡ it.of.0 = ap (λ (z : Reached). z.of.0) (sym h) in
      there it.of.0 true (ap (λ z. is_eq (nat_cmp z it.of.0)) same ∙ itself it.of.0) ∙ ap Some (is ∙ sym e)

  pub placed : ArePlaces (nodes ++ way ∷ []) n
  placed = record {
    found = λ t k h. found_by t k (is_eq (nat_cmp way.of.0 t)) refl h;
    each = λ k it h pos. each_by k it (get_where nodes way k it h) pos;
  }

-- another node of the same number
module _ (nodes : List Reached) (m : BTreeMap ℕ ℕ) (are : ArePlaces nodes m) (n : ℕ) (it later : Reached) (at : slice_get nodes n ≡ Some it) (of : later.of ≡ it.of) where
  abbrev nodes' : List Reached
  nodes' = slice_set nodes n later

  found_at : (t k : ℕ) → Same k n → (j : Reached) × (slice_get nodes k ≡ Some j) × (j.of.0 ≡ t) × (0 < k) → (j : Reached) × (slice_get nodes' k ≡ Some j) × (j.of.0 ≡ t) × (0 < k)
  found_at t k (here e) f =
      let same : it ≡ f.0 = one_place nodes n k at f.1 (sym e) in
      (later, ap (slice_get nodes') e ∙ set_here nodes n later (slice_get_within nodes n it at), ap (λ (r : TypeRef). r.0) of ∙ ap (λ (z : Reached). z.of.0) same ∙ f.2, f.3)
  found_at t k (elsewhere g) f = (f.0, set_elsewhere nodes n later k g ∙ f.1, f.2, f.3)

  each_at : (k : ℕ) (j : Reached) → Same k n → slice_get nodes' k ≡ Some j → 0 < k → get nat_cmp m j.of.0 ≡ Some k
  each_at k j (elsewhere g) h pos = are.each k j (sym (set_elsewhere nodes n later k g) ∙ h) pos
  each_at k j (here e) h pos =
      let same : later ≡ j = same_Some later j (sym (set_here nodes n later (slice_get_within nodes n it at)) ∙ ap (slice_get nodes') (sym e) ∙ h) in
      let number : it.of.0 ≡ j.of.0 = ap (λ (r : TypeRef). r.0) (sym of) ∙ ap (λ (z : Reached). z.of.0) same in
      ap (get nat_cmp m) (sym number) ∙ are.each k it (ap (slice_get nodes) e ∙ at) pos

  pub replaced : ArePlaces nodes' m
  replaced = record {
    found = λ t k h. found_at t k (where_is k n) (are.found t k h);
    each = λ k j h pos. each_at k j (where_is k n) h pos;
  }

-- there is one node
pub no_places : (root : Reached) (m : BTreeMap ℕ ℕ) → IsEmpty m → ArePlaces (root ∷ []) m
no_places root m empty = record {
  found = λ t k h. absurd (none-some k (sym (nothing t) ∙ h));
  each = λ k it h pos. absurd (let e = (only_one root it k h).0 in omega (arith, e, pos));
}
  where
    nothing : (t : ℕ) → get nat_cmp m t ≡ None
    nothing t = ap (lookup (is_at (nat_cmp t))) empty
