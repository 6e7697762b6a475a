-- What becomes of a walk where a field is met.
use Rattle.std.proofs.Common.{◌≡◌, ◌≢◌, refl, sym, ap, ◌∙◌, subst, ℕ, zero, suc, ◌+◌, ◌<◌, List, [], ◌∷◌, ◌++◌, Bool, true, false, ◌||◌, Some, length, arith, rules}
use Rattle.std.specs.Prelude.{slice_get, slice_set, Result, Ok, Err, OnOk}
use Rattle.std.proofs.lemmas.Option.{same_Some, slice_get_within}
use Rattle.gno_layouts.proofs.Ends.{get_left, some_at}
use Rattle.gno_layouts.proofs.SetAt.{set_here, set_elsewhere, Same, here, elsewhere, where_is}
use Rattle.gno_terms.specs.declared.term.FieldOf.{FieldOf}
use Rattle.gno_terms.specs.declared.term.GoType.{GoType}
use Rattle.gno_terms.specs.declared.term.TypeRef.{TypeRef}
use Rattle.gno_terms.specs.Tables.{Table, Is}
use Rattle.gno_embedding.specs.declared.ways.Reached.{Reached}
use Rattle.gno_embedding.specs.Embedding.{Embeds}
use Rattle.gno_embedding.specs.Nodes.{AreFields, IsFieldAt, IsOfNode, Meets, to_itself, to_other, again, to_new}
use Rattle.gno_embedding.specs.Walking.{HasOneDefinition, HasOneNumber, IsNear, IsWalk, IsWalking}
use Rattle.gno_embedding.proofs.Paths.{same_embeds}
use Rattle.gno_embedding.proofs.Nearest.{one_place}
use Rattle.gno_embedding.proofs.Steps.{passed, marked, added}
use Rattle.gno_embedding.proofs.Ends.{finished}
use Rattle.gno_embedding.proofs.Opened.{leads_nowhere, past}

pub one_type : (table : Table) (a b : TypeRef) (x y : GoType) → a ≡ b → Is table a x → Is table b y → x ≡ y
one_type table a b x y e p q = same_Some x y (sym p ∙ ap (λ (r : TypeRef). slice_get table.types r.0) e ∙ q)

module _ (table : Table) (s : GoType) (nodes : List Reached) (m : ℕ) where
  -- the type of a node
  type_by : (k : ℕ) (types : List GoType) (i : ℕ) → IsWalk table s nodes types m i → (u : GoType) → IsOfNode table s nodes k u → slice_get types k ≡ Some u
  type_by zero types i walk u of = walk.first_type ∙ ap Some (sym (of.itself refl))
  type_by (suc k) types i walk u of =
      let x = some_at types (suc k) (let w = slice_get_within nodes (suc k) of.node of.at in let z = walk.size in omega (arith, w, z)) in
      let is = walk.is (suc k) of.node x.0 of.at x.1 (omega arith) in
      x.1 ∙ ap Some (one_type table of.node.of of.node.of x.0 u refl is (of.other (omega arith)))

  pub type_of_node : (types : List GoType) (i : ℕ) → IsWalk table s nodes types m i → (u : GoType) → IsOfNode table s nodes m u → slice_get types m ≡ Some u
  type_of_node types i walk u of = type_by m types i walk u of

pub at_nodes : (table : Table) (s : GoType) (nodes later : List Reached) (m i : ℕ) → later ≡ nodes → IsWalking table s nodes m i → IsWalking table s later m i
at_nodes table s nodes later m i e w = subst (λ ns. IsWalking table s ns m i) (sym e) w

-- the type of a node stays
again_of : (table : Table) (s : GoType) (nodes : List Reached) (m k : ℕ) (it : Reached) (u : GoType) → slice_get nodes k ≡ Some it → Same m k → IsOfNode table s nodes m u → IsOfNode table s (slice_set nodes k (record it { twice = true })) m u
again_of table s nodes m k it u there (elsewhere f) of = record { node = of.node; at = set_elsewhere nodes k (record it { twice = true }) m f ∙ of.at; itself = of.itself; other = of.other }
again_of table s nodes m k it u there (here e) of = record {
  node = record it { twice = true };
  at = ap (slice_get (slice_set nodes k (record it { twice = true }))) e ∙ set_here nodes k (record it { twice = true }) (slice_get_within nodes k it there);
  itself = of.itself;
  other = λ w. let same : of.node ≡ it = one_place nodes m k of.at there e in subst (λ (z : Reached). Is table z.of u) same (of.other w);
}

pub node_stays : (table : Table) (s : GoType) (itself : Type 0) (nodes later : List Reached) (way : Reached) (m : ℕ) (u : GoType) → Meets itself nodes way later → IsOfNode table s nodes m u → IsOfNode table s later m u
node_stays table s itself nodes later way m u (to_itself h e) of = subst (λ ns. IsOfNode table s ns m u) (sym e) of
node_stays table s itself nodes later way m u (to_other k it pos at is depth e) of = subst (λ ns. IsOfNode table s ns m u) (sym e) of
node_stays table s itself nodes later way m u (again k it pos at is depth e) of = subst (λ ns. IsOfNode table s ns m u) (sym e) (again_of table s nodes m k it u at (where_is m k) of)
node_stays table s itself nodes later way m u (to_new h f e) of = subst (λ ns. IsOfNode table s ns m u) (sym e) (record { node = of.node; at = get_left nodes way m of.node of.at; itself = of.itself; other = of.other })

module _ (table : Table) (one : HasOneDefinition table) (number : HasOneNumber table) (s : GoType) (nodes : List Reached) (m i : ℕ) (walking : IsWalking table s nodes m i) (u : GoType) (of : IsOfNode table s nodes m u) where
  abbrev types : List GoType
  types = walking.0

  abbrev walk : IsWalk table s nodes types m i
  walk = walking.1

  abbrev is : slice_get types m ≡ Some u
  is = type_of_node table s nodes m types i walk u of

  -- a field that is not embedded
  pub not_embedded : (field : FieldOf TypeRef) → IsFieldAt table u i field → field.embedded ≡ false → IsWalking table s nodes m (i + 1)
  not_embedded field at embedded = (types, passed table one s nodes types m i walk of.node u of.at is (λ pointer v e. absurd (leads_nowhere table u i field at one embedded pointer v e)))

  pub all_fields : (fields : List (FieldOf TypeRef)) → AreFields table u fields → length fields ≡ i → IsWalking table s nodes (m + 1) 0
  all_fields fields are size =
      (types, finished table one s nodes types m i walk of.node u of.at is (λ place pointer v e. (let w = past table u fields are one place pointer v e in omega (arith, w, size))) (are.underlying, are.by))

  module _ (pointer : Bool) (v : GoType) (embeds : Embeds table u i pointer v) (way : Reached) (to : Is table way.of v)
      (depth : way.depth ≡ of.node.depth + 1) (followed : way.followed ≡ (of.node.followed || pointer)) (twice : way.twice ≡ of.node.twice)
      (from : way.from ≡ m) (place : way.place ≡ i) (by_pointer : way.pointer ≡ pointer) where
    only : (q : Bool) (w : GoType) → Embeds table u i q w → v ≡ w
    only q w e = (same_embeds table one u i pointer q v w embeds e).1

    found_is : record { of = way.of; depth = of.node.depth + 1; followed = of.node.followed || pointer; twice = of.node.twice; from = m; place = i; pointer = pointer } ≡ way
    found_is = λ j. record { of = way.of; depth = sym depth j; followed = sym followed j; twice = sym twice j; from = sym from j; place = sym place j; pointer = sym by_pointer j }

    type_at_node : (k : ℕ) (it : Reached) → slice_get nodes k ≡ Some it → (x : GoType) × (slice_get types k ≡ Some x)
    type_at_node k it h = some_at types k (let w = slice_get_within nodes k it h in let z = walk.size in omega (arith, w, z))

    at_it : (k : ℕ) (it : Reached) → 0 < k → slice_get nodes k ≡ Some it → it.of ≡ way.of → slice_get types k ≡ Some v
    at_it k it pos h e =
        let x = type_at_node k it h in
        x.1 ∙ ap Some (one_type table it.of way.of x.0 v e (walk.is k it x.0 h x.1 pos) to)

    near_itself : v ≡ s → IsNear nodes types of.node.depth v
    near_itself e = record { number = 0; node = walk.first; at = walk.first_at; type = walk.first_type ∙ ap Some (sym e); near = (let d = walk.first_depth in omega (arith, d)) }

    fresh_by : (Is table way.of s → ⊥) → ((k : ℕ) (it : Reached) → slice_get nodes k ≡ Some it → 0 < k → it.of ≢ way.of) → (k : ℕ) → slice_get types k ≡ Some v → ⊥
    fresh_by h f zero e = h (to ∙ ap Some (same_Some v s (sym e ∙ walk.first_type)))
    fresh_by h f (suc k) e =
        let it = some_at nodes (suc k) (let w = slice_get_within types (suc k) v e in let z = walk.size in omega (arith, w, z)) in
        f (suc k) it.0 it.1 (omega arith) (number it.0.of way.of v (walk.is (suc k) it.0 v it.1 e (omega arith)) to)

    pub met : (later : List Reached) → Meets (Is table way.of s) nodes way later → IsWalking table s later m (i + 1)
    met later (to_itself h e) = at_nodes table s nodes later m (i + 1) e
        (types, passed table one s nodes types m i walk of.node u of.at is (λ q w f. subst (IsNear nodes types of.node.depth) (only q w f) (near_itself (one_type table way.of way.of v s refl to h))))
    met later (to_other k it pos at e other f) = at_nodes table s nodes later m (i + 1) f (
      types,
      passed table one s nodes types m i walk of.node u of.at is (λ q w g. subst (IsNear nodes types of.node.depth) (only q w g) (record {
        number = k;
        node = it;
        at = at;
        type = at_it k it pos at e;
        near = (let n = walk.near k it of.node at of.at in let d : it.depth ≢ of.node.depth + 1 = λ z. other (z ∙ sym depth) in omega (arith, n, d));
      })),
    )
    met later (again k it pos at e same f) = at_nodes table s (slice_set nodes k (record it { twice = true })) later m (i + 1) f
        (types, marked table one s nodes types m i walk of.node u of.at is pointer v embeds k it at (at_it k it pos at e) (same ∙ depth))
    met later (to_new h f e) = at_nodes table s (nodes ++ way ∷ []) later m (i + 1) e
        (types ++ v ∷ [], subst (λ z. IsWalk table s (nodes ++ z ∷ []) (types ++ v ∷ []) m (i + 1)) found_is (added table one s nodes types m i walk of.node u of.at is pointer v embeds (fresh_by h f) way.of to))

pub ok_both : {A E : Type 0} {P Q R : Type 0} (r : Result A E) → OnOk r P → OnOk r Q → (P → Q → R) → OnOk r R
ok_both (Ok x) p q f = f p q
ok_both (Err e) p q f = tt

pub by_first : (a b : Bool) → a ≡ true → a ≡ (a || b)
by_first true b e = refl
by_first false b e = absurd (search (rules, e))

pub by_second : (a b : Bool) → a ≡ false → b ≡ (a || b)
by_second true b e = absurd (search (rules, e))
by_second false b e = refl
