-- The nodes of a walk as code holds them.
use Rattle.std.specs.Prelude.{ℕ, ◌≡◌, ◌≢◌, ◌<◌, List, [], ◌∷◌, ◌++◌, true, Some, length, map, slice_get, slice_set}
use Rattle.std.specs.BTreeMap.{BTreeMap, get}
use Rattle.std.specs.Ordering.{nat_cmp}
use Rattle.gno_terms.specs.declared.term.FieldOf.{FieldOf}
use Rattle.gno_terms.specs.declared.term.GoType.{GoType}
use Rattle.gno_terms.specs.declared.term.TypeRef.{TypeRef}
use Rattle.gno_terms.specs.Lawful.{Each}
use Rattle.gno_terms.specs.Tables.{Table, Below, Is, Underlying, type_at}
use Rattle.gno_terms.specs.Terms.{field_of, field_with, term_of}
use Rattle.gno_embedding.specs.declared.ways.Reached.{Reached}
use Rattle.gno_embedding.specs.Embedding.{fields_in}
use Rattle.gno_embedding.specs.Walking.{IsWalking}

-- each node but the first is found by its number
pub record ArePlaces (nodes : List Reached) (places : BTreeMap ℕ ℕ) : Type 0 where
  pub found : (t k : ℕ) → get nat_cmp places t ≡ Some k → (it : Reached) × (slice_get nodes k ≡ Some it) × (it.of.0 ≡ t) × (0 < k)
  pub each : (k : ℕ) (it : Reached) → slice_get nodes k ≡ Some it → 0 < k → get nat_cmp places it.of.0 ≡ Some k

pub record IsAt (table : Table) (s : GoType) (nodes : List Reached) (places : BTreeMap ℕ ℕ) (m i : ℕ) : Type 0 where
  pub places_are : ArePlaces nodes places
  pub walking : IsWalking table s nodes m i

-- the type of a node
pub record IsOfNode (table : Table) (s : GoType) (nodes : List Reached) (m : ℕ) (u : GoType) : Type 0 where
  pub node : Reached
  pub at : slice_get nodes m ≡ Some node
  pub itself : m ≡ 0 → u ≡ s
  pub other : 0 < m → Is table node.of u

-- the fields of the underlying type of a type
pub record AreFields (table : Table) (u : GoType) (fields : List (FieldOf TypeRef)) : Type 0 where
  pub underlying : GoType
  pub by : Underlying table u underlying
  pub same : fields_in (term_of underlying) ≡ map (field_with (type_at table.types)) fields
  pub below : Each (Below (length table.types)) (map field_of fields)

-- the field at a place of the underlying type of a type
pub record IsFieldAt (table : Table) (u : GoType) (place : ℕ) (field : FieldOf TypeRef) : Type 0 where
  pub underlying : GoType
  pub by : Underlying table u underlying
  pub at : slice_get (fields_in (term_of underlying)) place ≡ Some (field_with (type_at table.types) field)

-- those of a node
abbrev pub AreFieldsOf : Table → GoType → List Reached → ℕ → List (FieldOf TypeRef) → Type 0
AreFieldsOf table s nodes m fields = (u : GoType) × IsOfNode table s nodes m u × AreFields table u fields

-- what becomes of the nodes where a way to a type is met
pub data Meets (itself : Type 0) (nodes : List Reached) (way : Reached) (later : List Reached) : Type 0 where
  to_itself : itself → later ≡ nodes → Meets itself nodes way later
  to_other : (k : ℕ) (it : Reached) → 0 < k → slice_get nodes k ≡ Some it → it.of ≡ way.of → it.depth ≢ way.depth → later ≡ nodes → Meets itself nodes way later
  again : (k : ℕ) (it : Reached) → 0 < k → slice_get nodes k ≡ Some it → it.of ≡ way.of → it.depth ≡ way.depth → later ≡ slice_set nodes k (record it { twice = true }) → Meets itself nodes way later
  to_new : (itself → ⊥) → ((k : ℕ) (it : Reached) → slice_get nodes k ≡ Some it → 0 < k → it.of ≢ way.of) → later ≡ nodes ++ way ∷ [] → Meets itself nodes way later
