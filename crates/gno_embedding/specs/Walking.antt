-- How far a walk over embedded fields has come. Its nodes are the type itself and the types that it has met, the nearest first.
use Rattle.std.specs.Prelude.{ℕ, ◌≡◌, ◌≢◌, ◌≤◌, ◌<◌, ◌+◌, ◌⊎◌, List, ◌∷◌, Bool, true, false, Some, length, slice_get}
use Rattle.gno_terms.specs.declared.term.DefinitionOf.{DefinitionOf}
use Rattle.gno_terms.specs.declared.term.GoType.{GoType}
use Rattle.gno_terms.specs.declared.term.TypeRef.{TypeRef}
use Rattle.gno_terms.specs.Tables.{Table, Defines, Is}
use Rattle.gno_embedding.specs.declared.ways.Reached.{Reached}
use Rattle.gno_embedding.specs.Embedding.{Embeds, Leads, IsKnown}

-- the nodes before m were met whole, and of node m the fields before i: so was the field at this place of node k
abbrev pub IsMet : ℕ → ℕ → ℕ → ℕ → Type 0
IsMet m i k place = (k < m) ⊎ ((k ≡ m) × (place < i))

-- the last step of the path is by a field that was met
abbrev pub IsMetPath : Table → GoType → List GoType → ℕ → ℕ → List ℕ → Type 0
IsMetPath table s types m i path = (place : ℕ) (rest : List ℕ) (followed : Bool) (y : GoType) → path ≡ place ∷ rest → Leads table s rest followed y → (k : ℕ) × (slice_get types k ≡ Some y) × IsMet m i k place

-- a node whose type is x: one of its shortest paths, and whether another was met
pub record IsNode (table : Table) (s : GoType) (types : List GoType) (m i : ℕ) (it : Reached) (x : GoType) : Type 0 where
  pub path : List ℕ
  pub leads : Leads table s path it.followed x
  pub depth : length path ≡ it.depth
  pub met : IsMetPath table s types m i path
  pub once : it.twice ≡ false → (p : List ℕ) (followed : Bool) → Leads table s p followed x → length p ≡ it.depth → IsMetPath table s types m i p → p ≡ path
  pub twice : it.twice ≡ true → (p : List ℕ) × (followed : Bool) × Leads table s p followed x × (length p ≡ it.depth) × (p ≢ path)

-- a node of a type, no deeper than d
pub record IsNear (nodes : List Reached) (types : List GoType) (d : ℕ) (x : GoType) : Type 0 where
  pub number : ℕ
  pub node : Reached
  pub at : slice_get nodes number ≡ Some node
  pub type : slice_get types number ≡ Some x
  pub near : node.depth ≤ d

-- an embedded field of a node before node k, which is less deep by one, leads to its type
pub record IsBehind (table : Table) (nodes : List Reached) (types : List GoType) (k : ℕ) (it : Reached) (x : GoType) : Type 0 where
  pub before : it.from < k
  pub node : Reached
  pub node_at : slice_get nodes it.from ≡ Some node
  pub deeper : it.depth ≡ node.depth + 1
  pub by : GoType
  pub at : slice_get types it.from ≡ Some by
  pub embeds : Embeds table by it.place it.pointer x

pub record IsWalk (table : Table) (s : GoType) (nodes : List Reached) (types : List GoType) (m i : ℕ) : Type 0 where
  pub first : Reached
  pub first_at : slice_get nodes 0 ≡ Some first
  pub first_depth : first.depth ≡ 0
  pub first_type : slice_get types 0 ≡ Some s
  pub size : length types ≡ length nodes
  pub is : (k : ℕ) (it : Reached) (x : GoType) → slice_get nodes k ≡ Some it → slice_get types k ≡ Some x → 0 < k → Is table it.of x
  pub once : (j k : ℕ) (x : GoType) → slice_get types j ≡ Some x → slice_get types k ≡ Some x → j ≡ k
  pub rises : (j k : ℕ) (a b : Reached) → slice_get nodes j ≡ Some a → slice_get nodes k ≡ Some b → j ≤ k → a.depth ≤ b.depth
  pub low : (k : ℕ) (it : Reached) → slice_get nodes k ≡ Some it → it.depth ≤ k
  pub near : (k : ℕ) (it now : Reached) → slice_get nodes k ≡ Some it → slice_get nodes m ≡ Some now → it.depth ≤ now.depth + 1
  pub each : (k : ℕ) (it : Reached) (x : GoType) → slice_get nodes k ≡ Some it → slice_get types k ≡ Some x → IsNode table s types m i it x
  pub closed : (k : ℕ) (it : Reached) (x : GoType) (place : ℕ) (pointer : Bool) (v : GoType) → slice_get nodes k ≡ Some it → slice_get types k ≡ Some x → IsMet m i k place → Embeds table x place pointer v → IsNear nodes types (it.depth + 1) v
  pub chain : (k : ℕ) (it : Reached) (x : GoType) → slice_get nodes k ≡ Some it → slice_get types k ≡ Some x → 0 < k → IsBehind table nodes types k it x
  pub known : (k : ℕ) (x : GoType) → slice_get types k ≡ Some x → k < m → IsKnown table x

abbrev pub IsWalking : Table → GoType → List Reached → ℕ → ℕ → Type 0
IsWalking table s nodes m i = (types : List GoType) × IsWalk table s nodes types m i

-- of a type one thing is said at most
abbrev pub HasOneDefinition : Table → Type 0
HasOneDefinition table = (d e : DefinitionOf GoType) → Defines table d → Defines table e → d.of ≡ e.of → d ≡ e

abbrev pub HasOneNumber : Table → Type 0
HasOneNumber table = (a b : TypeRef) (s : GoType) → Is table a s → Is table b s → a ≡ b
