-- All types that the embedded fields of a type lead to.
use Rattle.std.specs.Prelude.{ℕ, zero, suc, ◌+◌, ◌≡◌, ◌≢◌, ◌≤◌, ◌⊎◌, ⊤, List, [], ◌∷◌, Bool, true, false, Some, length, map, slice_get, take}
use Rattle.gno_terms.specs.declared.term.GoType.{GoType}
use Rattle.gno_terms.specs.declared.term.TypeRef.{TypeRef}
use Rattle.gno_terms.specs.Lawful.{Each}
use Rattle.gno_terms.specs.Tables.{Table, Is}
use Rattle.gno_embedding.specs.declared.ways.Reach.{Reach}
use Rattle.gno_embedding.specs.declared.ways.Reach.TheVariants as r
use Rattle.gno_embedding.specs.declared.ways.Reached.{Reached}
use Rattle.gno_embedding.specs.Embedding.{Embeds, Leads, IsKnown}

abbrev pub In : {A : Type 0} → A → List A → Type 0
In x [] = ⊥
In x (y ∷ ys) = (x ≡ y) ⊎ In x ys

-- the type itself, or one of some types in the table
abbrev pub IsAmong : Table → GoType → List TypeRef → GoType → Type 0
IsAmong table s ts u = (u ≡ s) ⊎ ((t : TypeRef) × In t ts × Is table t u)

-- an embedded field of the type or of one of these leads to it
pub record IsFrom (table : Table) (s : GoType) (ts : List TypeRef) (t : TypeRef) : Type 0 where
  pub by : GoType
  pub among : IsAmong table s ts by
  pub place : ℕ
  pub pointer : Bool
  pub type : GoType
  pub embeds : Embeds table by place pointer type
  pub is : Is table t type

-- to each an embedded field leads, of the type itself or of one before it
abbrev pub IsChain : Table → GoType → List TypeRef → Type 0
IsChain table s ts = (i : ℕ) (t : TypeRef) → slice_get ts i ≡ Some t → IsFrom table s (take i ts) t

-- no underlying type is known of the last of these, or of the type itself where there is none
abbrev pub EndsUnknown : Table → GoType → List TypeRef → Type 0
EndsUnknown table s [] = IsKnown table s → ⊥
EndsUnknown table s (t ∷ []) = (u : GoType) → Is table t u → IsKnown table u → ⊥
EndsUnknown table s (t ∷ more ∷ ts) = EndsUnknown table s (more ∷ ts)

-- the type leads to one of which no underlying type is known: the last of these, or itself
pub record IsBlocked (table : Table) (s : GoType) (ts : List TypeRef) : Type 0 where
  pub chain : IsChain table s ts
  pub ends : EndsUnknown table s ts

-- the underlying types of the type and of all these are known, and they lead to no other
pub record IsClosed (table : Table) (s : GoType) (ts : List TypeRef) : Type 0 where
  pub chain : IsChain table s ts
  pub known : (u : GoType) → IsAmong table s ts u → IsKnown table u
  pub closed : (u : GoType) (place : ℕ) (pointer : Bool) (v : GoType) → IsAmong table s ts u → Embeds table u place pointer v → IsAmong table s ts v

-- one of them: how deep it is, whether pointers are followed on the way, and whether there is a second way as short
pub record IsReached (table : Table) (s : GoType) (it : Reached) : Type 0 where
  pub type : GoType
  pub is : Is table it.of type
  pub other : type ≢ s
  pub path : List ℕ
  pub leads : Leads table s path it.followed type
  pub depth : length path ≡ it.depth
  pub once : it.twice ≡ false → (p : List ℕ) (followed : Bool) → Leads table s p followed type → length p ≡ it.depth → p ≡ path
  pub twice : it.twice ≡ true → (p : List ℕ) × (followed : Bool) × Leads table s p followed type × (length p ≡ it.depth) × (p ≢ path)

-- a type by its number: 0 is the type itself, and k + 1 the one at place k. How deep it is
abbrev pub IsNumbered : Table → GoType → List Reached → ℕ → ℕ → GoType → Type 0
IsNumbered table s its zero depth u = (u ≡ s) × (depth ≡ 0)
IsNumbered table s its (suc k) depth u = (it : Reached) × (slice_get its k ≡ Some it) × Is table it.of u × (it.depth ≡ depth)

-- the last field of a shortest way to the one at place k: the number of the type where it stands, its place there, and whether it is a pointer
pub record IsStep (table : Table) (s : GoType) (its : List Reached) (k : ℕ) (it : Reached) : Type 0 where
  pub by : GoType
  pub depth : ℕ
  pub from : IsNumbered table s its it.from depth by
  pub before : it.from ≤ k
  pub type : GoType
  pub is : Is table it.of type
  pub embeds : Embeds table by it.place it.pointer type
  pub deeper : it.depth ≡ depth + 1

abbrev pub number_of : Reached → TypeRef
number_of it = it.of

-- the nearest first
abbrev pub Rises : List Reached → Type 0
Rises [] = ⊤
Rises (a ∷ []) = ⊤
Rises (a ∷ b ∷ its) = (a.depth ≤ b.depth) × Rises (b ∷ its)

-- none stands twice
abbrev pub AreDistinct : List TypeRef → Type 0
AreDistinct [] = ⊤
AreDistinct (t ∷ ts) = (In t ts → ⊥) × AreDistinct ts

-- all that the type leads to, but for the type itself, each by its shortest ways
pub record AreReached (table : Table) (s : GoType) (its : List Reached) : Type 0 where
  pub each : Each (IsReached table s) its
  pub steps : (k : ℕ) (it : Reached) → slice_get its k ≡ Some it → IsStep table s its k it
  pub rises : Rises its
  pub distinct : AreDistinct (map number_of its)
  pub closed : IsClosed table s (map number_of its)
  pub least : (path : List ℕ) (followed : Bool) (u : GoType) → Leads table s path followed u → (u ≡ s) ⊎ ((it : Reached) × In it its × Is table it.of u × (it.depth ≤ length path))

abbrev pub IsReach : Table → GoType → Reach → Type 0
IsReach table s (r.All its) = AreReached table s its
IsReach table s (r.Blocked ts) = IsBlocked table s ts
