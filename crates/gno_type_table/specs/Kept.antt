-- The searches that are kept beside the rows of a table.
use Rattle.std.specs.Prelude.{ℕ, ◌≡◌, ◌⊎◌, ◌<◌, ◌≤◌, List, [], ◌∷◌, length, Option, Some, None, Bool, true, slice_get, slice_set}
use Rattle.gno_embedding.specs.Embedding.{IsKnown}
use Rattle.gno_promotion.specs.declared.found.Search.{Search}
use Rattle.gno_promotion.specs.declared.found.Search.TheVariants as r
use Rattle.gno_promotion.specs.Searches.{IsSearch}
use Rattle.gno_terms.specs.declared.term.DefinitionOf.{DefinitionOf}
use Rattle.gno_terms.specs.declared.term.GoType.{GoType}
use Rattle.gno_terms.specs.declared.term.TypeRef.{TypeRef}
use Rattle.gno_terms.specs.Tables.{Table, Defines, Grows, Is, error_interface}

-- the types that a search reached
abbrev pub reached_in : Search → List TypeRef
reached_in (r.Blocked ts) = ts
reached_in (r.Found ts ms) = ts

abbrev pub last_in : List TypeRef → Option TypeRef
last_in [] = None
last_in (t ∷ []) = Some t
last_in (t ∷ more ∷ ts) = last_in (more ∷ ts)

-- the type whose definition a search waits for, where that is another than its own
abbrev pub awaited_by : Search → Option TypeRef
awaited_by (r.Blocked ts) = last_in ts
awaited_by (r.Found ts ms) = None

-- the flag of the type that the search waits for is set
abbrev pub IsFlagged : Search → List Bool → Type 0
IsFlagged search awaited = (t : TypeRef) → awaited_by search ≡ Some t → slice_get awaited t.0 ≡ Some true

-- a search and a flag for each of some numbers. Of each search something holds, and the flag of the type that it waits for is set
pub record AreKept (P : ℕ → Search → Type 0) (count : ℕ) (searches : List Search) (awaited : List Bool) : Type 0 where
  pub size : length searches ≡ count
  pub flags : length awaited ≡ count
  pub each : (n : ℕ) (search : Search) → slice_get searches n ≡ Some search → P n search
  pub waits : (n : ℕ) (search : Search) → slice_get searches n ≡ Some search → IsFlagged search awaited

-- the search is one of the type that has the number
abbrev pub IsAt : Table → ℕ → Search → Type 0
IsAt table n search = (s : GoType) → slice_get table.types n ≡ Some s → IsSearch table s search

-- the search of each type stands beside it
abbrev pub IsKept : Table → List Search → List Bool → Type 0
IsKept table searches awaited = AreKept (IsAt table) (length table.types) searches awaited

-- the later table says what the earlier one says, and no two things of one type
pub record Extends (table later : Table) : Type 0 where
  pub grows : Grows table later
  pub stands : (d : DefinitionOf GoType) → Defines table d → Defines later d
  pub once : (d e : DefinitionOf GoType) → Defines later d → Defines later e → d.of ≡ e.of → d ≡ e

-- the search is one of a table that has these types, and maybe more definitions
pub record Was (table : Table) (n : ℕ) (search : Search) : Type 0 where
  pub then : Table
  pub types : then.types ≡ table.types
  pub extends : Extends table then
  pub at : IsAt then n search

-- the search is one of its type, unless it is that of a type that was defined or waits for it
abbrev pub MayWait : Table → TypeRef → ℕ → Search → Type 0
MayWait table t n search = (n ≡ t.0) ⊎ ((awaited_by search ≡ Some t) ⊎ IsAt table n search)

-- the searches from the k-th on may wait for a type
abbrev pub WaitsFrom : Table → TypeRef → ℕ → ℕ → Search → Type 0
WaitsFrom table t k n search = ((k ≤ n) × (awaited_by search ≡ Some t)) ⊎ IsAt table n search

-- a search was put in the place of another
pub record IsPut (n : ℕ) (search : Search) (searches later : List Search) (awaited flags : List Bool) : Type 0 where
  pub put : later ≡ slice_set searches n search
  pub size : length flags ≡ length awaited
  pub rise : (k : ℕ) → slice_get awaited k ≡ Some true → slice_get flags k ≡ Some true
  pub flagged : IsFlagged search flags

-- a search of the type that has the number was put in the place of another
pub record IsSearched (table : Table) (n : ℕ) (searches later : List Search) (awaited flags : List Bool) : Type 0 where
  pub search : Search
  pub at : IsAt table n search
  pub put : IsPut n search searches later awaited flags

-- what an earlier table says of searches it still says
abbrev pub StayPast : Table → List Search → List Search → List Bool → List Bool → Type 0
StayPast table searches later awaited flags =
    (past : Table) → table.types ≡ past.types → Extends past table → AreKept (Was past) (length past.types) searches awaited → AreKept (Was past) (length past.types) later flags

-- underlying types are known of the first k of these types
abbrev pub KnownBefore : Table → List TypeRef → ℕ → Type 0
KnownBefore table ts k = (j : ℕ) (t : TypeRef) (u : GoType) → j < k → slice_get ts j ≡ Some t → Is table t u → IsKnown table u

-- the place of the first of these types of which no underlying type is known
pub record IsFirstUnknown (table : Table) (ts : List TypeRef) (k : ℕ) : Type 0 where
  pub type : TypeRef
  pub at : slice_get ts k ≡ Some type
  pub unknown : (u : GoType) → Is table type u → IsKnown table u → ⊥
  pub before : KnownBefore table ts k

-- rows, the number of what `error` is, and a search beside each row
pub record IsWhole (table : Table) (error : TypeRef) (searches : List Search) (awaited : List Bool) : Type 0 where
  pub error_is : Is table error error_interface
  pub kept : IsKept table searches awaited
