-- What the calls of a keeper answer, where it tells the open table.
use Rattle.std.specs.Prelude.{ℕ, ◌≡◌, ◌≢◌, List, Option, Some, None, ⊤, IsSome}
use Rattle.std.specs.FinMap.{get}
use Rattle.std.specs.Option.{option_map}
use Rattle.gno_port.specs.declared.keeper.Change.{Change}
use Rattle.gno_port.specs.Tables.{Table, IsBelow, applied}

-- the value found is the key's
abbrev pub Gets : Option Table → List ℕ → Option (List ℕ) → Type 0
Gets None key found = ⊤
Gets (Some table) key found = found ≡ get table key

-- the least key above another one
abbrev pub IsNextKey : Table → List ℕ → Option (List ℕ) → Type 0
IsNextKey table key None = (other : List ℕ) → IsBelow key other → get table other ≡ None
IsNextKey table key (Some next) = IsBelow key next × IsSome (get table next) × ((other : List ℕ) → IsBelow key other → IsBelow other next → get table other ≡ None)

-- the same, where the table is told
abbrev pub NextKey : Option Table → List ℕ → Option (List ℕ) → Type 0
NextKey None key next = ⊤
NextKey (Some table) key next = IsNextKey table key next

-- the changes were made in the table of that name, and every other one stays
pub record Puts (old new : List ℕ → Option Table) (name : List ℕ) (changes : List Change) : Type 0 where
  pub open_table : new name ≡ option_map (applied changes) (old name)
  pub others : (other : List ℕ) → other ≢ name → new other ≡ old other
