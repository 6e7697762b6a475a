-- The first format of a table, as a relation between a table and the packages that it stores.
use Rattle.std.specs.Prelude.{ℕ, ◌≡◌, ◌<◌, ◌^◌, List, [], Option, Some, None, ◌⊎◌, ⊤, length}
use Rattle.std.specs.FinMap.{get}
use Rattle.gno_port.specs.declared.keeper.Change.{Change}
use Rattle.gno_port.specs.Tables.{Table, latest}
use Rattle.gno_items.specs.declared.memory.Package.{Package}
use Rattle.gno_items.specs.Well.{IsWell}
use Rattle.gno_table.specs.Rows.{all_rows}

-- the table holds these rows and no others
abbrev pub Holds : Table → List Change → Type 0
Holds table rows = (key : List ℕ) → get table key ≡ latest rows key None

-- The table is of the first format, and this is its memory: the packages, in order of addition. Without a package it may also be empty.
pub record IsFirst (table : Table) (memory : List Package) : Type 0 where
  pub well : IsWell memory
  pub few : length memory < 2 ^ 63
  pub rows : Holds table (all_rows memory) ⊎ ((memory ≡ []) × Holds table [])

-- The packages in hand are those of the open table, where the keeper tells it.
abbrev pub Stands : Option Table → List Package → Type 0
Stands None memory = IsWell memory × (length memory < 2 ^ 63)
Stands (Some table) memory = IsFirst table memory

-- The open table is not of the first format, whatever the memory, where the keeper tells it.
abbrev pub IsNotFirst : Option Table → Type 0
IsNotFirst None = ⊤
IsNotFirst (Some table) = (memory : List Package) → IsFirst table memory → ⊥

-- the rows of the table, where it is told
abbrev pub Reads : Option Table → List Change → Type 0
Reads None rows = Unit {0}
Reads (Some table) rows = Holds table rows
