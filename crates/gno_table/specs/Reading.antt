-- Rows that were read of a table so far.
use Rattle.std.specs.Prelude.{ℕ, ◌≡◌, List, [], ◌∷◌, ◌++◌, Option, Some, None, ⊤}
use Rattle.std.specs.List.{AllByRecursion}
use Rattle.std.specs.FinMap.{get}
use Rattle.gno_port.specs.declared.keeper.Change.{Change}
use Rattle.gno_port.specs.Tables.{Table, IsBelow, IsRising, latest}
use Rattle.gno_table.specs.Loading.{HaveValues}
use Rattle.gno_table.specs.Rows.{row}

abbrev pub or_before : Option (List ℕ) → Option (List ℕ) → Option (List ℕ)
or_before None before = before
or_before (Some value) before = Some value

-- the rows, and behind them that of a key where it has a value
abbrev pub with_row : List Change → List ℕ → Option (List ℕ) → List Change
with_row rows key None = rows
with_row rows key (Some value) = rows ++ row key value ∷ []

-- the row of a key was read too, where the table is told
abbrev pub IsRowAdded : Option Table → List Change → List ℕ → List Change → Type 0
IsRowAdded None rows key new = Unit {0}
IsRowAdded (Some table) rows key new = new ≡ with_row rows key (get table key)

-- each row's key is below a key
abbrev pub AreBelow : List Change → List ℕ → Type 0
AreBelow rows key = AllByRecursion (λ (r : Change). IsBelow r.key key) rows

-- the rows are those of the keys up to a key, in the order of their keys
pub record AreRowsTo (table : Table) (key : List ℕ) (rows : List Change) : Type 0 where
  pub read : (other : List ℕ) → (IsBelow key other → ⊥) → latest rows other None ≡ get table other
  pub unread : (other : List ℕ) → IsBelow key other → latest rows other None ≡ None
  pub rising : IsRising rows
  pub valued : HaveValues rows
  pub below : (other : List ℕ) → IsBelow key other → AreBelow rows other

abbrev pub ReadsTo : Option Table → List ℕ → List Change → Type 0
ReadsTo None key rows = Unit {0}
ReadsTo (Some table) key rows = AreRowsTo table key rows

-- where the table is told, the rows stand in the order of their keys, each with a value
abbrev pub AreInOrder : Option Table → List Change → Type 0
AreInOrder None rows = ⊤
AreInOrder (Some table) rows = IsRising rows × HaveValues rows
