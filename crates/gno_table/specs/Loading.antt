-- What a load finds among the rows of a table that is of the first format.
use Rattle.std.specs.Prelude.{ℕ, ◌≡◌, ◌<◌, ◌^◌, List, [], ◌∷◌, length, Some, None, IsSome, ⊤}
use Rattle.std.specs.Int.{cast_unsigned, w64}
use Rattle.gno_base.specs.Number.{Number}
use Rattle.gno_machine.specs.Ints.{IsInt}
use Rattle.gno_port.specs.declared.keeper.Change.{Change}
use Rattle.gno_port.specs.Tables.{IsRising, latest}
use Rattle.gno_items.specs.declared.memory.Package.{Package}
use Rattle.gno_items.specs.Well.{IsWell, IsWellPackage}
use Rattle.gno_table.specs.Rows.{all_rows, eight_bytes, variable_key}

-- each row has a value
abbrev pub HaveValues : List Change → Type 0
HaveValues [] = ⊤
HaveValues (row ∷ rows) = IsSome row.value × HaveValues rows

-- the rows of these packages, in the order of their keys
pub record AreRowsOf (rows : List Change) (memory : List Package) : Type 0 where
  pub well : IsWell memory
  pub few : length memory < 2 ^ 63
  pub rising : IsRising rows
  pub valued : HaveValues rows
  pub same : (key : List ℕ) → latest rows key None ≡ latest (all_rows memory) key None

-- each variable of the path has the row of its value
abbrev pub StandAmong : List Change → List ℕ → List (List ℕ) → List Number → Type 0
StandAmong rows path [] [] = ⊤
StandAmong rows path [] (value ∷ values) = ⊥
StandAmong rows path (name ∷ names) [] = ⊥
StandAmong rows path (name ∷ names) (value ∷ values) =
    IsInt value × (latest rows (variable_key path name) None ≡ Some (eight_bytes (cast_unsigned w64 value.value))) × StandAmong rows path names values

-- a package whose variables' rows are among these
pub record IsAmong (rows : List Change) (p : Package) : Type 0 where
  pub well : IsWellPackage p
  pub rising : IsRising rows
  pub values : StandAmong rows p.path p.file.variables p.values
