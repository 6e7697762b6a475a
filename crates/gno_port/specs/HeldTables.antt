-- The tables that a keeper in memory holds: each as it stands on the desk, else on the shelf, else as it was given.
use Rattle.std.specs.Prelude.{ℕ, ◌≡◌, List, [], ◌∷◌, map, Option, Some, None, if◌then◌else◌}
use Rattle.std.specs.Str.{bytes_eq}
use Rattle.std.specs.Ordering.{nat_cmp}
use Rattle.std.specs.Cmp.Lexicographic.{slice_cmp}
use Rattle.std.specs.declared.vec.Vec.{Vec}
use Rattle.std.specs.declared.alloc.Global.{Global}
use Rattle.std.specs.BTreeMap.{BTreeMap, get_by}
use Rattle.std.specs.FinMap.{empty}
use Rattle.gno_port.specs.declared.keeper.Change.{Change}
use Rattle.gno_port.specs.declared.held.KeptRow.{KeptRow}
use Rattle.gno_port.specs.declared.held.KeptTable.{KeptTable}
use Rattle.gno_port.specs.declared.held.HeldTable.{HeldTable}
use Rattle.gno_port.specs.declared.held.HeldTables.{HeldTables}
use Rattle.gno_port.specs.Rows.{Rows, rows_table}
use Rattle.gno_port.specs.Tables.{Table, applied}

-- the rows, as changes that put them one after another
abbrev pub row_changes : List KeptRow → List Change
row_changes rows = map (λ row. record { key = row.key; value = Some row.value }) rows

-- the table of a name among those that were given: the first of that name, or else an empty one
abbrev pub given_table : List KeptTable → List ℕ → Table
given_table [] name = empty
given_table (table ∷ tables) name = if bytes_eq name table.name then applied (row_changes table.rows) empty else given_table tables name

abbrev pub Shelf : Type 0
Shelf = BTreeMap (Vec ℕ Global) Rows

-- the rows that stand on the shelf under a name
abbrev pub shelved : Shelf → List ℕ → Option Rows
shelved shelf name = get_by (λ key. slice_cmp nat_cmp name key.items) shelf

abbrev pub found_or : Option Rows → Table → Table
found_or None table = table
found_or (Some rows) table = rows_table rows

abbrev pub desk_or : Option HeldTable → List ℕ → Table → Table
desk_or None name table = table
desk_or (Some held) name table = if bytes_eq name held.name.items then rows_table held.rows else table

-- the table of a name
abbrev pub table_of : HeldTables → List ℕ → Table
table_of tables name = desk_or tables.desk name (found_or (shelved tables.shelf name) (given_table tables.given name))

-- the name of the table on the desk
abbrev pub desk_name : Option HeldTable → Option (List ℕ)
desk_name None = None
desk_name (Some held) = Some held.name.items
