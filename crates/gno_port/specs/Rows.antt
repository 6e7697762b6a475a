-- The rows of a table in memory, as a table.
use Rattle.std.specs.Prelude.{ℕ, ◌≡◌, Bool, true, List, [], ◌∷◌, map, Option, IsSome, Some, None, ⊤, is_some, is_none, ◌&&◌, if◌then◌else◌}
use Rattle.std.specs.declared.vec.Vec.{Vec}
use Rattle.std.specs.declared.alloc.Global.{Global}
use Rattle.std.specs.BTreeMap.{BTreeMap}
use Rattle.std.specs.FinMap.{get, from_entries}
use Rattle.gno_port.specs.declared.keeper.Change.{Change}
use Rattle.gno_port.specs.Tables.{Table, put}

abbrev pub Rows : Type 0
Rows = BTreeMap (Vec ℕ Global) (List ℕ)

-- the table that the rows make
abbrev pub rows_table : Rows → Table
rows_table rows = from_entries (map (λ row. (row.0.items, row.1)) rows.entries)

-- the keys that changes give a value and that the table lacks
abbrev pub fresh_keys : Table → List Change → List (List ℕ)
fresh_keys table [] = []
fresh_keys table (change ∷ changes) = if is_some change.value && is_none (get table change.key) then change.key ∷ fresh_keys table changes else fresh_keys table changes

-- the changes that take the keys out
abbrev pub removals : List (List ℕ) → List Change
removals keys = map (λ key. record { key = key; value = None }) keys

-- the changes that give each key an empty value
abbrev pub blanks : List (List ℕ) → List Change
blanks keys = map (λ key. record { key = key; value = Some [] }) keys

-- each change that gives a value finds its key in the table, when its turn comes
abbrev pub HasRoom : List Change → Table → Type 0
HasRoom [] table = ⊤
HasRoom (change ∷ changes) table = (IsSome change.value → IsSome (get table change.key)) × HasRoom changes (put table change.key change.value)
