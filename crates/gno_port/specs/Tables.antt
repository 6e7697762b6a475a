-- Tables of rows, and what a batch of changes does to one.
use Rattle.std.specs.Prelude.{ℕ, ◌≡◌, List, [], ◌∷◌, map, Option, Some, None, if◌then◌else◌}
use Rattle.std.specs.Str.{bytes_eq}
use Rattle.std.specs.Ordering.{nat_cmp}
use Rattle.std.specs.declared.cmp.Ordering.TheVariants.{Less}
use Rattle.std.specs.Cmp.Lexicographic.{slice_cmp}
use Rattle.std.specs.List.Sorted.{IsStrictlySortedBy}
use Rattle.std.specs.FinMap.{FinMap, insert, remove}
use Rattle.gno_port.specs.declared.keeper.Change.{Change}

-- rows by their keys
abbrev pub Table : Type 0
Table = FinMap (slice_cmp nat_cmp) (List ℕ)

-- a key stands before another one, byte by byte
abbrev pub IsBelow : List ℕ → List ℕ → Type 0
IsBelow a b = slice_cmp nat_cmp a b ≡ Less

-- each key is below those of the changes after it
abbrev pub IsRising : List Change → Type 0
IsRising changes = IsStrictlySortedBy (slice_cmp nat_cmp) (map (λ change. change.key) changes)

-- a table with one key changed
abbrev pub put : Table → List ℕ → Option (List ℕ) → Table
put table key None = remove table key
put table key (Some value) = insert table key value

-- a table after changes, one after another
abbrev pub applied : List Change → Table → Table
applied [] table = table
applied (change ∷ changes) table = applied changes (put table change.key change.value)

-- what the changes leave at a key, where a value stood there before
abbrev pub latest : List Change → List ℕ → Option (List ℕ) → Option (List ℕ)
latest [] key before = before
latest (change ∷ changes) key before = latest changes key (if bytes_eq key change.key then change.value else before)
