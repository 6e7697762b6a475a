-- The rows of the packages that are held, in the first format of a table. This project's own.
use Rattle.std.specs.Prelude.{ℕ, ◌≡◌, ◌+◌, List, [], ◌∷◌, ◌++◌, Option, Some, None, Bool, length, nat_eq, if◌then◌else◌}
use Rattle.std.specs.Int.{to_be_bytes, cast_unsigned, w64}
use Rattle.gno_base.specs.Number.{Number}
use Rattle.gno_port.specs.declared.keeper.Change.{Change}
use Rattle.gno_port.specs.Tables.{latest}
use Rattle.gno_items.specs.declared.memory.Package.{Package}

abbrev pub row : List ℕ → List ℕ → Change
row key value = record { key = key; value = Some value }

-- a number in 8 bytes, big-endian
unfoldable pub eight_bytes : ℕ → List ℕ
eight_bytes n = to_be_bytes w64 n

-- the row of the format: the key `F`, with the one byte 0
abbrev pub format_row : Change
format_row = row (70 ∷ []) (0 ∷ [])

-- the key `S` and the path
abbrev pub source_key : List ℕ → List ℕ
source_key path = 83 ∷ path

-- the order of addition from 0, the file's name, the byte 0 and the file's text
abbrev pub source_row : ℕ → Package → Change
source_row order p = row (source_key p.path) (eight_bytes order ++ (p.source.name ++ 0 ∷ p.source.text))

-- the key `V`, the path, the byte 0 and the variable's name
abbrev pub variable_key : List ℕ → List ℕ → List ℕ
variable_key path name = 86 ∷ (path ++ 0 ∷ name)

-- each variable's value in two's complement
abbrev pub variable_rows : List ℕ → List (List ℕ) → List Number → List Change
variable_rows path [] values = []
variable_rows path (name ∷ names) [] = []
variable_rows path (name ∷ names) (value ∷ values) = row (variable_key path name) (eight_bytes (cast_unsigned w64 value.value)) ∷ variable_rows path names values

abbrev pub package_rows : ℕ → Package → List Change
package_rows order p = source_row order p ∷ variable_rows p.path p.file.variables p.values

-- the rows of packages whose orders count up from a number
abbrev pub rows_from : ℕ → List Package → List Change
rows_from order [] = []
rows_from order (p ∷ ps) = package_rows order p ++ rows_from (order + 1) ps

abbrev pub all_rows : List Package → List Change
all_rows memory = format_row ∷ rows_from 0 memory

-- the rows that the addition of a package at that order writes; the first one also writes the row of the format
abbrev pub added_rows_at : ℕ → Package → List Change
added_rows_at order p = (if nat_eq order 0 then format_row ∷ [] else []) ++ package_rows order p

abbrev pub added_rows : List Package → Package → List Change
added_rows memory p = added_rows_at (length memory) p

-- two numbers have the same 64 bits
abbrev pub same_word : Number → Number → Bool
same_word a b = nat_eq (cast_unsigned w64 a.value) (cast_unsigned w64 b.value)

-- the rows of the variables whose values differ, with the new ones
abbrev pub differing_rows : List ℕ → List (List ℕ) → List Number → List Number → List Change
differing_rows path [] old new = []
differing_rows path (name ∷ names) [] new = []
differing_rows path (name ∷ names) (o ∷ old) [] = []
differing_rows path (name ∷ names) (o ∷ old) (value ∷ new) =
    if same_word o value then differing_rows path names old new
    else row (variable_key path name) (eight_bytes (cast_unsigned w64 value.value)) ∷ differing_rows path names old new

-- the rows that a call writes
abbrev pub changed_rows : Option Package → List ℕ → List Number → List Change
changed_rows None path values = []
changed_rows (Some p) path values = differing_rows path p.file.variables p.values values

-- changes that leave the same at each key
abbrev pub LeaveSame : List Change → List Change → Type 0
LeaveSame changes rows = (key : List ℕ) (before : Option (List ℕ)) → latest changes key before ≡ latest rows key before

-- changes that are in hand, with rows put behind them
abbrev pub Writes : List Change → List Change → List Change → Type 0
Writes old new rows = (key : List ℕ) (before : Option (List ℕ)) → latest new key before ≡ latest rows key (latest old key before)
