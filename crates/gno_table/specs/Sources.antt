-- The source rows among the rows of a table, and what each says.
use Rattle.std.specs.Prelude.{ℕ, ◌+◌, List, [], ◌∷◌, length, take, drop, Option, Some, None, nat_eq, nat_le, position, if◌then◌else◌}
use Rattle.std.specs.Int.{from_be_bytes, w64}
use Rattle.gno_base.specs.declared.names.NamedText.{NamedText}
use Rattle.gno_port.specs.declared.keeper.Change.{Change}
use Rattle.gno_table.specs.declared.sources.Source.{Source}

-- the number in the first 8 bytes, big-endian, and what stands behind it
unfoldable pub word_at : List ℕ → Option (ℕ × List ℕ)
word_at bytes = if nat_le 8 (length bytes) then Some (from_be_bytes w64 (take 8 bytes), drop 8 bytes) else None

-- a number with nothing behind it
abbrev pub whole_word : Option (ℕ × List ℕ) → Option ℕ
whole_word None = None
whole_word (Some word) = if nat_eq (length word.1) 0 then Some word.0 else None

-- the number that a value of 8 bytes is
abbrev pub word_in : Option (List ℕ) → Option ℕ
word_in None = None
word_in (Some value) = whole_word (word_at value)

-- the first byte 0
abbrev pub first_zero : List ℕ → Option ℕ
first_zero bytes = position (λ b. nat_eq b 0) bytes

-- what stands before a place, and behind it
abbrev pub parted : List ℕ → Option ℕ → Option NamedText
parted bytes None = None
parted bytes (Some at) = Some (record { name = take at bytes; text = drop (at + 1) bytes })

-- a file's name, the byte 0 and its text
unfoldable pub file_in : List ℕ → Option NamedText
file_in bytes = parted bytes (first_zero bytes)

-- the path in the key of a source
abbrev pub path_in : List ℕ → Option (List ℕ)
path_in [] = None
path_in (b ∷ path) = if nat_eq b 83 then Some path else None

abbrev pub source_with : List ℕ → ℕ → Option NamedText → Option Source
source_with path order None = None
source_with path order (Some file) = Some (record { order = order; path = path; file = file })

abbrev pub source_behind : List ℕ → Option (ℕ × List ℕ) → Option Source
source_behind path None = None
source_behind path (Some word) = source_with path word.0 (file_in word.1)

abbrev pub source_by : Option (List ℕ) → Option (List ℕ) → Option Source
source_by None value = None
source_by (Some path) None = None
source_by (Some path) (Some value) = source_behind path (word_at value)

-- the source that a row says
abbrev pub source_of : Change → Option Source
source_of row = source_by (path_in row.key) row.value

-- a source, where it is of that order, and else the one before
abbrev pub source_or : Option Source → ℕ → Option Source → Option Source
source_or None order before = before
source_or (Some source) order before = if nat_eq order source.order then Some source else before

-- the last source of an order, or else the one before
abbrev pub last_source : List Change → ℕ → Option Source → Option Source
last_source [] order before = before
last_source (row ∷ rows) order before = last_source rows order (source_or (source_of row) order before)
