-- An integer as its digits are read from left to right.
use Rattle.std.specs.Prelude.{ℕ, List, [], ◌∷◌, true, false, if◌then◌else◌, Option, Some, None, option_map, option_and_then}
use Rattle.gno_scan.specs.NumberValues.{is_no_bar, with_digit}
use Rattle.gno_literals.specs.declared.integer.Reading.{Reading}

-- behind a digit
abbrev pub behind_digit : ℕ → Reading
behind_digit value = record { value = value; may_bar = true }

-- behind a `_`
abbrev pub behind_bar : ℕ → Reading
behind_bar value = record { value = value; may_bar = false }

-- what is read with one more byte: a digit of the base, or a `_` where one may stand
unfoldable pub read_byte : ℕ → Reading → ℕ → Option Reading
read_byte base reading b = if is_no_bar b then option_map behind_digit (with_digit base reading.value b) else if reading.may_bar then Some (behind_bar reading.value) else None

-- what is read with all of the bytes
unfoldable pub read_all : ℕ → Reading → List ℕ → Option Reading
read_all base reading [] = Some reading
read_all base reading (b ∷ rest) = option_and_then (λ next. read_all base next rest) (read_byte base reading b)

-- the number, where no `_` stands last
abbrev pub whole_reading : Reading → Option ℕ
whole_reading reading = if reading.may_bar then Some reading.value else None
