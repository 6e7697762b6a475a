-- What a keeper in memory holds.
use Rattle.std.specs.Prelude.{ℕ, Bool, List, [], Option, Some, None, is_some, ◌&&◌}
use Rattle.std.specs.Option.{unwrap_or}
use Rattle.gno_port.specs.declared.memory_keeper.MemoryKeeper.{MemoryKeeper}
use Rattle.gno_port.specs.declared.failing.FailAt.{FailAt}
use Rattle.gno_port.specs.declared.failing.Called.TheVariants.{Open, Get, After, Apply}
use Rattle.gno_port.specs.Failing.{IsToFail, next_number}
use Rattle.gno_port.specs.HeldTables.{table_of, desk_name}
use Rattle.gno_port.specs.Tables.{Table}

-- the table of a name
abbrev pub kept_table : MemoryKeeper → List ℕ → Table
kept_table keeper name = table_of keeper.tables name

-- every table is told
abbrev pub told : MemoryKeeper → List ℕ → Option Table
told keeper name = Some (kept_table keeper name)

-- whether a table is open
abbrev pub has_open : MemoryKeeper → Bool
has_open keeper = keeper.is_open && is_some keeper.tables.desk

-- the name of the table that was opened last
abbrev pub last_opened : MemoryKeeper → List ℕ
last_opened keeper = unwrap_or (desk_name keeper.tables.desk) []

-- how often it failed
abbrev pub keeper_faults : MemoryKeeper → ℕ
keeper_faults keeper = keeper.faults

-- how often a row was asked for
abbrev pub keeper_gets : MemoryKeeper → ℕ
keeper_gets keeper = keeper.gets

-- how many changes were made
abbrev pub keeper_changes : MemoryKeeper → ℕ
keeper_changes keeper = keeper.changes

-- the calls that are to fail
abbrev pub keeper_fails : MemoryKeeper → List FailAt
keeper_fails keeper = keeper.fails

-- how often it was opened, asked for a next key, and given changes
abbrev pub opens : MemoryKeeper → ℕ
opens keeper = keeper.opens

abbrev pub afters : MemoryKeeper → ℕ
afters keeper = keeper.afters

abbrev pub applies : MemoryKeeper → ℕ
applies keeper = keeper.applies

-- the next call of the method is to fail
abbrev pub FailsNextOpen : MemoryKeeper → Type 0
FailsNextOpen keeper = IsToFail keeper.fails Open (next_number keeper.opens)

abbrev pub FailsNextGet : MemoryKeeper → Type 0
FailsNextGet keeper = IsToFail keeper.fails Get (next_number keeper.gets)

abbrev pub FailsNextAfter : MemoryKeeper → Type 0
FailsNextAfter keeper = IsToFail keeper.fails After (next_number keeper.afters)

abbrev pub FailsNextApply : MemoryKeeper → Type 0
FailsNextApply keeper = IsToFail keeper.fails Apply (next_number keeper.applies)
