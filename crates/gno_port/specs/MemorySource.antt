-- What a source in memory holds.
use Rattle.std.specs.Prelude.{ℕ, List, drop}
use Rattle.gno_port.specs.declared.memory_source.MemorySource.{MemorySource}
use Rattle.gno_port.specs.declared.failing.FailAt.{FailAt}
use Rattle.gno_port.specs.declared.failing.Called.TheVariants.{Read}
use Rattle.gno_port.specs.Failing.{IsToFail, next_number}

-- the bytes that are left
abbrev pub bytes_left : MemorySource → List ℕ
bytes_left source = drop source.at source.holds

-- how often it failed
abbrev pub source_faults : MemorySource → ℕ
source_faults source = source.faults

-- how many bytes it gave
abbrev pub source_given : MemorySource → ℕ
source_given source = source.given

-- how often it was read at its end
abbrev pub source_ends : MemorySource → ℕ
source_ends source = source.ends

-- how often it was read
abbrev pub source_reads : MemorySource → ℕ
source_reads source = source.reads

-- the calls that are to fail
abbrev pub source_fails : MemorySource → List FailAt
source_fails source = source.fails

-- the next read is to fail
abbrev pub FailsNextRead : MemorySource → Type 0
FailsNextRead source = IsToFail source.fails Read (next_number source.reads)
