-- What a sink in memory holds.
use Rattle.std.specs.Prelude.{ℕ, List}
use Rattle.std.specs.List.{Contains}
use Rattle.gno_port.specs.declared.memory_sink.MemorySink.{MemorySink}
use Rattle.gno_port.specs.declared.failing.FailAt.{FailAt}
use Rattle.gno_port.specs.declared.failing.Called.TheVariants.{Write}
use Rattle.gno_port.specs.Failing.{IsToFail, next_number}

-- the bytes that it holds
abbrev pub bytes_held : MemorySink → List ℕ
bytes_held sink = sink.holds

-- how often it failed
abbrev pub sink_faults : MemorySink → ℕ
sink_faults sink = sink.faults

-- how often it took none of a piece that had some
abbrev pub sink_zero_writes : MemorySink → ℕ
sink_zero_writes sink = sink.zero_writes

-- how often it was written to
abbrev pub sink_writes : MemorySink → ℕ
sink_writes sink = sink.writes

-- the calls that are to fail
abbrev pub sink_fails : MemorySink → List FailAt
sink_fails sink = sink.fails

-- the numbers of the writes that are to take nothing
abbrev pub sink_zeros : MemorySink → List ℕ
sink_zeros sink = sink.zeros

-- the next write is to fail
abbrev pub FailsNextWrite : MemorySink → Type 0
FailsNextWrite sink = IsToFail sink.fails Write (next_number sink.writes)

-- the next write is to take nothing, if it doesn't fail
abbrev pub TakesNone : MemorySink → Type 0
TakesNone sink = Contains sink.zeros (next_number sink.writes)
