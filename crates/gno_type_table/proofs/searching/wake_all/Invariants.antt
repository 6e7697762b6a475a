use Rattle.std.proofs.Common.{length}
use Rattle.gno_type_table.specs.Kept.{AreKept, StayPast, WaitsFrom}
use Rattle.gno_type_table.proofs.searching.wake_all.Given as goal

abbrev pub invariant-loop-number : goal.invariant-loop-number
invariant-loop-number l = AreKept (WaitsFrom l.rows l.defined l.number) (length l.rows.types) l.searches l.awaited × StayPast l.rows l.fn.searches l.searches l.fn.awaited l.awaited
