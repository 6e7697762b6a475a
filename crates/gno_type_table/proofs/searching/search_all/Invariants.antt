use Rattle.std.proofs.Common.{length}
use Rattle.gno_type_table.specs.Kept.{AreKept}
use Rattle.gno_type_table.proofs.Putting.{FirstAre}
use Rattle.gno_type_table.proofs.searching.search_all.Given as goal

abbrev pub invariant-loop-number : goal.invariant-loop-number
invariant-loop-number l = AreKept (FirstAre l.rows l.number) (length l.rows.types) l.searches l.awaited
