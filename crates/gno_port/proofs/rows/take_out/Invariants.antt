use Rattle.std.proofs.Common.{◌≡◌, drop}
use Rattle.gno_port.specs.Rows.{rows_table, removals}
use Rattle.gno_port.specs.Tables.{applied}
use Rattle.gno_port.proofs.rows.take_out.Given as goal

abbrev pub invariant-loop-key : goal.invariant-loop-key
invariant-loop-key l = applied (removals (drop l.key-index l.keys)) (rows_table l.rows) ≡ applied (removals l.keys) (rows_table l.fn.rows)
