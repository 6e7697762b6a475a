use Rattle.std.proofs.Common.{◌≡◌}
use Rattle.std.specs.Vec.Iter.{into_iter_items}
use Rattle.gno_port.specs.Rows.{rows_table, HasRoom}
use Rattle.gno_port.specs.Tables.{applied}
use Rattle.gno_port.proofs.rows.put_all.Given as goal

abbrev pub invariant-loop-change : goal.invariant-loop-change
invariant-loop-change l = record {
  left : applied (into_iter_items l.change-iterator) (rows_table l.rows) ≡ applied l.fn.changes (rows_table l.fn.rows);
  room : HasRoom (into_iter_items l.change-iterator) (rows_table l.rows);
}
