use Rattle.std.proofs.Common.{◌≡◌, drop}
use Rattle.gno_port.specs.Rows.{rows_table, blanks, removals}
use Rattle.gno_port.specs.Tables.{applied}
use Rattle.gno_port.proofs.rows.add_empty.Given as goal

abbrev pub invariant-loop-key : goal.invariant-loop-key
invariant-loop-key l = record {
  left : applied (blanks (drop l.key-index l.keys)) (rows_table l.rows) ≡ applied (blanks l.keys) (rows_table l.fn.rows);
  others : applied (removals l.keys) (rows_table l.rows) ≡ applied (removals l.keys) (rows_table l.fn.rows);
}
