use Rattle.std.proofs.Common.{◌≡◌, drop}
use Rattle.std.specs.FinMap.{empty}
use Rattle.gno_port.specs.HeldTables.{row_changes}
use Rattle.gno_port.specs.Rows.{rows_table}
use Rattle.gno_port.specs.Tables.{applied}
use Rattle.gno_port.proofs.held.rows_of.Given as goal

abbrev pub invariant-loop-row : goal.invariant-loop-row
invariant-loop-row l = applied (row_changes (drop l.row-index l.rows)) (rows_table l.made) ≡ applied (row_changes l.rows) empty
