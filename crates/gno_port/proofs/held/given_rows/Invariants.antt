use Rattle.std.proofs.Common.{◌≡◌, drop}
use Rattle.gno_port.specs.HeldTables.{given_table}
use Rattle.gno_port.proofs.held.given_rows.Given as goal

abbrev pub invariant-loop-table : goal.invariant-loop-table
invariant-loop-table l = given_table (drop l.table-index l.given) l.name ≡ given_table l.given l.name
