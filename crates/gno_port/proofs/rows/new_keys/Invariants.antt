use Rattle.std.proofs.Common.{◌≡◌, ◌++◌, drop}
use Rattle.gno_port.specs.Rows.{rows_table, fresh_keys}
use Rattle.gno_port.proofs.rows.new_keys.Given as goal

abbrev pub invariant-loop-change : goal.invariant-loop-change
invariant-loop-change l = l.keys ++ fresh_keys (rows_table l.rows) (drop l.change-index l.changes) ≡ fresh_keys (rows_table l.rows) l.changes
