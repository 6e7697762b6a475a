use Rattle.std.proofs.Common.{◌≡◌, ℕ, List, drop}
use Rattle.std.specs.Prelude.{Option}
use Rattle.gno_machine.specs.Ints.{AreInts}
use Rattle.gno_port.specs.Tables.{latest}
use Rattle.gno_table.specs.Rows.{variable_rows}
use Rattle.gno_table.proofs.rows.put_variables.Given as goal

abbrev pub invariant-loop-index : goal.invariant-loop-index
invariant-loop-index l = record {
  put : (key : List ℕ) (before : Option (List ℕ)) → latest (variable_rows l.path (drop l.index l.names) (drop l.index l.values)) key (latest l.changes key before)
      ≡ latest (variable_rows l.path l.names l.values) key (latest l.fn.changes key before);
  ints : AreInts (drop l.index l.values);
}
