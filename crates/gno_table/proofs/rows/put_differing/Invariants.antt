use Rattle.std.proofs.Common.{◌≡◌, ℕ, List, drop}
use Rattle.std.specs.Prelude.{Option}
use Rattle.gno_machine.specs.Ints.{AreInts}
use Rattle.gno_port.specs.Tables.{latest}
use Rattle.gno_table.specs.Rows.{differing_rows}
use Rattle.gno_table.proofs.rows.put_differing.Given as goal

abbrev pub invariant-loop-index : goal.invariant-loop-index
invariant-loop-index l = record {
  put : (key : List ℕ) (before : Option (List ℕ)) → latest (differing_rows l.path (drop l.index l.names) (drop l.index l.old) (drop l.index l.new)) key (latest l.changes key before)
      ≡ latest (differing_rows l.path l.names l.old l.new) key (latest l.fn.changes key before);
  old_ints : AreInts (drop l.index l.old);
  new_ints : AreInts (drop l.index l.new);
}
