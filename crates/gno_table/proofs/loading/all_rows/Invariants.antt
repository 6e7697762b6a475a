use Rattle.std.proofs.Common.{◌≡◌, ℕ, List, drop}
use Rattle.std.specs.Prelude.{Option}
use Rattle.gno_port.specs.Tables.{latest}
use Rattle.gno_items.specs.Well.{IsWell}
use Rattle.gno_table.specs.Rows.{all_rows, rows_from}
use Rattle.gno_table.proofs.loading.all_rows.Given as goal

abbrev pub invariant-loop-order : goal.invariant-loop-order
invariant-loop-order l = record {
  put : (key : List ℕ) (before : Option (List ℕ)) → latest (rows_from l.order (drop l.order l.packages)) key (latest l.changes key before) ≡ latest (all_rows l.packages) key before;
  well : IsWell (drop l.order l.packages);
}
