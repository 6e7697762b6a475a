use Rattle.std.proofs.Common.{◌≡◌, ◌≤◌}
use Rattle.std.specs.Prelude.{true}
use Rattle.gno_table.specs.Reading.{ReadsTo}
use Rattle.gno_table.proofs.reading.read_rows.Given as goal

abbrev pub invariant-loop-turn : goal.invariant-loop-turn
invariant-loop-turn g l = record {
  so_far : ReadsTo (g.K.Keeper.tables l.keeper (g.K.Keeper.open_name l.keeper)) l.key l.rows;
  is_open : g.K.Keeper.is_open l.keeper ≡ true;
  name : g.K.Keeper.open_name l.keeper ≡ g.K.Keeper.open_name l.fn.keeper;
  tables : g.K.Keeper.tables l.keeper ≡ g.K.Keeper.tables l.fn.keeper;
  later : g.K.Keeper.faults l.fn.keeper ≤ g.K.Keeper.faults l.keeper;
}
