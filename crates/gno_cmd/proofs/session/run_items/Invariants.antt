use Rattle.std.proofs.Common.{◌≡◌, ◌≢◌, ◌≤◌, ℕ, List, drop, take}
use Rattle.std.specs.Prelude.{IsSome, true}
use Rattle.gno_table.specs.FirstFormat.{Stands}
use Rattle.gno_cmd.specs.Performing.{AreNamed}
use Rattle.gno_cmd.proofs.Stopped.{HasCome}
use Rattle.gno_cmd.proofs.session.run_items.Given as goal

abbrev pub invariant-loop-item : goal.invariant-loop-item
invariant-loop-item g l = record {
  came : IsSome (g.K.Keeper.tables l.fn.keeper l.name) → HasCome l.fn.packages (take l.item-index l.items) (g.O.Sink.holds l.fn.out) (g.O.Sink.holds l.out) l.packages l.done l.good;
  count : l.done ≤ l.item-index;
  is_open : g.K.Keeper.is_open l.keeper ≡ true;
  name : g.K.Keeper.open_name l.keeper ≡ l.name;
  stands : Stands (g.K.Keeper.tables l.keeper l.name) l.packages;
  start : l.item-index ≡ 0 → g.K.Keeper.tables l.keeper l.name ≡ g.K.Keeper.tables l.fn.keeper l.name;
  told : IsSome (g.K.Keeper.tables l.fn.keeper l.name) → IsSome (g.K.Keeper.tables l.keeper l.name);
  others : (other : List ℕ) → other ≢ l.name → g.K.Keeper.tables l.keeper other ≡ g.K.Keeper.tables l.fn.keeper other;
  named : AreNamed (drop l.item-index l.items);
  later_out : g.O.Sink.faults l.fn.out ≤ g.O.Sink.faults l.out;
  later_zero : g.O.Sink.zero_writes l.fn.out ≤ g.O.Sink.zero_writes l.out;
  later : g.K.Keeper.faults l.fn.keeper ≤ g.K.Keeper.faults l.keeper;
}
