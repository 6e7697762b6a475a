use Rattle.std.proofs.Common.{◌≡◌, length, take, List}
use Rattle.gno_base.specs.Number.{Number}
use Rattle.gno_machine.specs.Ints.{AreInts}
use Rattle.gno_port.specs.Tables.{IsRising}
use Rattle.gno_table.specs.Loading.{StandAmong}
use Rattle.gno_table.proofs.FoundPackages.{StandFrom}
use Rattle.gno_table.proofs.loading.values_of.Given as goal

abbrev pub invariant-loop-name : goal.invariant-loop-name
invariant-loop-name l = record {
  count : length l.values ≡ l.name-index;
  ints : AreInts l.values;
  found : IsRising l.rows → (values : List Number) → StandAmong l.rows l.path l.names values → (l.values ≡ take l.name-index values) × StandFrom l.rows l.path l.names values l.name-index;
}
