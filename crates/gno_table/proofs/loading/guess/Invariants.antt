use Rattle.std.proofs.Common.{◌≡◌, ◌≤◌, ℕ, List, length, take}
use Rattle.std.specs.Prelude.{None}
use Rattle.std.specs.Ordering.{nat_cmp}
use Rattle.std.specs.BTreeMap.{get}
use Rattle.gno_items.specs.declared.memory.Package.{Package}
use Rattle.gno_items.specs.Well.{IsWell}
use Rattle.gno_table.specs.Loading.{AreRowsOf}
use Rattle.gno_table.specs.Sources.{last_source}
use Rattle.gno_table.proofs.loading.guess.Given as goal

abbrev pub invariant-loop-order : goal.invariant-loop-order
invariant-loop-order l = record {
  well : IsWell l.packages;
  count : length l.packages ≡ l.order-counter;
  left : (order : ℕ) → l.order-counter ≤ order → get nat_cmp l.sources order ≡ last_source l.rows order None;
  found : (memory : List Package) → AreRowsOf l.rows memory → l.packages ≡ take l.order-counter memory;
}
