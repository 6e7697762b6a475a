use Rattle.std.proofs.Common.{◌≡◌, ℕ, drop}
use Rattle.std.specs.Prelude.{None}
use Rattle.std.specs.Ordering.{nat_cmp}
use Rattle.std.specs.BTreeMap.{get}
use Rattle.gno_table.specs.Sources.{last_source}
use Rattle.gno_table.proofs.sources.sources_of.Given as goal

abbrev pub invariant-loop-row : goal.invariant-loop-row
invariant-loop-row l = (order : ℕ) → last_source (drop l.row-index l.rows) order (get nat_cmp l.sources order) ≡ last_source l.rows order None
