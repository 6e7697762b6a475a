use Rattle.std.specs.Prelude.{◌≤◌, length}
use Rattle.gno_layouts.specs.Settling.{Keeps}
use Rattle.gno_layouts.proofs.holders.keep_known.Given as goal

abbrev pub invariant-loop-at : goal.invariant-loop-at
invariant-loop-at l = record {
  within : l.at ≤ length l.held;
  keeps : Keeps l.rows l.fn.held l.held;
}

abbrev pub decreases-loop-at : goal.decreases-loop-at
decreases-loop-at l = l.at
