use Rattle.std.proofs.Common.{◌≤◌, ◌-◌, length, take}
use Rattle.gno_scan.specs.Escapes.{AreParts}
use Rattle.gno_scan.proofs.escape.bad_escape.Given as goal

abbrev pub invariant-loop-at : goal.invariant-loop-at
invariant-loop-at l = record {
  parts : AreParts l.quote (take l.at l.inside);
  within : l.at ≤ length l.inside;
}

abbrev pub decreases-loop-at : goal.decreases-loop-at
decreases-loop-at l = length l.inside - l.at
