use Rattle.std.proofs.Common.{◌+◌, ◌≤◌, length, reverse}
use Rattle.gno_selectors.specs.Standings.{GoesFrom}
use Rattle.gno_selectors.proofs.way.way_to.Given as goal

abbrev pub invariant-loop-number : goal.invariant-loop-number
invariant-loop-number l = record {
  goes : GoesFrom l.reached l.number (l.place + 1) (reverse l.way.items);
  within : l.number ≤ length l.reached;
}

abbrev pub decreases-loop-number : goal.decreases-loop-number
decreases-loop-number l = l.number
