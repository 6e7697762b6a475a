use Rattle.std.proofs.Common.{◌≡◌, drop, length}
use Rattle.gno_table.proofs.loading.are_same.Given as goal

abbrev pub invariant-loop-at : goal.invariant-loop-at
invariant-loop-at l = record {
  so_far : drop l.at l.left ≡ drop l.at l.right → l.left ≡ l.right;
  lengths : length l.left ≡ length l.right;
}
