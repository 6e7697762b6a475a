use Rattle.std.proofs.Common.{◌≡◌, length}
use Rattle.gno_type_table.proofs.Putting.{AreBlank}
use Rattle.gno_type_table.proofs.keeping.blank.Given as goal

abbrev pub invariant-loop-number : goal.invariant-loop-number
invariant-loop-number l = (length l.searches.items ≡ l._number) × AreBlank l.searches.items
