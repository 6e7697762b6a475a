use Rattle.std.specs.Prelude.{◌≡◌, length}
use Rattle.gno_layouts.proofs.tests.double.Given as goal

abbrev pub invariant-loop-number : goal.invariant-loop-number
invariant-loop-number l = length l.layouts ≡ l.number
