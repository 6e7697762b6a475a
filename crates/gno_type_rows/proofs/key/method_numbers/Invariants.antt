use Rattle.std.specs.Prelude.{◌≡◌, ◌++◌, drop}
use Rattle.gno_type_rows.specs.Keys.{method_numbers}
use Rattle.gno_type_rows.proofs.key.method_numbers.Given as goal

abbrev pub invariant-loop-method : goal.invariant-loop-method
invariant-loop-method l = l.numbers ++ method_numbers (drop l.method-index l.methods) ≡ method_numbers l.methods
