use Rattle.std.proofs.Common.{◌≡◌, drop}
use Rattle.gno_scan.specs.NumberValues.{value_from}
use Rattle.gno_scan.proofs.number.value.digits_value.Given as goal

abbrev pub invariant-loop-b : goal.invariant-loop-b
invariant-loop-b l = value_from l.base l.value (drop l.b-index l.digits) ≡ value_from l.base 0 l.digits
