use Rattle.gno_type_reading.specs.Known.{IsOwnedMethod}
use Rattle.gno_type_reading.proofs.Lawfuls.{Rest}
use Rattle.gno_type_reading.proofs.lawful.are_methods.Given as goal

abbrev pub invariant-loop-method : goal.invariant-loop-method
invariant-loop-method l = Rest (IsOwnedMethod l.types.types) l.methods l.method-index
