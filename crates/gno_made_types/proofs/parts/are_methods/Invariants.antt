use Rattle.gno_made_types.specs.Parts.{IsPartMethod}
use Rattle.gno_type_reading.proofs.Lawfuls.{Rest}
use Rattle.gno_made_types.proofs.parts.are_methods.Given as goal

abbrev pub invariant-loop-method : goal.invariant-loop-method
invariant-loop-method l = Rest (IsPartMethod l.types) l.methods l.method-index
