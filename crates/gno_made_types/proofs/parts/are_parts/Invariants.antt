use Rattle.gno_made_types.specs.Parts.{IsPart}
use Rattle.gno_type_reading.proofs.Lawfuls.{Rest}
use Rattle.gno_made_types.proofs.parts.are_parts.Given as goal

abbrev pub invariant-loop-part : goal.invariant-loop-part
invariant-loop-part l = Rest (IsPart l.types) l.parts l.part-index
