use Rattle.gno_made_types.specs.Parts.{IsPartField}
use Rattle.gno_type_reading.proofs.Lawfuls.{Rest}
use Rattle.gno_made_types.proofs.parts.are_fields.Given as goal

abbrev pub invariant-loop-field : goal.invariant-loop-field
invariant-loop-field l = Rest (IsPartField l.types) l.fields l.field-index
