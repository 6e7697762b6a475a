use Rattle.gno_type_reading.specs.Known.{IsOwnedName}
use Rattle.gno_type_reading.proofs.Lawfuls.{Rest}
use Rattle.gno_type_reading.proofs.lawful.are_fields.Given as goal

abbrev pub invariant-loop-field : goal.invariant-loop-field
invariant-loop-field l = Rest (λ f. IsOwnedName f.name f.«package») l.fields l.field-index
