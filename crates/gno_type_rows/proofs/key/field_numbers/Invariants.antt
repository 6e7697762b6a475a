use Rattle.std.specs.Prelude.{◌≡◌, ◌++◌, drop}
use Rattle.gno_type_rows.specs.Keys.{field_numbers}
use Rattle.gno_type_rows.proofs.key.field_numbers.Given as goal

abbrev pub invariant-loop-field : goal.invariant-loop-field
invariant-loop-field l = l.numbers ++ field_numbers (drop l.field-index l.fields) ≡ field_numbers l.fields
