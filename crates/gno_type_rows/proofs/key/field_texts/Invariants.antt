use Rattle.std.specs.Prelude.{◌≡◌, ◌++◌, drop}
use Rattle.gno_type_rows.specs.Keys.{field_texts}
use Rattle.gno_type_rows.proofs.key.field_texts.Given as goal

abbrev pub invariant-loop-field : goal.invariant-loop-field
invariant-loop-field l = l.texts ++ field_texts (drop l.field-index l.fields) ≡ field_texts l.fields
