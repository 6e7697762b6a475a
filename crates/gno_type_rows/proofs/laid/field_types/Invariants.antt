use Rattle.std.specs.Prelude.{◌≡◌, ◌++◌, drop, map}
use Rattle.gno_terms.specs.Terms.{field_of}
use Rattle.gno_type_rows.specs.Keys.{refs}
use Rattle.gno_type_rows.proofs.laid.field_types.Given as goal

abbrev pub invariant-loop-field : goal.invariant-loop-field
invariant-loop-field l = l.types ++ refs (map field_of (drop l.field-index l.fields)) ≡ refs (map field_of l.fields)
