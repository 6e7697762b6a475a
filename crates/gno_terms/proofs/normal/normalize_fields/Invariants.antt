-- What the loop has passed is normal.
use Rattle.std.proofs.Common.{◌≡◌, ◌++◌, map, take, drop}
use Rattle.gno_terms.specs.Normal.{normal_field}
use Rattle.gno_terms.proofs.normal.normalize_fields.Given as goal

abbrev pub invariant-loop-field : goal.invariant-loop-field
invariant-loop-field l = take l.field-index l.fields ++ map normal_field (drop l.field-index l.fields) ≡ map normal_field l.fn.fields
