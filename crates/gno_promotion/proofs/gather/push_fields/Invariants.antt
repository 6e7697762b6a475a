use Rattle.std.specs.Prelude.{◌≡◌, ◌++◌, drop, map}
use Rattle.gno_promotion.specs.Candidates.{of_field}
use Rattle.gno_promotion.proofs.gather.push_fields.Given as goal

abbrev pub invariant-loop-field : goal.invariant-loop-field
invariant-loop-field l = l.candidates.items ++ map (of_field l.way) (drop l.field-index l.fields) ≡ l.fn.candidates.items ++ map (of_field l.way) l.fields
