use Rattle.gno_type_table.specs.Kept.{KnownBefore}
use Rattle.gno_type_table.proofs.forgetting.first_undefined.Given as goal

abbrev pub invariant-loop-place : goal.invariant-loop-place
invariant-loop-place l = KnownBefore l.rows l.types l.place
