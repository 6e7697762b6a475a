use Rattle.std.specs.Prelude.{slice_get}
use Rattle.gno_layouts.specs.Layouts.{stands}
use Rattle.gno_layouts.proofs.Restarted.{Forgot}
use Rattle.gno_layouts.proofs.restart.forget.Given as goal

abbrev pub invariant-loop-number : goal.invariant-loop-number
invariant-loop-number g l = Forgot l.fn.rows (λ n. stands (slice_get l.definitions n)) l.rows l.number
