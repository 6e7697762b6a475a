use Rattle.std.specs.Prelude.{ℕ, ◌≡◌, ◌<◌, Some, slice_get}
use Rattle.gno_layouts.specs.declared.settling.State.{State}
use Rattle.gno_layouts.specs.declared.settling.State.TheVariants.{Waiting}
use Rattle.gno_layouts.specs.Layouts.{nothing}
use Rattle.gno_layouts.proofs.restart.restart.Given as goal

abbrev pub invariant-loop-state : goal.invariant-loop-state
invariant-loop-state l = (n : ℕ) (state : State) → n < l.state-index → slice_get l.states n ≡ Some state → state ≡ Waiting 0 nothing
