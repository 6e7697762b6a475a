use Rattle.gno_layouts.specs.Settling.{Fits}
use Rattle.gno_layouts.specs.declared.settling.State.TheVariants.{Waiting}
use Rattle.gno_layouts.proofs.settling.advanced.Given as goal

abbrev pub invariant-loop-at : goal.invariant-loop-at
invariant-loop-at l = Fits l.states l.row (Waiting l.at l.held)
