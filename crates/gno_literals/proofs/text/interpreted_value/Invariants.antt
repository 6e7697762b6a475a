use Rattle.std.proofs.Common.{◌-◌, length}
use Rattle.gno_literals.proofs.Lines.{HasRead}
use Rattle.gno_literals.proofs.text.interpreted_value.Given as goal

abbrev pub invariant-loop-at : goal.invariant-loop-at
invariant-loop-at l = HasRead 34 l.inside l.bytes l.at

abbrev pub decreases-loop-at : goal.decreases-loop-at
decreases-loop-at l = length l.inside - l.at
