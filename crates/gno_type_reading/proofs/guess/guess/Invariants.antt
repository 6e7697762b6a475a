use Rattle.gno_type_reading.proofs.Going.{Going, weight}
use Rattle.gno_type_reading.proofs.guess.guess.Given as goal

abbrev pub invariant-parts : goal.invariant-parts
invariant-parts l = Going l.fn.types l.text l.types l.frames.items l.last l.cursor

abbrev pub decreases-parts : goal.decreases-parts
decreases-parts l = weight l.cursor l.frames.items l.last
