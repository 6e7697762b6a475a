use Rattle.gno_port.proofs.Steps.{lost_some}
use Rattle.gno_port.proofs.source.read_all.Goals as goal

pub returns-then-count-limit-clause-front : goal.returns-then-count-limit-clause-front
returns-then-count-limit-clause-front g c = lost_some _ _ _ _ _ c.loop-turn.invariant.lost c.in-Ok.ensures.bytes.1

pub returns-in_default-extend_from_slice-clause-front : goal.returns-in_default-extend_from_slice-clause-front
returns-in_default-extend_from_slice-clause-front g c = lost_some _ _ _ _ _ c.loop-turn.invariant.lost c.in-Ok.ensures.bytes.1
