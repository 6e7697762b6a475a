use Rattle.std.proofs.Common.{length}
use Rattle.gno_script.proofs.Progress.{SoFar}
use Rattle.gno_script.proofs.script.read_script.Given as goal

abbrev pub decreases-loop-rest : goal.decreases-loop-rest
decreases-loop-rest l = length l.rest

abbrev pub invariant-loop-rest : goal.invariant-loop-rest
invariant-loop-rest l = SoFar l.bytes l.rest l.items l.stage l.number
