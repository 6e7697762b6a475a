use Rattle.std.proofs.Common.{length, ◌*◌, ◌+◌}
use Rattle.gno_expressions.proofs.Loops.{Turns}
use Rattle.gno_expressions.proofs.operations.+operations.Given as goal

abbrev pub decreases-with_operation : goal.decreases-with_operation
decreases-with_operation g l = 3 * l.level + 1

abbrev pub decreases-operands : goal.decreases-operands
decreases-operands g l = 3 * l.level + 2

abbrev pub decreases-operations : goal.decreases-operations
decreases-operations g l = 3 * l.levels

abbrev pub invariant-operands-loop-place : goal.invariant-operands-loop-place
invariant-operands-loop-place g l = Turns (g.R.Reader.scope l.fn.reader) l.fn.place l.fn.level l.fn.tokens l.operands l.tokens

abbrev pub decreases-operands-loop-place : goal.decreases-operands-loop-place
decreases-operands-loop-place g l = length l.tokens
