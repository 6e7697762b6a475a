use Rattle.std.proofs.Common.{length}
use Rattle.gno_expr_lists.proofs.Loops.{FurtherValues}
use Rattle.gno_expr_lists.proofs.list.values.Given as goal

abbrev pub invariant-loop-place : goal.invariant-loop-place
invariant-loop-place g l = FurtherValues (g.R.Reader.scope l.fn.reader) l.fn.place l.fn.tokens l.values l.tokens

abbrev pub decreases-loop-place : goal.decreases-loop-place
decreases-loop-place g l = length l.tokens
