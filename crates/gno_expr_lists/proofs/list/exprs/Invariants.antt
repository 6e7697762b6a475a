use Rattle.std.proofs.Common.{length}
use Rattle.gno_expr_lists.proofs.Loops.{Further}
use Rattle.gno_expr_lists.proofs.list.exprs.Given as goal

abbrev pub invariant-loop-place : goal.invariant-loop-place
invariant-loop-place g l = Further (g.R.Reader.scope l.fn.reader) l.fn.place l.fn.tokens l.exprs l.tokens

abbrev pub decreases-loop-place : goal.decreases-loop-place
decreases-loop-place g l = length l.tokens
