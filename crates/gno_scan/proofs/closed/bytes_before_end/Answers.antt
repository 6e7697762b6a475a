use Rattle.gno_scan.proofs.Comments.{no_end_yet}
use Rattle.gno_scan.proofs.Fronts.{not_true}
use Rattle.gno_scan.proofs.closed.bytes_before_end.Goals as goal

pub loop-at-preserved : goal.loop-at-preserved
loop-at-preserved c = no_end_yet c.args.text.now c.loop-at.at c.loop-at.auto.at c.loop-at-test.true c.loop-at.invariant (λ both. not_true (c.if-is_end.ensures.1 both))
