use Rattle.gno_layouts.proofs.holders.keep_known.Goals as goal

pub loop-at-preserved : goal.loop-at-preserved
loop-at-preserved c = record {
  within = c.keep_at.ensures.size;
  keeps = λ n row h known i. c.keep_at.ensures.keeps n row h known (c.loop-at.invariant.keeps n row h known i);
}
