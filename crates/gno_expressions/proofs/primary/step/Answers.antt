use Rattle.gno_expressions.proofs.Built.{with_step}
use Rattle.gno_expressions.proofs.primary.step.Goals as goal

pub returns : goal.returns
returns g c = with_step (g.R.Reader.scope c.args.reader.now) c.args.place c.args.operand _ c.args.tokens.now _ _ _ c.shape-shape.ensures c.in_ok-suffix.ensures c.in_ok-operand.ensures
