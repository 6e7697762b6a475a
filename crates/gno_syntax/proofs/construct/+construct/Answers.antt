use Rattle.std.proofs.Common.{arith}
use Rattle.gno_syntax.proofs.Deeper.{deeper}
use Rattle.gno_syntax.proofs.construct.+construct.Goals as goal

pub returns : goal.returns
returns t c = deeper c.args.text.now c.args.depth c.args.rule c.args.tokens.now _ _ (omega arith) c.read.ensures
