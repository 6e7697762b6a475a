use Rattle.std.proofs.Common.{ap}
use Rattle.gno_typing.specs.declared.pending.PendingOf.TheVariants as p
use Rattle.gno_operations.proofs.growing.longer_chain.Goals as goal

pub returns : goal.returns
returns c = ap (λ rest. p.Chain c.args.first rest) c.in_ok-push.ensures.ok
