use Rattle.std.proofs.Common.{subst}
use Rattle.gno_constants.specs.Exact.{exact}
use Rattle.gno_operations.specs.Folding.{WorksOut}
use Rattle.gno_typing.specs.Binary.{fold_of}
use Rattle.gno_shifts.proofs.shifts.constants_shifted.Goals as goal

pub returns : goal.returns
returns c s is = c.worked_out.ensures s (exact (fold_of c.args.operator) c.args.value c.args.by) is (subst (λ op. WorksOut c.in_ok-x.x (exact op c.args.value c.args.by)) c.fold_of.ensures c.in_ok-x.ensures)
