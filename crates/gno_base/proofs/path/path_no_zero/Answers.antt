use Rattle.gno_base.proofs.PathBytes.{path_no_zero}
use Rattle.gno_base.proofs.path.path_no_zero.Goals as goal

pub returns : goal.returns
returns c = path_no_zero
