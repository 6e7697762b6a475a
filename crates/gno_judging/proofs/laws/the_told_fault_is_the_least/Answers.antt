use Rattle.gno_judging.proofs.Least.{told_is_least}
use Rattle.gno_judging.proofs.laws.the_told_fault_is_the_least.Goals as goal

pub returns : goal.returns
returns c = told_is_least
