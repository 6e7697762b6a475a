use Rattle.gno_judging.proofs.Noting.{none_is}
use Rattle.gno_judging.proofs.laws.a_fault_is_told_where_one_was_noted.Goals as goal

pub returns : goal.returns
returns c = none_is
