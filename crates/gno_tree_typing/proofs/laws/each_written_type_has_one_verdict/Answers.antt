use Rattle.gno_tree_typing.proofs.ExprOnes.{type_once}
use Rattle.gno_tree_typing.proofs.laws.each_written_type_has_one_verdict.Goals as goal

pub returns : goal.returns
returns c = λ context one x y z h k. type_once context one h k
