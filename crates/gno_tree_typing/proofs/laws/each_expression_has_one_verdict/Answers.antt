use Rattle.gno_tree_typing.proofs.ExprOnes.{judges_once}
use Rattle.gno_tree_typing.proofs.laws.each_expression_has_one_verdict.Goals as goal

pub returns : goal.returns
returns c = λ context one e y z h k. judges_once context one h k
