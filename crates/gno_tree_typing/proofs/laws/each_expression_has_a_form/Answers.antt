use Rattle.gno_tree_typing.proofs.ExprForms.{judges_whole}
use Rattle.gno_tree_typing.proofs.laws.each_expression_has_a_form.Goals as goal

pub returns : goal.returns
returns c = λ context e y h none. judges_whole context h none
