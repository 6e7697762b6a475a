use Rattle.gno_tree_typing.proofs.ExprForms.{type_whole}
use Rattle.gno_tree_typing.proofs.laws.each_written_type_has_a_form.Goals as goal

pub returns : goal.returns
returns c = λ context x y h none. type_whole context h none
