use Rattle.gno_typing.proofs.OperatorForms.{binary_form, unary_form}
use Rattle.gno_typing.proofs.laws.each_operator_has_a_form.Goals as goal

pub returns-clause-unary : goal.returns-clause-unary
returns-clause-unary c = unary_form

pub returns-clause-binary : goal.returns-clause-binary
returns-clause-binary c = binary_form
