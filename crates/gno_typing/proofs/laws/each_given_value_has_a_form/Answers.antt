use Rattle.gno_typing.proofs.GivenForms.{given_form}
use Rattle.gno_typing.proofs.laws.each_given_value_has_a_form.Goals as goal

pub returns : goal.returns
returns c = given_form
