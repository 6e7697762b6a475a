use Rattle.gno_typing.proofs.NameForms.{exported_form, named_form}
use Rattle.gno_typing.proofs.laws.each_name_has_a_form.Goals as goal

pub returns-clause-named : goal.returns-clause-named
returns-clause-named c = named_form

pub returns-clause-exported : goal.returns-clause-exported
returns-clause-exported c = exported_form
