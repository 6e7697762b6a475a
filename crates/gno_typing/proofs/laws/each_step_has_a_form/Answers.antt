use Rattle.gno_typing.proofs.PrimaryForms.{address_form, as_value_form, assertion_form, conversion_form, dereference_form, index_form, slice_form}
use Rattle.gno_typing.proofs.SelectorForms.{selector_form}
use Rattle.gno_typing.proofs.laws.each_step_has_a_form.Goals as goal

pub returns-clause-value : goal.returns-clause-value
returns-clause-value c = as_value_form

pub returns-clause-dereference : goal.returns-clause-dereference
returns-clause-dereference c = dereference_form

pub returns-clause-address : goal.returns-clause-address
returns-clause-address c = address_form

pub returns-clause-index : goal.returns-clause-index
returns-clause-index c = index_form

pub returns-clause-slice : goal.returns-clause-slice
returns-clause-slice c = slice_form

pub returns-clause-assertion : goal.returns-clause-assertion
returns-clause-assertion c = assertion_form

pub returns-clause-conversion : goal.returns-clause-conversion
returns-clause-conversion c = conversion_form

pub returns-clause-selector : goal.returns-clause-selector
returns-clause-selector c = λ exports path table place name x. selector_form table place path name exports x
