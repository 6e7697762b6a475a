use Rattle.gno_typing.proofs.OneBuiltin.{builtin_one}
use Rattle.gno_typing.proofs.OneCall.{call_one}
use Rattle.gno_typing.proofs.OneGiven.{given_one}
use Rattle.gno_typing.proofs.OneName.{exported_one, named_one}
use Rattle.gno_typing.proofs.OneOperator.{binary_one, unary_one}
use Rattle.gno_typing.proofs.OnePrimary.{address_one, as_value_one, assertion_one, conversion_one, dereference_one, index_one, slice_one}
use Rattle.gno_typing.proofs.OneSelector.{selector_one}
use Rattle.gno_typing.proofs.laws.each_rule_has_one_verdict.Goals as goal

pub returns-clause-given : goal.returns-clause-given
returns-clause-given c = given_one

pub returns-clause-unary : goal.returns-clause-unary
returns-clause-unary c = λ table one place. unary_one table place one

pub returns-clause-binary : goal.returns-clause-binary
returns-clause-binary c = binary_one

pub returns-clause-value : goal.returns-clause-value
returns-clause-value c = as_value_one

pub returns-clause-dereference : goal.returns-clause-dereference
returns-clause-dereference c = λ table one place. dereference_one table place one

pub returns-clause-address : goal.returns-clause-address
returns-clause-address c = address_one

pub returns-clause-index : goal.returns-clause-index
returns-clause-index c = λ table one place. index_one table place one

pub returns-clause-slice : goal.returns-clause-slice
returns-clause-slice c = λ table one place. slice_one table place one

pub returns-clause-assertion : goal.returns-clause-assertion
returns-clause-assertion c = assertion_one

pub returns-clause-conversion : goal.returns-clause-conversion
returns-clause-conversion c = λ table one place. conversion_one table place one

pub returns-clause-call : goal.returns-clause-call
returns-clause-call c = λ path direct table one place spread x xs. call_one table place one path direct spread x xs

pub returns-clause-builtin : goal.returns-clause-builtin
returns-clause-builtin c = λ function table one place spread xs. builtin_one table place one function spread xs

pub returns-clause-named : goal.returns-clause-named
returns-clause-named c = named_one

pub returns-clause-exported : goal.returns-clause-exported
returns-clause-exported c = exported_one

pub returns-clause-selector : goal.returns-clause-selector
returns-clause-selector c = selector_one
