use Rattle.gno_typing.proofs.BuiltinForms.{builtin_form}
use Rattle.gno_typing.proofs.CallForms.{call_form, map_found}
use Rattle.gno_typing.proofs.laws.each_call_has_a_form.Goals as goal

pub returns-clause-call : goal.returns-clause-call
returns-clause-call c = λ path direct table place spread x xs. call_form table place path direct spread x _ (map_found xs)

pub returns-clause-builtin : goal.returns-clause-builtin
returns-clause-builtin c = λ table place function spread xs. builtin_form table place function spread _ (map_found xs)
