use Rattle.gno_tree_typing.proofs.RuleOnes.{array_length_one, array_type_one, distinct_one, embedded_field_one, embedded_methods_one, interface_method_one, map_type_one, qualified_type_one, struct_type_one, type_named_one, with_embedded_one}
use Rattle.gno_tree_typing.proofs.laws.each_rule_of_types_has_one_verdict.Goals as goal

pub returns-clause-name : goal.returns-clause-name
returns-clause-name c = type_named_one

pub returns-clause-qualified : goal.returns-clause-qualified
returns-clause-qualified c = qualified_type_one

pub returns-clause-names : goal.returns-clause-names
returns-clause-names c = distinct_one

pub returns-clause-length : goal.returns-clause-length
returns-clause-length c = array_length_one

pub returns-clause-array : goal.returns-clause-array
returns-clause-array c = array_type_one

pub returns-clause-map : goal.returns-clause-map
returns-clause-map c = map_type_one

pub returns-clause-fields : goal.returns-clause-fields
returns-clause-fields c = struct_type_one

pub returns-clause-embedded : goal.returns-clause-embedded
returns-clause-embedded c = embedded_field_one

pub returns-clause-method : goal.returns-clause-method
returns-clause-method c = interface_method_one

pub returns-clause-methods : goal.returns-clause-methods
returns-clause-methods c = λ table one place. embedded_methods_one table place one

pub returns-clause-together : goal.returns-clause-together
returns-clause-together c = with_embedded_one
