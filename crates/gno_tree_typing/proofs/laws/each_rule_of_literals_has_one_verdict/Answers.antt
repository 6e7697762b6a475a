use Rattle.gno_tree_typing.proofs.RuleOnes.{as_literal_type_one, elided_one, field_given_one, filled_one, key_found_one, list_literal_one, literal_one, map_key_one, map_literal_one, pointed_literal_one, struct_literal_one}
use Rattle.gno_tree_typing.proofs.laws.each_rule_of_literals_has_one_verdict.Goals as goal

pub returns-clause-literal : goal.returns-clause-literal
returns-clause-literal c = literal_one

pub returns-clause-of : goal.returns-clause-of
returns-clause-of c = as_literal_type_one

pub returns-clause-pointed : goal.returns-clause-pointed
returns-clause-pointed c = pointed_literal_one

pub returns-clause-filled : goal.returns-clause-filled
returns-clause-filled c = filled_one

pub returns-clause-field : goal.returns-clause-field
returns-clause-field c = field_given_one

pub returns-clause-index : goal.returns-clause-index
returns-clause-index c = key_found_one

pub returns-clause-key : goal.returns-clause-key
returns-clause-key c = map_key_one

pub returns-clause-fields : goal.returns-clause-fields
returns-clause-fields c = struct_literal_one

pub returns-clause-list : goal.returns-clause-list
returns-clause-list c = list_literal_one

pub returns-clause-map : goal.returns-clause-map
returns-clause-map c = map_literal_one

pub returns-clause-elided : goal.returns-clause-elided
returns-clause-elided c = elided_one
