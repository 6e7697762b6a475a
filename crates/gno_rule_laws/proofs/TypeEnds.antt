-- All that is to be computed with, in one list; and the sets that depend on how a type ends.
use Rattle.std.proofs.Common.{◌≡◌, refl, ℕ, true, [], ◌∷◌, ◌++◌}
use Rattle.gno_scan.specs.declared.kind.TokenKind.TheVariants as k
use Rattle.gno_rules.specs.Kinds.{numbers}
use Rattle.gno_grammar.specs.Sets.{member, disjoint, within}
use Rattle.gno_grammar.specs.Readers.{null, first}
use Rattle.gno_grammar.specs.Deciding.{most, more}
use Rattle.gno_rules.specs.Parts.{name, names, dotted}
use Rattle.gno_rules.specs.Signatures.{type_more, TYPE_MOST, type_name, type_by_name, variadic, behind_name, behind_first, type_entry, variadic_entry, first_entry, further_names, group_rest, group, next_entry, parameter_list, parameters, results, signature}
use Rattle.gno_rules.specs.Types.{pointer, length, bracket, array, map_key, map, function as function_by_type, behind_field_name, untagged_field, field, struct, no_union, behind_member_name, member as interface_member, interface, paren_type, built, result_type, other_type, type, no_parameter, length_end, declared_length, declared_array, declared_type, operand_length, array_operand, type_operand}
use Rattle.gno_rules.specs.Expressions.{literal, name_operand, type_operand as type_found_operand, conversion, header_elements, behind_header_type, header_type, operand, asserted, selector, bracketed, elements_suffix, type_suffix, function_suffix, value_suffix, named_suffix, plain_suffix, suffix, operand_alone, stepped, primary, unary, operations, expr, plain_expr, exprs, values, paren, slice_bounds, low_step, index, spread, argument_list, arguments, elements_part, one_element, elements, function_head, function as function_operand, header_function}
use Rattle.gno_rules.specs.Declarations.{initial, const, var, type as declared, const_declaration, type_declaration, var_declaration, declaration, behind_receiver_name, receiver, function_rest, function_named, function as declared_function, top_level, import_spec, import_declaration, imports, top_levels, package_clause, file}
use Rattle.gno_rules.specs.Statements.{range_of, assigned, assign_tail, define_tail, define_one, step_tail, simple_tail, simple_statements, condition, behind_simple, if_header, if_arm, alternative, if_arms, if_statement, guard_alone, behind_tag, tag, tag_behind, behind_switch, switch_head, switch_statement, for_clauses, behind_for, for_header, for_statement, return_statement, break_statement, continue_statement, fallthrough_statement, defer_statement, keyword_statement, unlabeled, labeled, statement, next_statement, statements, block, case_labels, one_case, cases, switch_body}
use Rattle.gno_rules.specs.declared.types.TypeEnd.{TypeEnd}
use Rattle.gno_rules.specs.declared.types.TypeEnd.TheVariants.{Closed, Name as Named, Open}

-- the sets
unfoldable pub shown_sets : ℕ
unfolding member disjoint within null first most more
shown_sets = 0

-- the phrases of each file
unfoldable pub shown_parts : ℕ
unfolding name names dotted
shown_parts = 0

unfoldable pub shown_signatures : ℕ
unfolding type_name type_by_name variadic behind_name behind_first type_entry variadic_entry first_entry further_names group_rest group next_entry parameter_list parameters results signature
shown_signatures = 0

unfoldable pub shown_types : ℕ
unfolding pointer length bracket array map_key map function_by_type behind_field_name untagged_field field struct no_union behind_member_name interface_member interface paren_type built result_type other_type type no_parameter length_end declared_length declared_array declared_type operand_length array_operand type_operand
shown_types = 0

unfoldable pub shown_expressions : ℕ
unfolding literal name_operand type_found_operand conversion header_elements behind_header_type header_type operand asserted selector bracketed elements_suffix type_suffix function_suffix value_suffix named_suffix plain_suffix suffix operand_alone stepped primary unary operations expr plain_expr exprs values paren slice_bounds low_step index spread argument_list arguments elements_part one_element elements function_head function_operand header_function
shown_expressions = 0

unfoldable pub shown_declarations : ℕ
unfolding initial const var declared const_declaration type_declaration var_declaration declaration behind_receiver_name receiver function_rest function_named declared_function top_level import_spec import_declaration imports top_levels package_clause file
shown_declarations = 0

unfoldable pub shown_statements : ℕ
unfolding range_of assigned assign_tail define_tail define_one step_tail simple_tail simple_statements condition behind_simple if_header if_arm alternative if_arms if_statement guard_alone behind_tag tag tag_behind behind_switch switch_head switch_statement for_clauses behind_for for_header for_statement return_statement break_statement continue_statement fallthrough_statement defer_statement keyword_statement unlabeled labeled statement next_statement statements block case_labels one_case cases switch_body
shown_statements = 0

-- all of them: a proof that computes says `unfolding shown`
unfoldable pub shown : ℕ
unfolding shown_sets shown_parts shown_signatures shown_types shown_expressions shown_declarations shown_statements
shown = 0

-- ---- the kinds that can go on with a type

-- are those that can go on with any
pub end_within : (e : TypeEnd) → within (type_more e) TYPE_MOST ≡ true
unfolding shown_sets
end_within Closed = refl
end_within Named = refl
end_within Open = refl

-- are within themselves
pub end_same : (e : TypeEnd) → within (type_more e) (type_more e) ≡ true
unfolding shown_sets
end_same Closed = refl
end_same Named = refl
end_same Open = refl

-- and so where a set is joined with none
pub end_same_none : (e : TypeEnd) → within (type_more e ++ []) (type_more e) ≡ true
unfolding shown_sets
end_same_none Closed = refl
end_same_none Named = refl
end_same_none Open = refl

-- are apart from the empty set
pub end_apart_none : (e : TypeEnd) → disjoint (type_more e) [] ≡ true
unfolding shown_sets
end_apart_none Closed = refl
end_apart_none Named = refl
end_apart_none Open = refl

pub end_apart_none_none : (e : TypeEnd) → disjoint (type_more e ++ []) [] ≡ true
unfolding shown_sets
end_apart_none_none Closed = refl
end_apart_none_none Named = refl
end_apart_none_none Open = refl

-- are apart from what begins a body
pub end_no_brace : (e : TypeEnd) → disjoint (type_more e) (numbers (k.LeftBrace ∷ [])) ≡ true
unfolding shown_sets
end_no_brace Closed = refl
end_no_brace Named = refl
end_no_brace Open = refl
