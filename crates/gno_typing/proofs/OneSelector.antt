-- Each selector has one verdict.
use Rattle.std.proofs.Common.{ℕ, Bool, true, false, List}
use Rattle.gno_embedding.specs.Walking.{HasOneDefinition}
use Rattle.gno_scan.specs.declared.token.Pos.{Pos}
use Rattle.gno_terms.specs.declared.term.GoType.{GoType}
use Rattle.gno_terms.specs.Tables.{Table}
use Rattle.gno_typing.specs.Laws.{HasOne}
use Rattle.gno_typing.specs.Names.{Meaning}
use Rattle.gno_typing.specs.Selectors.{FieldFound, Holder, MethodFound, asked, field_selected, member_selected, method_selected, methods_by, selected, selected_in, selected_of, selector}
use Rattle.gno_typing.specs.declared.form.FormOf.{FormOf}
use Rattle.gno_typing.specs.declared.operand.OperandOf.{OperandOf}
use Rattle.gno_typing.specs.declared.operand.OperandOf.TheVariants as o
use Rattle.gno_typing.specs.declared.value.Standing.{Standing}
use Rattle.gno_typing.specs.declared.value.Standing.TheVariants as st
use Rattle.gno_typing.specs.declared.value.ValueOf.{ValueOf}
use Rattle.gno_typing.specs.declared.value.ValueOf.TheVariants as v
use Rattle.gno_typing.proofs.OneName.{exported_one}
use Rattle.gno_typing.proofs.OneParts.{after_one, bad_one, found_one, good_one, some_one, wants_one, where_one}
use Rattle.gno_typing.proofs.OnePrimary.{as_value_one, settled_one}
use Rattle.gno_typing.proofs.OneSelected.{field_once, holder_once, method_once}

module _ (path : List ℕ) (table : Table) (one : HasOneDefinition table) (place : Pos) (name : List ℕ) where
  field_one : (s : GoType) (stands : Standing) (calls : Bool) (form : FormOf GoType) (h : Holder) (x : FieldFound) → HasOne (field_selected place s stands calls form h x)
  field_one s stands calls form h x = good_one _

  method_one : (s : GoType) (stands : Standing) (calls : Bool) (form : FormOf GoType) (h : Holder) (x : MethodFound) → HasOne (method_selected table place s stands calls form h x)
  method_one s stands calls form h x = where_one _ _ _ (where_one _ _ _ (good_one _) (good_one _)) (wants_one _ 56 place _ (good_one _))

  methods_one : (fields_alone : Bool) (s : GoType) (stands : Standing) (calls : Bool) (form : FormOf GoType) (h : Holder) → HasOne (methods_by fields_alone table place path name s stands calls form h)
  methods_one true s stands calls form h = bad_one 52 place
  methods_one false s stands calls form h = some_one _ 52 place _ (method_once table one h.of name (asked path name)) (method_one s stands calls form h)

  member_one : (s : GoType) (stands : Standing) (calls : Bool) (form : FormOf GoType) (h : Holder) → HasOne (member_selected table place path name s stands calls form h)
  member_one s stands calls form h = found_one _ _ _ (field_once table one h.of name (asked path name)) (field_one s stands calls form h) (methods_one h.fields_alone s stands calls form h)

  of_one : (s : GoType) (stands : Standing) (calls : Bool) (form : FormOf GoType) (h : Holder) → HasOne (selected_of table place path name s stands calls form h)
  of_one s stands calls form h = wants_one _ 52 place _ (wants_one _ 53 place _ (member_one s stands calls form h))

  in_one : (s : GoType) (stands : Standing) (calls : Bool) (form : FormOf GoType) → HasOne (selected_in table place path name s stands calls form)
  in_one s stands calls form = some_one _ 52 place _ (holder_once table one s) (of_one s stands calls form)

  selected_one : (x : ValueOf GoType) → HasOne (selected table place path name x)
  selected_one (v.Typed at s stands calls form) = in_one s stands calls form
  selected_one (v.Constant at s x) = after_one _ _ (settled_one table 52 place (v.Constant at s x)) (λ y. in_one y.of st.Result false y.form)
  selected_one (v.Nil at) = after_one _ _ (settled_one table 52 place (v.Nil at)) (λ y. in_one y.of st.Result false y.form)
  selected_one (v.Pending at needs calls form) = after_one _ _ (settled_one table 52 place (v.Pending at needs calls form)) (λ y. in_one y.of st.Result calls y.form)

  by_operand_one : (exports : List ℕ → List Meaning) (x : OperandOf GoType) → HasOne (selector exports path table place name x)
  unfolding selector
  by_operand_one exports (o.Package at of) = exported_one (exports of) place name
  by_operand_one exports (o.Type at s) = bad_one 52 place
  by_operand_one exports (o.Value x) = after_one _ _ (as_value_one (o.Value x)) selected_one
  by_operand_one exports (o.Method at of calls form bound) = after_one _ _ (as_value_one (o.Method at of calls form bound)) selected_one
  by_operand_one exports (o.Crossing at of code) = after_one _ _ (as_value_one (o.Crossing at of code)) selected_one
  by_operand_one exports (o.Results at of form) = after_one _ _ (as_value_one (o.Results at of form)) selected_one
  by_operand_one exports (o.OpenArray at element) = after_one _ _ (as_value_one (o.OpenArray at element)) selected_one
  by_operand_one exports (o.Builtin at function) = after_one _ _ (as_value_one (o.Builtin at function)) selected_one
  by_operand_one exports (o.Cross at) = after_one _ _ (as_value_one (o.Cross at)) selected_one
  by_operand_one exports (o.Realm at) = after_one _ _ (as_value_one (o.Realm at)) selected_one

pub selector_one : (exports : List ℕ → List Meaning) (path : List ℕ) (table : Table) → HasOneDefinition table → (place : Pos) (name : List ℕ) (x : OperandOf GoType) → HasOne (selector exports path table place name x)
selector_one exports path table one place name x = by_operand_one path table one place name exports x
