-- Each selector has a form or a fault.
use Rattle.std.proofs.Common.{ℕ, Bool, true, false, List, inl, inr}
use Rattle.gno_scan.specs.declared.token.Pos.{Pos}
use Rattle.gno_terms.specs.declared.term.GoType.{GoType}
use Rattle.gno_terms.specs.Tables.{Table}
use Rattle.gno_typing.specs.Laws.{HasForm}
use Rattle.gno_typing.specs.Names.{Meaning}
use Rattle.gno_typing.specs.Selectors.{FieldFound, Holder, MethodFound, field_selected, member_selected, method_selected, methods_by, selected, selected_in, selected_of, selector}
use Rattle.gno_typing.specs.declared.form.FormOf.{FormOf}
use Rattle.gno_typing.specs.declared.operand.OperandOf.{OperandOf}
use Rattle.gno_typing.specs.declared.operand.OperandOf.TheVariants as o
use Rattle.gno_typing.specs.declared.value.Standing.{Standing}
use Rattle.gno_typing.specs.declared.value.Standing.TheVariants as st
use Rattle.gno_typing.specs.declared.value.ValueOf.{ValueOf}
use Rattle.gno_typing.specs.declared.value.ValueOf.TheVariants as v
use Rattle.gno_typing.proofs.NameForms.{exported_form}
use Rattle.gno_typing.proofs.Parts.{after_form, bad_form, good_form, some_form, wants_form, where_form}
use Rattle.gno_typing.proofs.PrimaryForms.{as_value_form, settled_form}

module _ (table : Table) (place : Pos) (path name : List ℕ) where
  field_form : (s : GoType) (stands : Standing) (calls : Bool) (form : FormOf GoType) (h : Holder) (x : FieldFound) → HasForm (field_selected place s stands calls form h x)
  field_form s stands calls form h x = good_form _

  method_form : (s : GoType) (stands : Standing) (calls : Bool) (form : FormOf GoType) (h : Holder) (x : MethodFound) → HasForm (method_selected table place s stands calls form h x)
  method_form s stands calls form h x = where_form _ _ _ (where_form _ _ _ (good_form _) (good_form _)) (wants_form _ 56 place _ (good_form _))

  methods_form : (fields_alone : Bool) (s : GoType) (stands : Standing) (calls : Bool) (form : FormOf GoType) (h : Holder) → HasForm (methods_by fields_alone table place path name s stands calls form h)
  methods_form true s stands calls form h = bad_form 52 place
  methods_form false s stands calls form h = some_form _ 52 place _ (method_form s stands calls form h)

  member_form : (s : GoType) (stands : Standing) (calls : Bool) (form : FormOf GoType) (h : Holder) → HasForm (member_selected table place path name s stands calls form h)
  member_form s stands calls form h y (inl (x, is, judged)) none = field_form s stands calls form h x y judged none
  member_form s stands calls form h y (inr (not, judged)) none = methods_form h.fields_alone s stands calls form h y judged none

  of_form : (s : GoType) (stands : Standing) (calls : Bool) (form : FormOf GoType) (h : Holder) → HasForm (selected_of table place path name s stands calls form h)
  of_form s stands calls form h = wants_form _ 52 place _ (wants_form _ 53 place _ (member_form s stands calls form h))

  in_form : (s : GoType) (stands : Standing) (calls : Bool) (form : FormOf GoType) → HasForm (selected_in table place path name s stands calls form)
  in_form s stands calls form = some_form _ 52 place _ (of_form s stands calls form)

  selected_form : (x : ValueOf GoType) → HasForm (selected table place path name x)
  selected_form (v.Typed at s stands calls form) = in_form s stands calls form
  selected_form (v.Constant at s x) = after_form _ _ (settled_form table 52 place (v.Constant at s x)) (λ y. in_form y.of st.Result false y.form)
  selected_form (v.Nil at) = after_form _ _ (settled_form table 52 place (v.Nil at)) (λ y. in_form y.of st.Result false y.form)
  selected_form (v.Pending at needs calls form) = after_form _ _ (settled_form table 52 place (v.Pending at needs calls form)) (λ y. in_form y.of st.Result calls y.form)

  pub selector_form : (exports : List ℕ → List Meaning) (x : OperandOf GoType) → HasForm (selector exports path table place name x)
  unfolding selector
  selector_form exports (o.Package at of) = exported_form (exports of) place name
  selector_form exports (o.Type at s) = bad_form 52 place
  selector_form exports (o.Value x) = after_form _ _ (as_value_form (o.Value x)) selected_form
  selector_form exports (o.Method at of calls form bound) = after_form _ _ (as_value_form (o.Method at of calls form bound)) selected_form
  selector_form exports (o.Crossing at of code) = after_form _ _ (as_value_form (o.Crossing at of code)) selected_form
  selector_form exports (o.Results at of form) = after_form _ _ (as_value_form (o.Results at of form)) selected_form
  selector_form exports (o.OpenArray at element) = after_form _ _ (as_value_form (o.OpenArray at element)) selected_form
  selector_form exports (o.Builtin at function) = after_form _ _ (as_value_form (o.Builtin at function)) selected_form
  selector_form exports (o.Cross at) = after_form _ _ (as_value_form (o.Cross at)) selected_form
  selector_form exports (o.Realm at) = after_form _ _ (as_value_form (o.Realm at)) selected_form
