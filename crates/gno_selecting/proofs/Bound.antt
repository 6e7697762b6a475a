-- Fields and methods with the values of their forms.
use Rattle.std.proofs.Common.{◌≡◌, refl, sym, ap, ◌∙◌, subst, ℕ, List, [], ◌∷◌, Bool, true, false, Option, Some, None, rules}
use Rattle.std.specs.Prelude.{◌&&◌, not}
use Rattle.gno_judging.specs.Answers.{Answers}
use Rattle.gno_judging.specs.Found.{FormStands, OperandStands, TypeStands}
use Rattle.gno_judging.specs.Found.{OperandStands as operand, ValueStands as value}
use Rattle.gno_judging.specs.Noting.{noted}
use Rattle.gno_judging.specs.Stands.{StepStands}
use Rattle.gno_judging.proofs.Answers.{fails, gives, holds, is_not_so, is_so}
use Rattle.gno_scan.specs.declared.token.Pos.{Pos}
use Rattle.gno_selecting.specs.Members.{bound_form}
use Rattle.gno_selectors.specs.declared.selection.Passed.{Passed}
use Rattle.gno_terms.specs.declared.term.GoType.{GoType}
use Rattle.gno_terms.specs.declared.term.TypeRef.{TypeRef}
use Rattle.gno_terms.specs.Tables.{Table}
use Rattle.gno_typed.specs.declared.step.Adjustment.{Adjustment}
use Rattle.gno_typed.specs.declared.step.ReceiverOf.{ReceiverOf}
use Rattle.gno_typed.specs.declared.step.ReceiverOf.TheVariants as receiver
use Rattle.gno_typed.specs.declared.step.TypedStepOf.TheVariants as step
use Rattle.gno_typing.specs.Classes.{IsInterface}
use Rattle.gno_typing.specs.Forms.{with_step}
use Rattle.gno_typing.specs.Selectors.{FieldFound, Holder, MethodFound, adjustment, declared_method, ends_in_pointer, field_selected, is_place, may_receive, method_selected, reached}
use Rattle.gno_typing.specs.declared.fault.Fault.{Fault}
use Rattle.gno_typing.specs.declared.form.FormOf.{FormOf}
use Rattle.gno_typing.specs.declared.operand.OperandOf.{OperandOf}
use Rattle.gno_typing.specs.declared.operand.OperandOf.TheVariants as o
use Rattle.gno_typing.specs.declared.value.Standing.{Standing}
use Rattle.gno_typing.specs.declared.value.ValueOf.TheVariants as v

module _ (table : Table) (place : Pos) (s : GoType) (stands : Standing) (calls : Bool) (y : FormOf GoType) (h : Holder) (as_place : Bool) (place_is : as_place ≡ (is_place stands && not h.pointer)) where
  module _ (x : MethodFound) where
    pub as_it_stands : (r : OperandOf TypeRef) (z : ReceiverOf GoType) → OperandStands table r (bound_form as_place place calls y h x z) → OperandStands table r (bound_form (is_place stands && not h.pointer) place calls y h x z)
    as_it_stands r z k = subst (λ (b : Bool). OperandStands table r (bound_form b place calls y h x z)) place_is k

    pub received : (old : Option Fault) (r : OperandOf TypeRef) (ends : Bool) → ends ≡ ends_in_pointer h.pointer x.way → (adjusted : Adjustment) → adjusted ≡ adjustment x.method.pointer ends → (standing : Standing) → standing ≡ reached h.pointer x.way stands
        → may_receive x.method.pointer ends standing ≡ true → OperandStands table r (bound_form as_place place calls y h x (receiver.Declared x.of x.method.pointer adjusted)) → Answers (declared_method place s stands calls y h x) (OperandStands table) old old (Some r)
    received old r ends ends_is adjusted adjusted_is standing standing_is may k =
        holds (OperandStands table) (may_receive x.method.pointer (ends_in_pointer h.pointer x.way) (reached h.pointer x.way stands) ≡ true) 56 place _ old old (Some r)
        (sym (ap (λ (e : Bool). may_receive x.method.pointer e standing) ends_is ∙ ap (λ (z : Standing). may_receive x.method.pointer (ends_in_pointer h.pointer x.way) z) standing_is) ∙ may)
        (gives (OperandStands table) old r _ (as_it_stands r (receiver.Declared x.of x.method.pointer (adjustment x.method.pointer (ends_in_pointer h.pointer x.way)))
        (subst (λ (a : Adjustment). OperandStands table r (bound_form as_place place calls y h x (receiver.Declared x.of x.method.pointer a))) (adjusted_is ∙ ap (adjustment x.method.pointer) ends_is) k)))

  pub field_given : (old : Option Fault) (x : FieldFound) (r : TypeRef) (standing : Standing) (form : FormOf TypeRef) → standing ≡ reached h.pointer x.way stands → TypeStands table r x.field.of
      → FormStands table form (with_step y (step.Field place x.field.of as_place h.pointer x.way x.index)) → Answers (field_selected place s stands calls y h x) (OperandStands table) old old (Some (o.Value (v.Typed place r standing calls form)))
  field_given old x r standing form standing_is is k =
      subst (λ (z : Standing). Answers (field_selected place s stands calls y h x) (OperandStands table) old old (Some (o.Value (v.Typed place r z calls form)))) (sym standing_is)
      (gives (OperandStands table) old _ _ (operand.value (value.typed place (reached h.pointer x.way stands) calls is (subst (λ (b : Bool). FormStands table form (with_step y (step.Field place x.field.of b h.pointer x.way x.index))) place_is k))))

module _ (table : Table) (place : Pos) (s : GoType) (stands : Standing) (calls : Bool) (y : FormOf GoType) (h : Holder) (x : MethodFound) where
  pub not_received : (old new : Option Fault) (ends : Bool) → ends ≡ ends_in_pointer h.pointer x.way → (standing : Standing) → standing ≡ reached h.pointer x.way stands → may_receive x.method.pointer ends standing ≡ false
      → new ≡ noted old (record { code = 56; pos = place } ∷ []) → Answers (declared_method place s stands calls y h x) (OperandStands table) old new None
  not_received old new ends ends_is standing standing_is may e =
      fails (OperandStands table) (may_receive x.method.pointer (ends_in_pointer h.pointer x.way) (reached h.pointer x.way stands) ≡ true) 56 place _ old new
      (λ p. search (rules, sym may ∙ ap (λ (e : Bool). may_receive x.method.pointer e standing) ends_is ∙ ap (λ (z : Standing). may_receive x.method.pointer (ends_in_pointer h.pointer x.way) z) standing_is ∙ p)) e
