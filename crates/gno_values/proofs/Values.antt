-- What the rule says of operands that are values, or methods of values.
use Rattle.std.proofs.Common.{◌≡◌, refl, Bool, Option, Some}
use Rattle.gno_judging.proofs.Answers.{gives}
use Rattle.gno_judging.proofs.Inversions.{by_method, by_value}
use Rattle.gno_judging.specs.Answers.{Answers}
use Rattle.gno_judging.specs.Found.{FormStands, OperandStands, TypeStands, ValueStands}
use Rattle.gno_judging.specs.Stands.{BoundStands}
use Rattle.gno_scan.specs.declared.token.Pos.{Pos}
use Rattle.gno_terms.specs.Tables.{Table}
use Rattle.gno_terms.specs.declared.term.GoType.{GoType}
use Rattle.gno_terms.specs.declared.term.TypeRef.{TypeRef}
use Rattle.gno_typed.specs.declared.step.BoundOf.{BoundOf}
use Rattle.gno_typed.specs.declared.step.TypedStepOf.TheVariants as step
use Rattle.gno_typing.specs.Forms.{with_step}
use Rattle.gno_typing.specs.Operands.{as_value}
use Rattle.gno_typing.specs.declared.fault.Fault.{Fault}
use Rattle.gno_typing.specs.declared.form.FormOf.{FormOf}
use Rattle.gno_typing.specs.declared.operand.OperandOf.{OperandOf}
use Rattle.gno_typing.specs.declared.operand.OperandOf.TheVariants as o
use Rattle.gno_typing.specs.declared.value.Standing.TheVariants as st
use Rattle.gno_typing.specs.declared.value.ValueOf.{ValueOf}
use Rattle.gno_typing.specs.declared.value.ValueOf.TheVariants as v
use Rattle.gno_values.specs.NoValues.{IsNoValue}

module _ (table : Table) (old : Option Fault) where
  value_is : (a : ValueOf TypeRef) (b : ValueOf GoType) → ValueStands table a b → Answers (as_value (o.Value b)) (ValueStands table) old old (Some a)
  unfolding as_value
  value_is a b h = gives (ValueStands table) old a b h

  pub the_value : (a : ValueOf TypeRef) (x : OperandOf TypeRef) (y : OperandOf GoType) → x ≡ o.Value a → OperandStands table x y → Answers (as_value y) (ValueStands table) old old (Some a)
  the_value a x y e is = by_value (λ y. Answers (as_value y) (ValueStands table) old old (Some a)) table a x y e is (λ b h. value_is a b h)

  method_is : (at : Pos) (calls : Bool) (it : ValueOf TypeRef) (s : GoType) (b : FormOf GoType) (d : BoundOf GoType) → ValueStands table it (v.Typed at s st.Result calls (with_step b (step.Bound at s d))) → Answers (as_value (o.Method at s calls b d)) (ValueStands table) old old (Some it)
  unfolding as_value
  method_is at calls it s b d h = gives (ValueStands table) old it _ h

  pub the_method : (at : Pos) (r : TypeRef) (calls : Bool) (a : FormOf TypeRef) (c : BoundOf TypeRef) (it : ValueOf TypeRef) (x : OperandOf TypeRef) (y : OperandOf GoType) → x ≡ o.Method at r calls a c → OperandStands table x y
      → ((s : GoType) (b : FormOf GoType) (d : BoundOf GoType) → TypeStands table r s → FormStands table a b → BoundStands table c d → ValueStands table it (v.Typed at s st.Result calls (with_step b (step.Bound at s d)))) → Answers (as_value y) (ValueStands table) old old (Some it)
  the_method at r calls a c it x y e is go = by_method (λ y. Answers (as_value y) (ValueStands table) old old (Some it)) table at r calls a c x y e is (λ s b d own h way. method_is at calls it s b d (go s b d own h way))

pub is_no_value : (x : OperandOf TypeRef) → ((a : ValueOf TypeRef) → x ≡ o.Value a → ⊥) → ((at : Pos) (r : TypeRef) (calls : Bool) (form : FormOf TypeRef) (bound : BoundOf TypeRef) → x ≡ o.Method at r calls form bound → ⊥) → IsNoValue x
is_no_value (o.Value a) no_value no_method = no_value a refl
is_no_value (o.Method at r calls form bound) no_value no_method = no_method at r calls form bound refl
is_no_value _ no_value no_method = tt
