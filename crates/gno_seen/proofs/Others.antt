-- What stands for a value that has not this form or that.
use Rattle.std.proofs.Common.{◌≡◌, refl, Bool}
use Rattle.gno_constants.specs.declared.constant.Constant.{Constant}
use Rattle.gno_judging.specs.Found.{ConstantTypeStands, FormStands, PendingStands, TypeStands, ValueStands}
use Rattle.gno_judging.specs.Found.{ValueStands as value}
use Rattle.gno_scan.specs.declared.token.Pos.{Pos}
use Rattle.gno_terms.specs.Tables.{Table}
use Rattle.gno_terms.specs.declared.term.GoType.{GoType}
use Rattle.gno_terms.specs.declared.term.TypeRef.{TypeRef}
use Rattle.gno_typing.specs.declared.form.FormOf.{FormOf}
use Rattle.gno_typing.specs.declared.pending.PendingOf.{PendingOf}
use Rattle.gno_typing.specs.declared.value.Standing.{Standing}
use Rattle.gno_typing.specs.declared.value.ValueOf.{ValueOf}
use Rattle.gno_typing.specs.declared.value.ValueOf.TheVariants as v
use Rattle.gno_typing.specs.declared.value.Waits.{Waits}

abbrev pub NotConstant : ValueOf TypeRef → Type 0
NotConstant x = (at : Pos) (r : TypeRef) (c : Constant) → x ≡ v.Constant at r c → ⊥

abbrev pub NotTyped : ValueOf TypeRef → Type 0
NotTyped x = (at : Pos) (r : TypeRef) (stands : Standing) (calls : Bool) (form : FormOf TypeRef) → x ≡ v.Typed at r stands calls form → ⊥

abbrev pub NotWaiting : ValueOf TypeRef → Type 0
NotWaiting x = (at : Pos) (waits : Waits) (calls : Bool) (form : PendingOf TypeRef) → x ≡ v.Pending at waits calls form → ⊥

module _ (P : ValueOf GoType → Type 0) (table : Table) where
  pub by_no_typed : (x : ValueOf TypeRef) (y : ValueOf GoType) → ValueStands table x y → NotTyped x → ((at : Pos) (s : GoType) (c : Constant) → P (v.Constant at s c)) → ((at : Pos) → P (v.Nil at)) → ((at : Pos) (waits : Waits) (calls : Bool) (form : PendingOf GoType) → P (v.Pending at waits calls form)) → P y
  by_no_typed _ _ (value.constant at c is) other constant nil waiting = constant at _ c
  by_no_typed _ _ (value.nil at) other constant nil waiting = nil at
  by_no_typed _ _ (value.typed at stands calls is form) other constant nil waiting = absurd (other at _ stands calls _ refl)
  by_no_typed _ _ (value.waiting at waits calls form w) other constant nil waiting = waiting at waits calls _

  -- neither a constant nor a value of a type
  pub by_neither : (x : ValueOf TypeRef) (y : ValueOf GoType) → ValueStands table x y → NotConstant x → NotTyped x → ((at : Pos) → P (v.Nil at)) → ((at : Pos) (waits : Waits) (calls : Bool) (form : PendingOf GoType) → P (v.Pending at waits calls form)) → P y
  by_neither _ _ (value.constant at c is) other no_type nil waiting = absurd (other at _ c refl)
  by_neither _ _ (value.nil at) other no_type nil waiting = nil at
  by_neither _ _ (value.typed at stands calls is form) other no_type nil waiting = absurd (no_type at _ stands calls _ refl)
  by_neither _ _ (value.waiting at waits calls form w) other no_type nil waiting = waiting at waits calls _

module _ (P : ValueOf TypeRef → ValueOf GoType → Type 0) (table : Table) where
  -- neither a constant nor one that waits
  pub by_settled : (x : ValueOf TypeRef) (y : ValueOf GoType) → ValueStands table x y → NotConstant x → NotWaiting x → ((at : Pos) → ValueStands table (v.Nil at) (v.Nil at) → P (v.Nil at) (v.Nil at))
      → ((at : Pos) (r : TypeRef) (s : GoType) (stands : Standing) (calls : Bool) (a : FormOf TypeRef) (b : FormOf GoType) → ValueStands table (v.Typed at r stands calls a) (v.Typed at s stands calls b) → P (v.Typed at r stands calls a) (v.Typed at s stands calls b)) → P x y
  by_settled _ _ (value.constant at c is) other no_waits nil typed = absurd (other at _ c refl)
  by_settled _ _ (value.nil at) other no_waits nil typed = nil at (value.nil at)
  by_settled _ _ (value.typed at stands calls is form) other no_waits nil typed = typed at _ _ stands calls _ _ (value.typed at stands calls is form)
  by_settled _ _ (value.waiting at waits calls form w) other no_waits nil typed = absurd (no_waits at waits calls _ refl)
