-- What the rules on `*x` and `&x` say.
use Rattle.std.proofs.Common.{◌≡◌, refl, subst, [], ◌∷◌, Bool, Option, Some, None}
use Rattle.gno_judging.proofs.Answers.{refuses}
use Rattle.gno_judging.proofs.Inversions.{by_type}
use Rattle.gno_judging.specs.Answers.{Answers}
use Rattle.gno_judging.specs.Found.{OperandStands, TypeStands, ValueStands}
use Rattle.gno_judging.specs.Found.{OperandStands as operand}
use Rattle.gno_judging.specs.Noting.{noted}
use Rattle.gno_scan.specs.declared.token.Pos.{Pos}
use Rattle.gno_seen.proofs.Others.{NotTyped, by_no_typed}
use Rattle.gno_terms.specs.Tables.{Table}
use Rattle.gno_terms.specs.declared.term.GoType.{GoType}
use Rattle.gno_terms.specs.declared.term.TypeRef.{TypeRef}
use Rattle.gno_typing.specs.Pointers.{PointsAt, address, addressed, dereference, of_value, pointed, pointer_to}
use Rattle.gno_typing.specs.Selectors.{Follows}
use Rattle.gno_typing.specs.Verdicts.{Verdict, good}
use Rattle.gno_typing.specs.declared.fault.Fault.{Fault}
use Rattle.gno_typing.specs.declared.form.FormOf.{FormOf}
use Rattle.gno_typing.specs.declared.operand.OperandOf.{OperandOf}
use Rattle.gno_typing.specs.declared.operand.OperandOf.TheVariants as o
use Rattle.gno_typing.specs.declared.value.Standing.{Standing}
use Rattle.gno_typing.specs.declared.value.Standing.TheVariants as st
use Rattle.gno_typing.specs.declared.value.ValueOf.{ValueOf}
use Rattle.gno_typing.specs.declared.value.ValueOf.TheVariants as v

module _ (P : (Verdict (OperandOf GoType) → Type 0) → Type 0) (place : Pos) where
  pub address_is : (y : OperandOf GoType) → P (of_value y (addressed place)) → P (address place y)
  unfolding address
  address_is y h = h

  module _ (rules : Table) where
    of_type : (at : Pos) (s : GoType) → P (good (o.Type place (pointer_to s))) → P (dereference rules place (o.Type at s))
    unfolding dereference
    of_type at s h = h

    pub dereference_type : (table : Table) (at : Pos) (r : TypeRef) (x : OperandOf TypeRef) (y : OperandOf GoType) → x ≡ o.Type at r → OperandStands table x y → ((s : GoType) → TypeStands table r s → P (good (o.Type place (pointer_to s)))) → P (dereference rules place y)
    dereference_type table at r x y e is h = by_type (λ y. P (dereference rules place y)) table at r x y e is (λ s own. of_type at s (h s own))

    pub dereference_other : (table : Table) (x : OperandOf TypeRef) (y : OperandOf GoType) → OperandStands table x y → ((at : Pos) (r : TypeRef) → x ≡ o.Type at r → ⊥) → P (of_value y (pointed rules place)) → P (dereference rules place y)
    unfolding dereference
    dereference_other table _ _ (operand.type at is) other h = absurd (other at _ refl)
    dereference_other table _ _ (operand.value k) other h = h
    dereference_other table _ _ (operand.method at calls is k way) other h = h
    dereference_other table _ _ (operand.crossing at code is) other h = h
    dereference_other table _ _ (operand.results at of k) other h = h
    dereference_other table _ _ (operand.open_array at is) other h = h
    dereference_other table _ _ (operand.imported at path) other h = h
    dereference_other table _ _ (operand.builtin at name) other h = h
    dereference_other table _ _ (operand.cross at) other h = h
    dereference_other table _ _ (operand.realm at) other h = h

module _ (table : Table) (place : Pos) (x : ValueOf TypeRef) (y : ValueOf GoType) (old new : Option Fault) (h : ValueStands table x y) (other : NotTyped x) where
  pub pointed_other : (rules : Table) → new ≡ noted old (record { code = 57; pos = place } ∷ []) → Answers (pointed rules place y) (ValueStands table) old new None
  pointed_other rules e = by_no_typed (λ y. Answers (pointed rules place y) (ValueStands table) old new None) table x y h other
      (λ at s c. refuses (ValueStands table) 57 place old new e) (λ at. refuses (ValueStands table) 57 place old new e) (λ at waits calls form. refuses (ValueStands table) 57 place old new e)

  pub addressed_other : new ≡ noted old (record { code = 56; pos = place } ∷ []) → Answers (addressed place y) (ValueStands table) old new None
  addressed_other e = by_no_typed (λ y. Answers (addressed place y) (ValueStands table) old new None) table x y h other
      (λ at s c. refuses (ValueStands table) 56 place old new e) (λ at. refuses (ValueStands table) 56 place old new e) (λ at waits calls form. refuses (ValueStands table) 56 place old new e)

-- neither a place nor a composite literal
pub addressed_nowhere : {A : Type 0} (R : A → ValueOf GoType → Type 0) (place at : Pos) (s : GoType) (stands : Standing) (calls : Bool) (form : FormOf GoType) (old new : Option Fault) → (stands ≡ st.Place → ⊥) → (stands ≡ st.Literal → ⊥) → new ≡ noted old (record { code = 56; pos = place } ∷ [])
    → Answers (addressed place (v.Typed at s stands calls form)) R old new None
addressed_nowhere R place at s st.Place calls form old new other no_literal e = absurd (other refl)
addressed_nowhere R place at s st.Literal calls form old new other no_literal e = absurd (no_literal refl)
addressed_nowhere R place at s st.Result calls form old new other no_literal e = refuses R 56 place old new e
addressed_nowhere R place at s st.Element calls form old new other no_literal e = refuses R 56 place old new e

pub points_at : (rules : Table) (s u : GoType) → Follows rules s u → PointsAt rules s u
points_at rules s u h = record { underlying = h.underlying; by = h.by; is = h.is }

pub follows_it : (rules : Table) (s u : GoType) → PointsAt rules s u → Follows rules s u
follows_it rules s u h = record { underlying = h.underlying; by = h.by; is = h.is }
