-- What stands for a value or an operand of a known form: its type is all that is not known.
use Rattle.std.proofs.Common.{ℕ, ◌≡◌, subst, List, Bool}
use Rattle.gno_constants.specs.declared.constant.Constant.{Constant}
use Rattle.gno_judging.specs.Found.{ConstantTypeStands, FormStands, OperandStands, PendingStands, TypeStands, ValueStands}
use Rattle.gno_judging.specs.Found.{OperandStands as operand, ValueStands as value}
use Rattle.gno_judging.specs.Stands.{BoundStands, EachStands}
use Rattle.gno_judging.specs.Waiting.{IsWaiting}
use Rattle.gno_scan.specs.declared.token.Pos.{Pos}
use Rattle.gno_terms.specs.declared.term.GoType.{GoType}
use Rattle.gno_terms.specs.declared.term.TypeRef.{TypeRef}
use Rattle.gno_terms.specs.Tables.{Table}
use Rattle.gno_typed.specs.declared.code.CodeId.{CodeId}
use Rattle.gno_typed.specs.declared.step.BoundOf.{BoundOf}
use Rattle.gno_typing.specs.declared.form.FormOf.{FormOf}
use Rattle.gno_typing.specs.declared.operand.OperandOf.{OperandOf}
use Rattle.gno_typing.specs.declared.operand.OperandOf.TheVariants as o
use Rattle.gno_typing.specs.declared.pending.PendingOf.{PendingOf}
use Rattle.gno_typing.specs.declared.value.Standing.{Standing}
use Rattle.gno_typing.specs.declared.value.ValueOf.{ValueOf}
use Rattle.gno_typing.specs.declared.value.ValueOf.TheVariants as v
use Rattle.gno_typing.specs.declared.value.Waits.{Waits}

-- values
module _ (P : ValueOf GoType → Type 0) (table : Table) where
  constant_by : (at : Pos) (r : TypeRef) (x : Constant) (y : ValueOf GoType) → ValueStands table (v.Constant at r x) y → ((s : GoType) → ConstantTypeStands table r s → P (v.Constant at s x)) → P y
  constant_by _ _ _ _ (value.constant at x is) h = h _ is

  pub by_constant : (at : Pos) (r : TypeRef) (c : Constant) (x : ValueOf TypeRef) (y : ValueOf GoType) → x ≡ v.Constant at r c → ValueStands table x y → ((s : GoType) → ConstantTypeStands table r s → P (v.Constant at s c)) → P y
  by_constant at r c x y e is = constant_by at r c y (subst (λ x. ValueStands table x y) e is)

  nil_by : (at : Pos) (y : ValueOf GoType) → ValueStands table (v.Nil at) y → P (v.Nil at) → P y
  nil_by _ _ (value.nil at) h = h

  pub by_nil : (at : Pos) (x : ValueOf TypeRef) (y : ValueOf GoType) → x ≡ v.Nil at → ValueStands table x y → P (v.Nil at) → P y
  by_nil at x y e is = nil_by at y (subst (λ x. ValueStands table x y) e is)

  typed_by : (at : Pos) (r : TypeRef) (stands : Standing) (calls : Bool) (a : FormOf TypeRef) (y : ValueOf GoType) → ValueStands table (v.Typed at r stands calls a) y → ((s : GoType) (b : FormOf GoType) → TypeStands table r s → FormStands table a b → P (v.Typed at s stands calls b)) → P y
  typed_by _ _ _ _ _ _ (value.typed at stands calls is form) h = h _ _ is form

  pub by_typed : (at : Pos) (r : TypeRef) (stands : Standing) (calls : Bool) (a : FormOf TypeRef) (x : ValueOf TypeRef) (y : ValueOf GoType) → x ≡ v.Typed at r stands calls a → ValueStands table x y → ((s : GoType) (b : FormOf GoType) → TypeStands table r s → FormStands table a b → P (v.Typed at s stands calls b)) → P y
  by_typed at r stands calls a x y e is = typed_by at r stands calls a y (subst (λ x. ValueStands table x y) e is)

  waiting_by : (at : Pos) (waits : Waits) (calls : Bool) (a : PendingOf TypeRef) (y : ValueOf GoType) → ValueStands table (v.Pending at waits calls a) y → ((b : PendingOf GoType) → PendingStands table a b → IsWaiting b → P (v.Pending at waits calls b)) → P y
  waiting_by _ _ _ _ _ (value.waiting at waits calls form w) h = h _ form w

  pub by_waiting : (at : Pos) (waits : Waits) (calls : Bool) (a : PendingOf TypeRef) (x : ValueOf TypeRef) (y : ValueOf GoType) → x ≡ v.Pending at waits calls a → ValueStands table x y → ((b : PendingOf GoType) → PendingStands table a b → IsWaiting b → P (v.Pending at waits calls b)) → P y
  by_waiting at waits calls a x y e is = waiting_by at waits calls a y (subst (λ x. ValueStands table x y) e is)

-- operands
module _ (P : OperandOf GoType → Type 0) (table : Table) where
  value_by : (a : ValueOf TypeRef) (y : OperandOf GoType) → OperandStands table (o.Value a) y → ((b : ValueOf GoType) → ValueStands table a b → P (o.Value b)) → P y
  value_by _ _ (operand.value is) h = h _ is

  pub by_value : (a : ValueOf TypeRef) (x : OperandOf TypeRef) (y : OperandOf GoType) → x ≡ o.Value a → OperandStands table x y → ((b : ValueOf GoType) → ValueStands table a b → P (o.Value b)) → P y
  by_value a x y e is = value_by a y (subst (λ x. OperandStands table x y) e is)

  method_by : (at : Pos) (r : TypeRef) (calls : Bool) (a : FormOf TypeRef) (c : BoundOf TypeRef) (y : OperandOf GoType) → OperandStands table (o.Method at r calls a c) y → ((s : GoType) (b : FormOf GoType) (d : BoundOf GoType) → TypeStands table r s → FormStands table a b → BoundStands table c d → P (o.Method at s calls b d)) → P y
  method_by _ _ _ _ _ _ (operand.method at calls is form way) h = h _ _ _ is form way

  pub by_method : (at : Pos) (r : TypeRef) (calls : Bool) (a : FormOf TypeRef) (c : BoundOf TypeRef) (x : OperandOf TypeRef) (y : OperandOf GoType) → x ≡ o.Method at r calls a c → OperandStands table x y
      → ((s : GoType) (b : FormOf GoType) (d : BoundOf GoType) → TypeStands table r s → FormStands table a b → BoundStands table c d → P (o.Method at s calls b d)) → P y
  by_method at r calls a c x y e is = method_by at r calls a c y (subst (λ x. OperandStands table x y) e is)

  crossing_by : (at : Pos) (r : TypeRef) (code : CodeId) (y : OperandOf GoType) → OperandStands table (o.Crossing at r code) y → ((s : GoType) → TypeStands table r s → P (o.Crossing at s code)) → P y
  crossing_by _ _ _ _ (operand.crossing at code is) h = h _ is

  pub by_crossing : (at : Pos) (r : TypeRef) (code : CodeId) (x : OperandOf TypeRef) (y : OperandOf GoType) → x ≡ o.Crossing at r code → OperandStands table x y → ((s : GoType) → TypeStands table r s → P (o.Crossing at s code)) → P y
  by_crossing at r code x y e is = crossing_by at r code y (subst (λ x. OperandStands table x y) e is)

  results_by : (at : Pos) (rs : List TypeRef) (a : FormOf TypeRef) (y : OperandOf GoType) → OperandStands table (o.Results at rs a) y → ((ss : List GoType) (b : FormOf GoType) → EachStands (TypeStands table) rs ss → FormStands table a b → P (o.Results at ss b)) → P y
  results_by _ _ _ _ (operand.results at are form) h = h _ _ are form

  pub by_results : (at : Pos) (rs : List TypeRef) (a : FormOf TypeRef) (x : OperandOf TypeRef) (y : OperandOf GoType) → x ≡ o.Results at rs a → OperandStands table x y → ((ss : List GoType) (b : FormOf GoType) → EachStands (TypeStands table) rs ss → FormStands table a b → P (o.Results at ss b)) → P y
  by_results at rs a x y e is = results_by at rs a y (subst (λ x. OperandStands table x y) e is)

  type_by : (at : Pos) (r : TypeRef) (y : OperandOf GoType) → OperandStands table (o.Type at r) y → ((s : GoType) → TypeStands table r s → P (o.Type at s)) → P y
  type_by _ _ _ (operand.type at is) h = h _ is

  pub by_type : (at : Pos) (r : TypeRef) (x : OperandOf TypeRef) (y : OperandOf GoType) → x ≡ o.Type at r → OperandStands table x y → ((s : GoType) → TypeStands table r s → P (o.Type at s)) → P y
  by_type at r x y e is = type_by at r y (subst (λ x. OperandStands table x y) e is)

  open_array_by : (at : Pos) (r : TypeRef) (y : OperandOf GoType) → OperandStands table (o.OpenArray at r) y → ((s : GoType) → TypeStands table r s → P (o.OpenArray at s)) → P y
  open_array_by _ _ _ (operand.open_array at is) h = h _ is

  pub by_open_array : (at : Pos) (r : TypeRef) (x : OperandOf TypeRef) (y : OperandOf GoType) → x ≡ o.OpenArray at r → OperandStands table x y → ((s : GoType) → TypeStands table r s → P (o.OpenArray at s)) → P y
  by_open_array at r x y e is = open_array_by at r y (subst (λ x. OperandStands table x y) e is)

  package_by : (at : Pos) (path : List ℕ) (y : OperandOf GoType) → OperandStands table (o.Package at path) y → P (o.Package at path) → P y
  package_by _ _ _ (operand.imported at path) h = h

  pub by_package : (at : Pos) (path : List ℕ) (x : OperandOf TypeRef) (y : OperandOf GoType) → x ≡ o.Package at path → OperandStands table x y → P (o.Package at path) → P y
  by_package at path x y e is = package_by at path y (subst (λ x. OperandStands table x y) e is)

  builtin_by : (at : Pos) (name : List ℕ) (y : OperandOf GoType) → OperandStands table (o.Builtin at name) y → P (o.Builtin at name) → P y
  builtin_by _ _ _ (operand.builtin at name) h = h

  pub by_builtin : (at : Pos) (name : List ℕ) (x : OperandOf TypeRef) (y : OperandOf GoType) → x ≡ o.Builtin at name → OperandStands table x y → P (o.Builtin at name) → P y
  by_builtin at name x y e is = builtin_by at name y (subst (λ x. OperandStands table x y) e is)

  cross_by : (at : Pos) (y : OperandOf GoType) → OperandStands table (o.Cross at) y → P (o.Cross at) → P y
  cross_by _ _ (operand.cross at) h = h

  pub by_cross : (at : Pos) (x : OperandOf TypeRef) (y : OperandOf GoType) → x ≡ o.Cross at → OperandStands table x y → P (o.Cross at) → P y
  by_cross at x y e is = cross_by at y (subst (λ x. OperandStands table x y) e is)

  realm_by : (at : Pos) (y : OperandOf GoType) → OperandStands table (o.Realm at) y → P (o.Realm at) → P y
  realm_by _ _ (operand.realm at) h = h

  pub by_realm : (at : Pos) (x : OperandOf TypeRef) (y : OperandOf GoType) → x ≡ o.Realm at → OperandStands table x y → P (o.Realm at) → P y
  by_realm at x y e is = realm_by at y (subst (λ x. OperandStands table x y) e is)
