-- What was found stands in a later table as well.
use Rattle.std.proofs.Common.{List}
use Rattle.gno_judging.specs.Found.{ConstantTypeStands, FormStands, OperandStands, PendingStands, PendingsStand, TypeStands, ValueStands}
use Rattle.gno_judging.specs.Found.{FormStands as form, OperandStands as operand, PendingStands as pending, PendingsStand as pendings, ValueStands as value}
use Rattle.gno_judging.specs.Stands.{EachStands}
use Rattle.gno_judging.specs.Stands.{EachStands as each}
use Rattle.gno_judging.proofs.Growing.{both_later, bound_later, later_of, logic_later, operations_later, steps_later}
use Rattle.gno_terms.specs.declared.term.GoType.{GoType}
use Rattle.gno_terms.specs.declared.term.TypeRef.{TypeRef}
use Rattle.gno_terms.specs.Tables.{Grows, Table}
use Rattle.gno_typing.specs.declared.form.FormOf.{FormOf}
use Rattle.gno_typing.specs.declared.operand.OperandOf.{OperandOf}
use Rattle.gno_typing.specs.declared.pending.PendingOf.{PendingOf}
use Rattle.gno_typing.specs.declared.pending.PendingOperationOf.{PendingOperationOf}
use Rattle.gno_typing.specs.declared.value.ValueOf.{ValueOf}

module _ (table later : Table) (grows : Grows table later) where
  pub type_later : (r : TypeRef) (s : GoType) → TypeStands table r s → TypeStands later r s
  type_later r s h = record { is = grows r s h.is; typed = h.typed }

  pub constant_type_later : (r : TypeRef) (s : GoType) → ConstantTypeStands table r s → ConstantTypeStands later r s
  constant_type_later r s h = record { is = grows r s h.is; no_nil = h.no_nil }

  pub types_later : (rs : List TypeRef) (ss : List GoType) → EachStands (TypeStands table) rs ss → EachStands (TypeStands later) rs ss
  types_later _ _ each.none = each.none
  types_later _ _ (each.more h hs) = each.more (type_later _ _ h) (types_later _ _ hs)

  pub form_later : (x : FormOf TypeRef) (y : FormOf GoType) → FormStands table x y → FormStands later x y
  form_later _ _ (form.whole h) = form.whole (later_of table later grows _ _ h)
  form_later _ _ (form.primary h hs) = form.primary (later_of table later grows _ _ h) (steps_later table later grows _ _ hs)
  form_later _ _ (form.binary h hs) = form.binary (later_of table later grows _ _ h) (operations_later table later grows _ _ hs)
  form_later _ _ (form.logic is h hs) = form.logic (grows _ _ is) (later_of table later grows _ _ h) (logic_later table later grows _ _ hs)

  mutual
    pub pending_later : (x : PendingOf TypeRef) (y : PendingOf GoType) → PendingStands table x y → PendingStands later x y
    pending_later _ _ (pending.comparison at operator e d is boxed left right) = pending.comparison at operator e d (grows _ _ is) (both_later grows _ _ boxed) (form_later _ _ left) (later_of table later grows _ _ right)
    pending_later _ _ (pending.constant at value rune e d) = pending.constant at value rune e d
    pending_later _ _ (pending.unary at operator e d h) = pending.unary at operator e d (pending_later _ _ h)
    pending_later _ _ (pending.chain e d h hs) = pending.chain e d (pending_later _ _ h) (pendings_later _ _ hs)

    pub pendings_later : (xs : List (PendingOperationOf TypeRef)) (ys : List (PendingOperationOf GoType)) → PendingsStand table xs ys → PendingsStand later xs ys
    pendings_later _ _ pendings.none = pendings.none
    pendings_later _ _ (pendings.operand at operator e d h hs) = pendings.operand at operator e d (pending_later _ _ h) (pendings_later _ _ hs)
    pendings_later _ _ (pendings.count at operator e d h hs) = pendings.count at operator e d (later_of table later grows _ _ h) (pendings_later _ _ hs)

  pub value_later : (x : ValueOf TypeRef) (y : ValueOf GoType) → ValueStands table x y → ValueStands later x y
  value_later _ _ (value.constant at x is) = value.constant at x (constant_type_later _ _ is)
  value_later _ _ (value.nil at) = value.nil at
  value_later _ _ (value.typed at standing calls is h) = value.typed at standing calls (type_later _ _ is) (form_later _ _ h)
  value_later _ _ (value.waiting at waits calls h w) = value.waiting at waits calls (pending_later _ _ h) w

  pub operand_later : (x : OperandOf TypeRef) (y : OperandOf GoType) → OperandStands table x y → OperandStands later x y
  operand_later _ _ (operand.value h) = operand.value (value_later _ _ h)
  operand_later _ _ (operand.method at calls is h k) = operand.method at calls (type_later _ _ is) (form_later _ _ h) (bound_later table later grows _ _ k)
  operand_later _ _ (operand.crossing at code is) = operand.crossing at code (type_later _ _ is)
  operand_later _ _ (operand.results at of h) = operand.results at (types_later _ _ of) (form_later _ _ h)
  operand_later _ _ (operand.type at is) = operand.type at (type_later _ _ is)
  operand_later _ _ (operand.open_array at is) = operand.open_array at (type_later _ _ is)
  operand_later _ _ (operand.imported at path) = operand.imported at path
  operand_later _ _ (operand.builtin at name) = operand.builtin at name
  operand_later _ _ (operand.cross at) = operand.cross at
  operand_later _ _ (operand.realm at) = operand.realm at
