-- What is found about an expression where types are named by their numbers, and what it stands for. This project's own.
use Rattle.std.specs.Prelude.{ℕ, ◌≡◌, List, [], ◌∷◌, Option, Bool}
use Rattle.gno_constants.specs.declared.constant.Constant.{Constant}
use Rattle.gno_judging.specs.Stands.{BothStand, BoundStands, EachStands, LogicStands, OperationsStand, Stands, StepsStand}
use Rattle.gno_judging.specs.Waiting.{IsWaiting}
use Rattle.gno_scan.specs.declared.token.Pos.{Pos}
use Rattle.gno_terms.specs.declared.term.GoType.{GoType}
use Rattle.gno_terms.specs.declared.term.TermOf.TheVariants as t
use Rattle.gno_terms.specs.declared.term.TypeRef.{TypeRef}
use Rattle.gno_terms.specs.Lawful.{IsTyped}
use Rattle.gno_terms.specs.Tables.{Is, Table}
use Rattle.gno_terms.specs.Terms.{term_of}
use Rattle.gno_tree.specs.declared.operator.BinaryOperator.{BinaryOperator}
use Rattle.gno_tree.specs.declared.operator.UnaryOperator.{UnaryOperator}
use Rattle.gno_typed.specs.declared.code.CodeId.{CodeId}
use Rattle.gno_typed.specs.declared.expr.TypedExprOf.{TypedExprOf}
use Rattle.gno_typed.specs.declared.operation.LogicOperationOf.{LogicOperationOf}
use Rattle.gno_typed.specs.declared.operation.OperationOf.{OperationOf}
use Rattle.gno_typed.specs.declared.step.BoundOf.{BoundOf}
use Rattle.gno_typed.specs.declared.step.TypedStepOf.{TypedStepOf}
use Rattle.gno_typing.specs.declared.form.FormOf.{FormOf}
use Rattle.gno_typing.specs.declared.form.FormOf.TheVariants as f
use Rattle.gno_typing.specs.declared.operand.OperandOf.{OperandOf}
use Rattle.gno_typing.specs.declared.operand.OperandOf.TheVariants as o
use Rattle.gno_typing.specs.declared.pending.PendingOf.{PendingOf}
use Rattle.gno_typing.specs.declared.pending.PendingOf.TheVariants as p
use Rattle.gno_typing.specs.declared.pending.PendingOperationOf.{PendingOperationOf}
use Rattle.gno_typing.specs.declared.pending.PendingOperationOf.TheVariants as po
use Rattle.gno_typing.specs.declared.value.Standing.{Standing}
use Rattle.gno_typing.specs.declared.value.ValueOf.{ValueOf}
use Rattle.gno_typing.specs.declared.value.ValueOf.TheVariants as v
use Rattle.gno_typing.specs.declared.value.Waits.{Waits}

-- a type that values may have
pub record TypeStands (table : Table) (r : TypeRef) (s : GoType) : Type 0 where
  pub is : Is table r s
  pub typed : IsTyped s

-- a type that constants may have: any but that of `nil`
pub record ConstantTypeStands (table : Table) (r : TypeRef) (s : GoType) : Type 0 where
  pub is : Is table r s
  pub no_nil : term_of s ≡ t.UntypedNil → ⊥

pub data FormStands (table : Table) : FormOf TypeRef → FormOf GoType → Type 0 where
  whole : {x : TypedExprOf TypeRef} {y : TypedExprOf GoType} → Stands table x y → FormStands table (f.Whole x) (f.Whole y)
  primary : {x : TypedExprOf TypeRef} {y : TypedExprOf GoType} {xs : List (TypedStepOf TypeRef)} {ys : List (TypedStepOf GoType)} → Stands table x y → StepsStand table xs ys → FormStands table (f.Primary x xs) (f.Primary y ys)
  binary : {x : TypedExprOf TypeRef} {y : TypedExprOf GoType} {xs : List (OperationOf TypeRef)} {ys : List (OperationOf GoType)} → Stands table x y → OperationsStand table xs ys → FormStands table (f.Binary x xs) (f.Binary y ys)
  logic : {r : TypeRef} {s : GoType} {x : TypedExprOf TypeRef} {y : TypedExprOf GoType} {xs : List (LogicOperationOf TypeRef)} {ys : List (LogicOperationOf GoType)} → Is table r s → Stands table x y → LogicStands table xs ys → FormStands table (f.Logic r x xs) (f.Logic s y ys)

-- values that wait
mutual
  pub data PendingStands (table : Table) : PendingOf TypeRef → PendingOf GoType → Type 0 where
    comparison : {x : PendingOf TypeRef} {y : PendingOf GoType} {r : TypeRef} {s : GoType} {from : Option TypeRef} {to : Option GoType} {a : FormOf TypeRef} {b : FormOf GoType} {c : TypedExprOf TypeRef} {d : TypedExprOf GoType} (at : Pos) (operator : BinaryOperator)
        → x ≡ p.Comparison at operator r from a c → y ≡ p.Comparison at operator s to b d → Is table r s → BothStand (Is table) from to → FormStands table a b → Stands table c d → PendingStands table x y
    constant : {x : PendingOf TypeRef} {y : PendingOf GoType} (at : Pos) (value : Constant) (rune : Bool) → x ≡ p.Constant at value rune → y ≡ p.Constant at value rune → PendingStands table x y
    unary : {x : PendingOf TypeRef} {y : PendingOf GoType} {a : PendingOf TypeRef} {b : PendingOf GoType} (at : Pos) (operator : UnaryOperator) → x ≡ p.Unary at operator a → y ≡ p.Unary at operator b → PendingStands table a b → PendingStands table x y
    chain : {x : PendingOf TypeRef} {y : PendingOf GoType} {a : PendingOf TypeRef} {b : PendingOf GoType} {ps : List (PendingOperationOf TypeRef)} {qs : List (PendingOperationOf GoType)} → x ≡ p.Chain a ps → y ≡ p.Chain b qs → PendingStands table a b → PendingsStand table ps qs → PendingStands table x y

  pub data PendingsStand (table : Table) : List (PendingOperationOf TypeRef) → List (PendingOperationOf GoType) → Type 0 where
    none : PendingsStand table [] []
    operand : {x : PendingOperationOf TypeRef} {y : PendingOperationOf GoType} {a : PendingOf TypeRef} {b : PendingOf GoType} {xs : List (PendingOperationOf TypeRef)} {ys : List (PendingOperationOf GoType)} (at : Pos) (operator : BinaryOperator)
        → x ≡ po.Operand at operator a → y ≡ po.Operand at operator b → PendingStands table a b → PendingsStand table xs ys → PendingsStand table (x ∷ xs) (y ∷ ys)
    count : {x : PendingOperationOf TypeRef} {y : PendingOperationOf GoType} {a : TypedExprOf TypeRef} {b : TypedExprOf GoType} {xs : List (PendingOperationOf TypeRef)} {ys : List (PendingOperationOf GoType)} (at : Pos) (operator : BinaryOperator)
        → x ≡ po.Count at operator a → y ≡ po.Count at operator b → Stands table a b → PendingsStand table xs ys → PendingsStand table (x ∷ xs) (y ∷ ys)

pub data ValueStands (table : Table) : ValueOf TypeRef → ValueOf GoType → Type 0 where
  constant : {r : TypeRef} {s : GoType} (at : Pos) (value : Constant) → ConstantTypeStands table r s → ValueStands table (v.Constant at r value) (v.Constant at s value)
  nil : (at : Pos) → ValueStands table (v.Nil at) (v.Nil at)
  typed : {r : TypeRef} {s : GoType} {a : FormOf TypeRef} {b : FormOf GoType} (at : Pos) (standing : Standing) (calls : Bool) → TypeStands table r s → FormStands table a b → ValueStands table (v.Typed at r standing calls a) (v.Typed at s standing calls b)
  waiting : {a : PendingOf TypeRef} {b : PendingOf GoType} (at : Pos) (waits : Waits) (calls : Bool) → PendingStands table a b → IsWaiting b → ValueStands table (v.Pending at waits calls a) (v.Pending at waits calls b)

pub data OperandStands (table : Table) : OperandOf TypeRef → OperandOf GoType → Type 0 where
  value : {x : ValueOf TypeRef} {y : ValueOf GoType} → ValueStands table x y → OperandStands table (o.Value x) (o.Value y)
  method : {r : TypeRef} {s : GoType} {a : FormOf TypeRef} {b : FormOf GoType} {c : BoundOf TypeRef} {d : BoundOf GoType} (at : Pos) (calls : Bool) → TypeStands table r s → FormStands table a b → BoundStands table c d → OperandStands table (o.Method at r calls a c) (o.Method at s calls b d)
  crossing : {r : TypeRef} {s : GoType} (at : Pos) (code : CodeId) → TypeStands table r s → OperandStands table (o.Crossing at r code) (o.Crossing at s code)
  results : {rs : List TypeRef} {ss : List GoType} {a : FormOf TypeRef} {b : FormOf GoType} (at : Pos) → EachStands (TypeStands table) rs ss → FormStands table a b → OperandStands table (o.Results at rs a) (o.Results at ss b)
  type : {r : TypeRef} {s : GoType} (at : Pos) → TypeStands table r s → OperandStands table (o.Type at r) (o.Type at s)
  open_array : {r : TypeRef} {s : GoType} (at : Pos) → TypeStands table r s → OperandStands table (o.OpenArray at r) (o.OpenArray at s)
  imported : (at : Pos) (path : List ℕ) → OperandStands table (o.Package at path) (o.Package at path)
  builtin : (at : Pos) (name : List ℕ) → OperandStands table (o.Builtin at name) (o.Builtin at name)
  cross : (at : Pos) → OperandStands table (o.Cross at) (o.Cross at)
  realm : (at : Pos) → OperandStands table (o.Realm at) (o.Realm at)
