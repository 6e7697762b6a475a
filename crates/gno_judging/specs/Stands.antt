-- A typed tree that names types by their numbers in a table, and the tree that it stands for. This project's own.
use Rattle.std.specs.Prelude.{ℕ, ◌≡◌, List, [], ◌∷◌, Option, Some, None, Bool}
use Rattle.gno_constants.specs.declared.constant.Constant.{Constant}
use Rattle.gno_scan.specs.declared.token.Pos.{Pos}
use Rattle.gno_selectors.specs.declared.selection.Passed.{Passed}
use Rattle.gno_terms.specs.declared.term.GoType.{GoType}
use Rattle.gno_terms.specs.declared.term.TypeRef.{TypeRef}
use Rattle.gno_terms.specs.Tables.{Is, Table}
use Rattle.gno_tree.specs.declared.operator.UnaryOperator.{UnaryOperator}
use Rattle.gno_typed.specs.declared.code.CodeId.{CodeId}
use Rattle.gno_typed.specs.declared.code.VariableId.{VariableId}
use Rattle.gno_typed.specs.declared.elements.ElementsOf.{ElementsOf}
use Rattle.gno_typed.specs.declared.elements.ElementsOf.TheVariants as e
use Rattle.gno_typed.specs.declared.elements.FieldValueOf.{FieldValueOf}
use Rattle.gno_typed.specs.declared.elements.IndexedOf.{IndexedOf}
use Rattle.gno_typed.specs.declared.elements.PairOf.{PairOf}
use Rattle.gno_typed.specs.declared.expr.Addressed.{Addressed}
use Rattle.gno_typed.specs.declared.expr.ArgumentsOf.{ArgumentsOf}
use Rattle.gno_typed.specs.declared.expr.ArgumentsOf.TheVariants as a
use Rattle.gno_typed.specs.declared.expr.ConversionKind.{ConversionKind}
use Rattle.gno_typed.specs.declared.expr.TypedExprOf.{TypedExprOf}
use Rattle.gno_typed.specs.declared.expr.TypedExprOf.TheVariants as w
use Rattle.gno_typed.specs.declared.operation.LogicOperationOf.{LogicOperationOf}
use Rattle.gno_typed.specs.declared.operation.OperationOf.{OperationOf}
use Rattle.gno_typed.specs.declared.step.Adjustment.{Adjustment}
use Rattle.gno_typed.specs.declared.step.BoundOf.{BoundOf}
use Rattle.gno_typed.specs.declared.step.CalleeOf.{CalleeOf}
use Rattle.gno_typed.specs.declared.step.CalleeOf.TheVariants as callee
use Rattle.gno_typed.specs.declared.step.Crossing.{Crossing}
use Rattle.gno_typed.specs.declared.step.IndexKind.{IndexKind}
use Rattle.gno_typed.specs.declared.step.ReceiverOf.{ReceiverOf}
use Rattle.gno_typed.specs.declared.step.ReceiverOf.TheVariants as receiver
use Rattle.gno_typed.specs.declared.step.SliceKind.{SliceKind}
use Rattle.gno_typed.specs.declared.step.TypedStepOf.{TypedStepOf}
use Rattle.gno_typed.specs.declared.step.TypedStepOf.TheVariants as step
use Rattle.gno_typed.specs.declared.step.VariadicOf.{VariadicOf}

-- ---- what holds types alone

-- each of a list stands for the one at its place in another
pub data EachStands {A B : Type 0} (R : A → B → Type 0) : List A → List B → Type 0 where
  none : EachStands R [] []
  more : {a : A} {b : B} {xs : List A} {ys : List B} → R a b → EachStands R xs ys → EachStands R (a ∷ xs) (b ∷ ys)

-- there is one on both sides, or on neither
pub data BothStand {A B : Type 0} (R : A → B → Type 0) : Option A → Option B → Type 0 where
  none : BothStand R None None
  some : {a : A} {b : B} → R a b → BothStand R (Some a) (Some b)

pub data ReceiverStands (table : Table) : ReceiverOf TypeRef → ReceiverOf GoType → Type 0 where
  declared : {r : TypeRef} {s : GoType} (pointer : Bool) (adjustment : Adjustment) → Is table r s → ReceiverStands table (receiver.Declared r pointer adjustment) (receiver.Declared s pointer adjustment)
  held : ReceiverStands table receiver.Held receiver.Held

pub data BoundStands (table : Table) : BoundOf TypeRef → BoundOf GoType → Type 0 where
  bound : {x : ReceiverOf TypeRef} {y : ReceiverOf GoType} (place pointer : Bool) (way : List Passed) (name «package» : List ℕ) → ReceiverStands table x y
      → BoundStands table (record { place = place; pointer = pointer; way = way; name = name; «package» = «package»; receiver = x }) (record { place = place; pointer = pointer; way = way; name = name; «package» = «package»; receiver = y })

pub data CalleeStands (table : Table) : CalleeOf TypeRef → CalleeOf GoType → Type 0 where
  value : CalleeStands table callee.Value callee.Value
  method : {r : TypeRef} {s : GoType} {x : BoundOf TypeRef} {y : BoundOf GoType} (at : Pos) → Is table r s → BoundStands table x y → CalleeStands table (callee.Method at r x) (callee.Method at s y)

pub data VariadicStands (table : Table) : VariadicOf TypeRef → VariadicOf GoType → Type 0 where
  variadic : {r : TypeRef} {s : GoType} (from : ℕ) → Is table r s → VariadicStands table (record { from = from; of = r }) (record { from = from; of = s })

-- ---- trees

mutual
  pub data Stands (table : Table) : TypedExprOf TypeRef → TypedExprOf GoType → Type 0 where
    constant : {r : TypeRef} {s : GoType} (at : Pos) (value : Constant) → Is table r s → Stands table (w.Constant at r value) (w.Constant at s value)
    nil : {r : TypeRef} {s : GoType} (at : Pos) → Is table r s → Stands table (w.Nil at r) (w.Nil at s)
    variable : {r : TypeRef} {s : GoType} (at : Pos) (id : VariableId) → Is table r s → Stands table (w.Variable at r id) (w.Variable at s id)
    function : {r : TypeRef} {s : GoType} (at : Pos) (code : CodeId) → Is table r s → Stands table (w.Function at r code) (w.Function at s code)
    primary : {x : TypedExprOf TypeRef} {y : TypedExprOf GoType} {xs : List (TypedStepOf TypeRef)} {ys : List (TypedStepOf GoType)} → Stands table x y → StepsStand table xs ys → Stands table (w.Primary x xs) (w.Primary y ys)
    dereference : {r : TypeRef} {s : GoType} {x : TypedExprOf TypeRef} {y : TypedExprOf GoType} (at : Pos) → Is table r s → Stands table x y → Stands table (w.Dereference at r x) (w.Dereference at s y)
    address : {r : TypeRef} {s : GoType} {x : TypedExprOf TypeRef} {y : TypedExprOf GoType} (at : Pos) (addressed : Addressed) → Is table r s → Stands table x y → Stands table (w.Address at r x addressed) (w.Address at s y addressed)
    unary : {r : TypeRef} {s : GoType} {x : TypedExprOf TypeRef} {y : TypedExprOf GoType} (at : Pos) (operator : UnaryOperator) → Is table r s → Stands table x y → Stands table (w.Unary at r operator x) (w.Unary at s operator y)
    binary : {x : TypedExprOf TypeRef} {y : TypedExprOf GoType} {xs : List (OperationOf TypeRef)} {ys : List (OperationOf GoType)} → Stands table x y → OperationsStand table xs ys → Stands table (w.Binary x xs) (w.Binary y ys)
    logic : {r : TypeRef} {s : GoType} {x : TypedExprOf TypeRef} {y : TypedExprOf GoType} {xs : List (LogicOperationOf TypeRef)} {ys : List (LogicOperationOf GoType)} → Is table r s → Stands table x y → LogicStands table xs ys → Stands table (w.Logic r x xs) (w.Logic s y ys)
    conversion : {r q : TypeRef} {s u : GoType} {x : TypedExprOf TypeRef} {y : TypedExprOf GoType} (at : Pos) (kind : ConversionKind) → Is table r s → Is table q u → Stands table x y → Stands table (w.Conversion at r kind q x) (w.Conversion at s kind u y)
    interface : {r q : TypeRef} {s u : GoType} {x : TypedExprOf TypeRef} {y : TypedExprOf GoType} → Is table r s → Is table q u → Stands table x y → Stands table (w.Interface r q x) (w.Interface s u y)
    composite : {r : TypeRef} {s : GoType} {x : ElementsOf TypeRef} {y : ElementsOf GoType} (at : Pos) → Is table r s → ElementsStand table x y → Stands table (w.Composite at r x) (w.Composite at s y)
    literal : {r : TypeRef} {s : GoType} (at : Pos) (code : CodeId) → Is table r s → Stands table (w.Literal at r code) (w.Literal at s code)
    append : {r : TypeRef} {s : GoType} {x : ArgumentsOf TypeRef} {y : ArgumentsOf GoType} (at : Pos) (spread : Bool) → Is table r s → ArgumentsStand table x y → Stands table (w.Append at r x spread) (w.Append at s y spread)
    copy : {r : TypeRef} {s : GoType} {x : ArgumentsOf TypeRef} {y : ArgumentsOf GoType} (at : Pos) → Is table r s → ArgumentsStand table x y → Stands table (w.Copy at r x) (w.Copy at s y)
    make : {r : TypeRef} {s : GoType} {xs : List (TypedExprOf TypeRef)} {ys : List (TypedExprOf GoType)} (at : Pos) → Is table r s → AllStand table xs ys → Stands table (w.Make at r xs) (w.Make at s ys)
    new : {r q : TypeRef} {s u : GoType} (at : Pos) → Is table r s → Is table q u → Stands table (w.New at r q) (w.New at s u)
    delete : {x : ArgumentsOf TypeRef} {y : ArgumentsOf GoType} (at : Pos) → ArgumentsStand table x y → Stands table (w.Delete at x) (w.Delete at y)
    print : {x : ArgumentsOf TypeRef} {y : ArgumentsOf GoType} (at : Pos) (line : Bool) → ArgumentsStand table x y → Stands table (w.Print at line x) (w.Print at line y)
    len : {r : TypeRef} {s : GoType} {x : TypedExprOf TypeRef} {y : TypedExprOf GoType} (at : Pos) → Is table r s → Stands table x y → Stands table (w.Len at r x) (w.Len at s y)
    cap : {r : TypeRef} {s : GoType} {x : TypedExprOf TypeRef} {y : TypedExprOf GoType} (at : Pos) → Is table r s → Stands table x y → Stands table (w.Cap at r x) (w.Cap at s y)
    panic : {x : TypedExprOf TypeRef} {y : TypedExprOf GoType} (at : Pos) → Stands table x y → Stands table (w.Panic at x) (w.Panic at y)
    recover : {r : TypeRef} {s : GoType} (at : Pos) → Is table r s → Stands table (w.Recover at r) (w.Recover at s)

  pub data AllStand (table : Table) : List (TypedExprOf TypeRef) → List (TypedExprOf GoType) → Type 0 where
    no_expr : AllStand table [] []
    one_expr : {x : TypedExprOf TypeRef} {y : TypedExprOf GoType} {xs : List (TypedExprOf TypeRef)} {ys : List (TypedExprOf GoType)} → Stands table x y → AllStand table xs ys → AllStand table (x ∷ xs) (y ∷ ys)

  pub data MayStand (table : Table) : Option (TypedExprOf TypeRef) → Option (TypedExprOf GoType) → Type 0 where
    absent : MayStand table None None
    present : {x : TypedExprOf TypeRef} {y : TypedExprOf GoType} → Stands table x y → MayStand table (Some x) (Some y)

  pub data ArgumentsStand (table : Table) : ArgumentsOf TypeRef → ArgumentsOf GoType → Type 0 where
    each : {xs : List (TypedExprOf TypeRef)} {ys : List (TypedExprOf GoType)} → AllStand table xs ys → ArgumentsStand table (a.Each xs) (a.Each ys)
    results : {x : TypedExprOf TypeRef} {y : TypedExprOf GoType} {rs : List TypeRef} {ss : List GoType} → Stands table x y → EachStands (Is table) rs ss → ArgumentsStand table (a.Results x rs) (a.Results y ss)

  pub data StepStands (table : Table) : TypedStepOf TypeRef → TypedStepOf GoType → Type 0 where
    field : {r : TypeRef} {s : GoType} (at : Pos) (place pointer : Bool) (way : List Passed) (index : ℕ) → Is table r s → StepStands table (step.Field at r place pointer way index) (step.Field at s place pointer way index)
    bound : {r : TypeRef} {s : GoType} {x : BoundOf TypeRef} {y : BoundOf GoType} (at : Pos) → Is table r s → BoundStands table x y → StepStands table (step.Bound at r x) (step.Bound at s y)
    index : {r : TypeRef} {s : GoType} {x : TypedExprOf TypeRef} {y : TypedExprOf GoType} (at : Pos) (kind : IndexKind) (place : Bool) → Is table r s → Stands table x y → StepStands table (step.Index at r kind place x) (step.Index at s kind place y)
    slice : {r : TypeRef} {s : GoType} {low high max : Option (TypedExprOf TypeRef)} {from to limit : Option (TypedExprOf GoType)} (at : Pos) (kind : SliceKind) → Is table r s → MayStand table low from → MayStand table high to → MayStand table max limit
        → StepStands table (step.Slice at r kind low high max) (step.Slice at s kind from to limit)
    assertion : {r : TypeRef} {s : GoType} (at : Pos) → Is table r s → StepStands table (step.Assertion at r) (step.Assertion at s)
    call : {rs : List TypeRef} {ss : List GoType} {x : CalleeOf TypeRef} {y : CalleeOf GoType} {xs : ArgumentsOf TypeRef} {ys : ArgumentsOf GoType} {from : Option (VariadicOf TypeRef)} {to : Option (VariadicOf GoType)} (at : Pos) (crossing : Option Crossing)
        → EachStands (Is table) rs ss → CalleeStands table x y → ArgumentsStand table xs ys → BothStand (VariadicStands table) from to → StepStands table (step.Call at rs x crossing xs from) (step.Call at ss y crossing ys to)

  pub data StepsStand (table : Table) : List (TypedStepOf TypeRef) → List (TypedStepOf GoType) → Type 0 where
    no_step : StepsStand table [] []
    one_step : {x : TypedStepOf TypeRef} {y : TypedStepOf GoType} {xs : List (TypedStepOf TypeRef)} {ys : List (TypedStepOf GoType)} → StepStands table x y → StepsStand table xs ys → StepsStand table (x ∷ xs) (y ∷ ys)

  pub data OperationsStand (table : Table) : List (OperationOf TypeRef) → List (OperationOf GoType) → Type 0 where
    no_operation : OperationsStand table [] []
    one_operation : {x : OperationOf TypeRef} {y : OperationOf GoType} {xs : List (OperationOf TypeRef)} {ys : List (OperationOf GoType)} → x.pos ≡ y.pos → Is table x.of y.of → x.operator ≡ y.operator → Is table x.operands y.operands → BothStand (Is table) x.boxed y.boxed → Stands table x.operand y.operand → OperationsStand table xs ys → OperationsStand table (x ∷ xs) (y ∷ ys)

  pub data LogicStands (table : Table) : List (LogicOperationOf TypeRef) → List (LogicOperationOf GoType) → Type 0 where
    no_logic : LogicStands table [] []
    one_logic : {x : LogicOperationOf TypeRef} {y : LogicOperationOf GoType} {xs : List (LogicOperationOf TypeRef)} {ys : List (LogicOperationOf GoType)} → x.pos ≡ y.pos → x.operator ≡ y.operator → Stands table x.operand y.operand → LogicStands table xs ys → LogicStands table (x ∷ xs) (y ∷ ys)

  pub data ElementsStand (table : Table) : ElementsOf TypeRef → ElementsOf GoType → Type 0 where
    of_struct : {xs : List (FieldValueOf TypeRef)} {ys : List (FieldValueOf GoType)} → FieldsStand table xs ys → ElementsStand table (e.Struct xs) (e.Struct ys)
    of_array : {xs : List (IndexedOf TypeRef)} {ys : List (IndexedOf GoType)} (n : ℕ) → IndexedStand table xs ys → ElementsStand table (e.Array n xs) (e.Array n ys)
    of_slice : {xs : List (IndexedOf TypeRef)} {ys : List (IndexedOf GoType)} (n : ℕ) → IndexedStand table xs ys → ElementsStand table (e.Slice n xs) (e.Slice n ys)
    of_map : {xs : List (PairOf TypeRef)} {ys : List (PairOf GoType)} → PairsStand table xs ys → ElementsStand table (e.Map xs) (e.Map ys)

  pub data FieldsStand (table : Table) : List (FieldValueOf TypeRef) → List (FieldValueOf GoType) → Type 0 where
    no_field : FieldsStand table [] []
    one_field : {x : FieldValueOf TypeRef} {y : FieldValueOf GoType} {xs : List (FieldValueOf TypeRef)} {ys : List (FieldValueOf GoType)} → x.index ≡ y.index → Stands table x.value y.value → FieldsStand table xs ys → FieldsStand table (x ∷ xs) (y ∷ ys)

  pub data IndexedStand (table : Table) : List (IndexedOf TypeRef) → List (IndexedOf GoType) → Type 0 where
    no_item : IndexedStand table [] []
    one_item : {x : IndexedOf TypeRef} {y : IndexedOf GoType} {xs : List (IndexedOf TypeRef)} {ys : List (IndexedOf GoType)} → MayStand table x.key y.key → x.index ≡ y.index → Stands table x.value y.value → IndexedStand table xs ys → IndexedStand table (x ∷ xs) (y ∷ ys)

  pub data PairsStand (table : Table) : List (PairOf TypeRef) → List (PairOf GoType) → Type 0 where
    no_pair : PairsStand table [] []
    one_pair : {x : PairOf TypeRef} {y : PairOf GoType} {xs : List (PairOf TypeRef)} {ys : List (PairOf GoType)} → Stands table x.key y.key → Stands table x.value y.value → PairsStand table xs ys → PairsStand table (x ∷ xs) (y ∷ ys)
