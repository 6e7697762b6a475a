-- What stands in a table stands in a later one.
use Rattle.std.proofs.Common.{List, Option}
use Rattle.gno_judging.specs.Stands.{AllStand, ArgumentsStand, BothStand, BoundStands, CalleeStands, EachStands, ElementsStand, FieldsStand, IndexedStand, LogicStands, MayStand, OperationsStand, PairsStand, ReceiverStands, Stands, StepStands, StepsStand, VariadicStands}
use Rattle.gno_judging.specs.Stands.{AllStand as all, ArgumentsStand as arguments, BothStand as both, BoundStands as bound, CalleeStands as callee, EachStands as each, ElementsStand as elements, FieldsStand as fields, IndexedStand as indexed, LogicStands as logic, MayStand as may, OperationsStand as operations, PairsStand as pairs, ReceiverStands as receiver, Stands as stands, StepStands as step, StepsStand as steps, VariadicStands as variadic}
use Rattle.gno_terms.specs.declared.term.GoType.{GoType}
use Rattle.gno_terms.specs.declared.term.TypeRef.{TypeRef}
use Rattle.gno_terms.specs.Tables.{Grows, Table}
use Rattle.gno_typed.specs.declared.elements.ElementsOf.{ElementsOf}
use Rattle.gno_typed.specs.declared.elements.FieldValueOf.{FieldValueOf}
use Rattle.gno_typed.specs.declared.elements.IndexedOf.{IndexedOf}
use Rattle.gno_typed.specs.declared.elements.PairOf.{PairOf}
use Rattle.gno_typed.specs.declared.expr.ArgumentsOf.{ArgumentsOf}
use Rattle.gno_typed.specs.declared.expr.TypedExprOf.{TypedExprOf}
use Rattle.gno_typed.specs.declared.operation.LogicOperationOf.{LogicOperationOf}
use Rattle.gno_typed.specs.declared.operation.OperationOf.{OperationOf}
use Rattle.gno_typed.specs.declared.step.BoundOf.{BoundOf}
use Rattle.gno_typed.specs.declared.step.CalleeOf.{CalleeOf}
use Rattle.gno_typed.specs.declared.step.ReceiverOf.{ReceiverOf}
use Rattle.gno_typed.specs.declared.step.TypedStepOf.{TypedStepOf}
use Rattle.gno_typed.specs.declared.step.VariadicOf.{VariadicOf}

pub each_later : {A B : Type 0} {R S : A → B → Type 0} → ((a : A) (b : B) → R a b → S a b) → (xs : List A) (ys : List B) → EachStands R xs ys → EachStands S xs ys
each_later g _ _ each.none = each.none
each_later g _ _ (each.more h hs) = each.more (g _ _ h) (each_later g _ _ hs)

pub both_later : {A B : Type 0} {R S : A → B → Type 0} → ((a : A) (b : B) → R a b → S a b) → (x : Option A) (y : Option B) → BothStand R x y → BothStand S x y
both_later g _ _ both.none = both.none
both_later g _ _ (both.some h) = both.some (g _ _ h)

module _ (table later : Table) (grows : Grows table later) where
  pub receiver_later : (x : ReceiverOf TypeRef) (y : ReceiverOf GoType) → ReceiverStands table x y → ReceiverStands later x y
  receiver_later _ _ (receiver.declared pointer adjustment is) = receiver.declared pointer adjustment (grows _ _ is)
  receiver_later _ _ receiver.held = receiver.held

  pub bound_later : (x : BoundOf TypeRef) (y : BoundOf GoType) → BoundStands table x y → BoundStands later x y
  bound_later _ _ (bound.bound place pointer way name «package» h) = bound.bound place pointer way name «package» (receiver_later _ _ h)

  pub callee_later : (x : CalleeOf TypeRef) (y : CalleeOf GoType) → CalleeStands table x y → CalleeStands later x y
  callee_later _ _ callee.value = callee.value
  callee_later _ _ (callee.method at is h) = callee.method at (grows _ _ is) (bound_later _ _ h)

  pub variadic_later : (x : VariadicOf TypeRef) (y : VariadicOf GoType) → VariadicStands table x y → VariadicStands later x y
  variadic_later _ _ (variadic.variadic from is) = variadic.variadic from (grows _ _ is)

  mutual
    pub later_of : (x : TypedExprOf TypeRef) (y : TypedExprOf GoType) → Stands table x y → Stands later x y
    later_of _ _ (stands.constant at value is) = stands.constant at value (grows _ _ is)
    later_of _ _ (stands.nil at is) = stands.nil at (grows _ _ is)
    later_of _ _ (stands.variable at id is) = stands.variable at id (grows _ _ is)
    later_of _ _ (stands.function at code is) = stands.function at code (grows _ _ is)
    later_of _ _ (stands.primary h hs) = stands.primary (later_of _ _ h) (steps_later _ _ hs)
    later_of _ _ (stands.dereference at is h) = stands.dereference at (grows _ _ is) (later_of _ _ h)
    later_of _ _ (stands.address at addressed is h) = stands.address at addressed (grows _ _ is) (later_of _ _ h)
    later_of _ _ (stands.unary at operator is h) = stands.unary at operator (grows _ _ is) (later_of _ _ h)
    later_of _ _ (stands.binary h hs) = stands.binary (later_of _ _ h) (operations_later _ _ hs)
    later_of _ _ (stands.logic is h hs) = stands.logic (grows _ _ is) (later_of _ _ h) (logic_later _ _ hs)
    later_of _ _ (stands.conversion at kind is from h) = stands.conversion at kind (grows _ _ is) (grows _ _ from) (later_of _ _ h)
    later_of _ _ (stands.interface is from h) = stands.interface (grows _ _ is) (grows _ _ from) (later_of _ _ h)
    later_of _ _ (stands.composite at is h) = stands.composite at (grows _ _ is) (elements_later _ _ h)
    later_of _ _ (stands.literal at code is) = stands.literal at code (grows _ _ is)
    later_of _ _ (stands.append at spread is h) = stands.append at spread (grows _ _ is) (arguments_later _ _ h)
    later_of _ _ (stands.copy at is h) = stands.copy at (grows _ _ is) (arguments_later _ _ h)
    later_of _ _ (stands.make at is hs) = stands.make at (grows _ _ is) (all_later _ _ hs)
    later_of _ _ (stands.new at is of) = stands.new at (grows _ _ is) (grows _ _ of)
    later_of _ _ (stands.delete at h) = stands.delete at (arguments_later _ _ h)
    later_of _ _ (stands.print at line h) = stands.print at line (arguments_later _ _ h)
    later_of _ _ (stands.len at is h) = stands.len at (grows _ _ is) (later_of _ _ h)
    later_of _ _ (stands.cap at is h) = stands.cap at (grows _ _ is) (later_of _ _ h)
    later_of _ _ (stands.panic at h) = stands.panic at (later_of _ _ h)
    later_of _ _ (stands.recover at is) = stands.recover at (grows _ _ is)

    pub all_later : (xs : List (TypedExprOf TypeRef)) (ys : List (TypedExprOf GoType)) → AllStand table xs ys → AllStand later xs ys
    all_later _ _ all.no_expr = all.no_expr
    all_later _ _ (all.one_expr h hs) = all.one_expr (later_of _ _ h) (all_later _ _ hs)

    pub may_later : (x : Option (TypedExprOf TypeRef)) (y : Option (TypedExprOf GoType)) → MayStand table x y → MayStand later x y
    may_later _ _ may.absent = may.absent
    may_later _ _ (may.present h) = may.present (later_of _ _ h)

    pub arguments_later : (x : ArgumentsOf TypeRef) (y : ArgumentsOf GoType) → ArgumentsStand table x y → ArgumentsStand later x y
    arguments_later _ _ (arguments.each hs) = arguments.each (all_later _ _ hs)
    arguments_later _ _ (arguments.results h given) = arguments.results (later_of _ _ h) (each_later grows _ _ given)

    pub step_later : (x : TypedStepOf TypeRef) (y : TypedStepOf GoType) → StepStands table x y → StepStands later x y
    step_later _ _ (step.field at place pointer way index is) = step.field at place pointer way index (grows _ _ is)
    step_later _ _ (step.bound at is h) = step.bound at (grows _ _ is) (bound_later _ _ h)
    step_later _ _ (step.index at kind place is h) = step.index at kind place (grows _ _ is) (later_of _ _ h)
    step_later _ _ (step.slice at kind is low high max) = step.slice at kind (grows _ _ is) (may_later _ _ low) (may_later _ _ high) (may_later _ _ max)
    step_later _ _ (step.assertion at is) = step.assertion at (grows _ _ is)
    step_later _ _ (step.call at crossing results h hs from) = step.call at crossing (each_later grows _ _ results) (callee_later _ _ h) (arguments_later _ _ hs) (both_later variadic_later _ _ from)

    pub steps_later : (xs : List (TypedStepOf TypeRef)) (ys : List (TypedStepOf GoType)) → StepsStand table xs ys → StepsStand later xs ys
    steps_later _ _ steps.no_step = steps.no_step
    steps_later _ _ (steps.one_step h hs) = steps.one_step (step_later _ _ h) (steps_later _ _ hs)

    pub operations_later : (xs : List (OperationOf TypeRef)) (ys : List (OperationOf GoType)) → OperationsStand table xs ys → OperationsStand later xs ys
    operations_later _ _ operations.no_operation = operations.no_operation
    operations_later _ _ (operations.one_operation at of operator operands boxed h hs) = operations.one_operation at (grows _ _ of) operator (grows _ _ operands) (both_later grows _ _ boxed) (later_of _ _ h) (operations_later _ _ hs)

    pub logic_later : (xs : List (LogicOperationOf TypeRef)) (ys : List (LogicOperationOf GoType)) → LogicStands table xs ys → LogicStands later xs ys
    logic_later _ _ logic.no_logic = logic.no_logic
    logic_later _ _ (logic.one_logic at operator h hs) = logic.one_logic at operator (later_of _ _ h) (logic_later _ _ hs)

    pub elements_later : (x : ElementsOf TypeRef) (y : ElementsOf GoType) → ElementsStand table x y → ElementsStand later x y
    elements_later _ _ (elements.of_struct hs) = elements.of_struct (fields_later _ _ hs)
    elements_later _ _ (elements.of_array n hs) = elements.of_array n (indexed_later _ _ hs)
    elements_later _ _ (elements.of_slice n hs) = elements.of_slice n (indexed_later _ _ hs)
    elements_later _ _ (elements.of_map hs) = elements.of_map (pairs_later _ _ hs)

    pub fields_later : (xs : List (FieldValueOf TypeRef)) (ys : List (FieldValueOf GoType)) → FieldsStand table xs ys → FieldsStand later xs ys
    fields_later _ _ fields.no_field = fields.no_field
    fields_later _ _ (fields.one_field index h hs) = fields.one_field index (later_of _ _ h) (fields_later _ _ hs)

    pub indexed_later : (xs : List (IndexedOf TypeRef)) (ys : List (IndexedOf GoType)) → IndexedStand table xs ys → IndexedStand later xs ys
    indexed_later _ _ indexed.no_item = indexed.no_item
    indexed_later _ _ (indexed.one_item key index h hs) = indexed.one_item (may_later _ _ key) index (later_of _ _ h) (indexed_later _ _ hs)

    pub pairs_later : (xs : List (PairOf TypeRef)) (ys : List (PairOf GoType)) → PairsStand table xs ys → PairsStand later xs ys
    pairs_later _ _ pairs.no_pair = pairs.no_pair
    pairs_later _ _ (pairs.one_pair key value hs) = pairs.one_pair (later_of _ _ key) (later_of _ _ value) (pairs_later _ _ hs)
