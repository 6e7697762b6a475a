-- Typed forms that grow to the right.
use Rattle.std.specs.Prelude.{[], ◌∷◌, ◌++◌}
use Rattle.gno_terms.specs.declared.term.GoType.{GoType}
use Rattle.gno_typed.specs.declared.expr.TypedExprOf.{TypedExprOf}
use Rattle.gno_typed.specs.declared.expr.TypedExprOf.TheVariants as w
use Rattle.gno_typed.specs.declared.operation.OperationOf.{OperationOf}
use Rattle.gno_typed.specs.declared.operation.LogicOperationOf.{LogicOperationOf}
use Rattle.gno_typed.specs.declared.step.TypedStepOf.{TypedStepOf}
use Rattle.gno_typing.specs.declared.form.FormOf.{FormOf}
use Rattle.gno_typing.specs.declared.form.FormOf.TheVariants as f
use Rattle.gno_typing.specs.declared.pending.PendingOf.{PendingOf, out-PendingOf}
use Rattle.gno_typing.specs.declared.pending.PendingOf.TheOpen.{PendingOf-F}
use Rattle.gno_typing.specs.declared.pending.PendingOf.TheVariants as p
use Rattle.gno_typing.specs.declared.pending.PendingOperationOf.{PendingOperationOf}

abbrev pub closed : {A : Type 0} → FormOf A → TypedExprOf A
closed (f.Whole x) = x
closed (f.Primary operand steps) = w.Primary operand steps
closed (f.Binary first rest) = w.Binary first rest
closed (f.Logic of first rest) = w.Logic of first rest

-- an operator and its right operand behind a form
abbrev pub with_operation : {A : Type 0} → FormOf A → OperationOf A → FormOf A
with_operation (f.Binary first rest) o = f.Binary first (rest ++ o ∷ [])
with_operation x o = f.Binary (closed x) (o ∷ [])

abbrev pub with_logic : {A : Type 0} → A → FormOf A → LogicOperationOf A → FormOf A
with_logic of (f.Logic same first rest) o = f.Logic same first (rest ++ o ∷ [])
with_logic of x o = f.Logic of (closed x) (o ∷ [])

-- a step behind a form
abbrev pub with_step : {A : Type 0} → FormOf A → TypedStepOf A → FormOf A
with_step (f.Primary operand steps) s = f.Primary operand (steps ++ s ∷ [])
with_step x s = f.Primary (closed x) (s ∷ [])

-- the same behind a value that waits
abbrev pub with_pending : PendingOf GoType → PendingOperationOf GoType → PendingOf GoType
with_pending x o = elim (out-PendingOf GoType x) [ PendingOf-F.Chain first rest ↦ p.Chain first (rest ++ o ∷ []) | _ ↦ p.Chain x (o ∷ []) ]
