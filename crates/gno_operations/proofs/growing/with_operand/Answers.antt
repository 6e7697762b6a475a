use Rattle.std.proofs.Common.{refl, sym, subst}
use Rattle.gno_judging.specs.Stands.{BothStand as both, OperationsStand as operations, Stands}
use Rattle.gno_terms.specs.declared.term.TypeRef.{TypeRef}
use Rattle.gno_typed.specs.declared.expr.TypedExprOf.{TypedExprOf}
use Rattle.gno_operations.proofs.growing.with_operand.Goals as goal

pub returns-in-Ok : goal.returns-in-Ok
returns-in-Ok c table u x y is left right = c.with_operation.ensures.stands table x _ left
    (operations.one_operation refl is refl is both.none (subst (λ (z : TypedExprOf TypeRef). Stands table z y) (sym c.in-Ok.ensures) right) operations.no_operation)
