use Rattle.std.proofs.Common.{refl, sym, subst}
use Rattle.gno_judging.specs.Stands.{LogicStands as logic, Stands}
use Rattle.gno_terms.specs.declared.term.TypeRef.{TypeRef}
use Rattle.gno_typed.specs.declared.expr.TypedExprOf.{TypedExprOf}
use Rattle.gno_operations.proofs.growing.with_truth.Goals as goal

pub returns-in-Ok : goal.returns-in-Ok
returns-in-Ok c table u x y is left right = c.with_logic.ensures.stands table u x _ is left
    (logic.one_logic refl refl (subst (λ (z : TypedExprOf TypeRef). Stands table z y) (sym c.in-Ok.ensures) right) logic.no_logic)
