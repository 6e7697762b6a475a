use Rattle.std.proofs.Common.{sym, subst}
use Rattle.gno_judging.specs.Found.{FormStands as form}
use Rattle.gno_judging.specs.Stands.{Stands}
use Rattle.gno_judging.specs.Stands.{Stands as stands}
use Rattle.gno_terms.specs.declared.term.TypeRef.{TypeRef}
use Rattle.gno_typed.specs.declared.expr.TypedExprOf.{TypedExprOf}
use Rattle.gno_steps.proofs.conversions.converted_form.Goals as goal

pub returns : goal.returns
returns c table u s y of from h =
    let operand = subst (λ (x : TypedExprOf TypeRef). Stands table x y) (sym c.in_ok-operand.ensures) h in
    form.whole (stands.conversion c.args.place c.args.kind of from operand)
