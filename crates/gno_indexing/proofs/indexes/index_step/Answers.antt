use Rattle.std.proofs.Common.{sym, subst}
use Rattle.gno_judging.specs.Stands.{Stands}
use Rattle.gno_judging.specs.Stands.{StepStands as step_stands}
use Rattle.gno_terms.specs.declared.term.TypeRef.{TypeRef}
use Rattle.gno_typed.specs.declared.expr.TypedExprOf.{TypedExprOf}
use Rattle.gno_typed.specs.declared.step.TypedStepOf.TheVariants as step
use Rattle.gno_indexing.proofs.indexes.index_step.Goals as goal

pub returns-in-Ok : goal.returns-in-Ok
returns-in-Ok c table s y j of h k =
    let index = subst (λ (x : TypedExprOf TypeRef). Stands table x j) (sym c.in-Ok.ensures) k in
    c.with_step.ensures.stands table y (step.Index c.args.place s c.args.kind c.args.takes_place j) h (step_stands.index c.args.place c.args.kind c.args.takes_place of index)
