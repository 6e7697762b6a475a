use Rattle.std.proofs.Common.{sym, subst}
use Rattle.gno_judging.specs.Found.{FormStands as form}
use Rattle.gno_judging.specs.Stands.{Stands}
use Rattle.gno_judging.specs.Stands.{Stands as stands}
use Rattle.gno_terms.specs.declared.term.TypeRef.{TypeRef}
use Rattle.gno_typed.specs.declared.expr.TypedExprOf.{TypedExprOf}
use Rattle.gno_typing.specs.Forms.{closed}
use Rattle.gno_giving.proofs.places.boxed.Goals as goal

pub returns : goal.returns
returns c table u s y is from h = form.whole (stands.interface is from (subst (λ (x : TypedExprOf TypeRef). Stands table x (closed y)) (sym c.in_ok-operand-2.ensures) (c.in_ok-operand.ensures.stands table y h)))
