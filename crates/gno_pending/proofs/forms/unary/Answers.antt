use Rattle.std.proofs.Common.{sym, subst}
use Rattle.gno_judging.specs.Found.{FormStands as form}
use Rattle.gno_judging.specs.Stands.{Stands}
use Rattle.gno_judging.specs.Stands.{Stands as stands}
use Rattle.gno_typed.specs.declared.expr.TypedExprOf.{TypedExprOf}
use Rattle.gno_terms.specs.declared.term.TypeRef.{TypeRef}
use Rattle.gno_typing.specs.Forms.{closed}
use Rattle.gno_pending.proofs.forms.unary.Goals as goal

pub returns : goal.returns
returns c table u y is h = form.whole (stands.unary c.args.pos c.args.operator is (subst (λ (z : TypedExprOf TypeRef). Stands table z (closed y)) (sym c.in_ok-operand-2.ensures) (c.in_ok-operand.ensures.stands table y h)))
