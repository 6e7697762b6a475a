use Rattle.std.proofs.Common.{sym, ◌∙◌, subst, rules}
use Rattle.gno_judging.specs.Found.{ValueStands}
use Rattle.gno_judging.specs.Found.{FormStands as form, ValueStands as value}
use Rattle.gno_judging.specs.Stands.{Stands}
use Rattle.gno_judging.specs.Stands.{Stands as stands}
use Rattle.gno_judging.proofs.Answers.{fails, gives, holds}
use Rattle.gno_terms.specs.declared.term.TypeRef.{TypeRef}
use Rattle.gno_typed.specs.declared.expr.TypedExprOf.{TypedExprOf}
use Rattle.gno_typing.specs.Forms.{closed}
use Rattle.gno_typing.specs.declared.value.Standing.TheVariants as standing
use Rattle.gno_unary.proofs.one_operand.of_typed.Goals as goal

pub returns-in_ok-operand-2 : goal.returns-in_ok-operand-2
returns-in_ok-operand-2 c s y is h = holds (ValueStands c.args.types.now) _ 46 c.args.place _ _ _ _ ((c.takes.ensures s is.is).0 c.if-takes.true)
    (gives (ValueStands c.args.types.now) _ _ _ (value.typed c.args.place standing.Result c.args.calls is (form.whole (stands.unary c.args.place c.args.operator is.is (subst (λ (x : TypedExprOf TypeRef). Stands c.args.types.now x (closed y)) (sym c.in_ok-operand-2.ensures) (c.in_ok-operand.ensures.stands c.args.types.now y h))))))

pub returns-else-takes : goal.returns-else-takes
returns-else-takes c s y is h = fails (ValueStands c.args.types.now) _ 46 c.args.place _ _ _ (λ p. search (rules, sym c.if-takes.false ∙ (c.takes.ensures s is.is).1 p)) c.note.ensures
