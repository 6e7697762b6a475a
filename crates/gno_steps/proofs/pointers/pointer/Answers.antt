use Rattle.std.proofs.Common.{sym, subst}
use Rattle.gno_judging.proofs.Growing.{later_of}
use Rattle.gno_judging.specs.Found.{FormStands as form, ValueStands as value}
use Rattle.gno_judging.specs.Stands.{Stands}
use Rattle.gno_judging.specs.Stands.{Stands as stands}
use Rattle.gno_terms.specs.declared.term.TypeRef.{TypeRef}
use Rattle.gno_typed.specs.declared.expr.TypedExprOf.{TypedExprOf}
use Rattle.gno_typing.specs.Forms.{closed}
use Rattle.gno_typing.specs.declared.value.Standing.TheVariants as st
use Rattle.gno_steps.proofs.pointers.pointer.Goals as goal

pub returns-clause-stands : goal.returns-clause-stands
returns-clause-stands c s y is h =
    let table = c.args.types.now in
    let later = c.pointer_to.new.types in
    let own = c.in_ok-of.ensures.stands s is in
    let operand = subst (λ (x : TypedExprOf TypeRef). Stands table x (closed y)) (sym c.in_ok-operand-2.ensures) (c.in_ok-operand.ensures.stands table y h) in
    value.typed c.args.place st.Result c.args.calls own (form.whole (stands.address c.args.place c.args.addressed own.is (later_of table later c.in_ok-of.ensures.grows _ _ operand)))
