use Rattle.std.proofs.Common.{refl, sym, subst}
use Rattle.gno_judging.proofs.Answers.{finds, finds_none, gives}
use Rattle.gno_judging.specs.Found.{ValueStands}
use Rattle.gno_judging.specs.Found.{FormStands as form, ValueStands as value}
use Rattle.gno_judging.specs.Stands.{Stands}
use Rattle.gno_judging.specs.Stands.{Stands as stands}
use Rattle.gno_steps.proofs.PointerRules.{follows_it, points_at}
use Rattle.gno_terms.specs.declared.term.TypeRef.{TypeRef}
use Rattle.gno_type_classes.specs.Unnumbered.{unnumbered}
use Rattle.gno_typed.specs.declared.expr.TypedExprOf.{TypedExprOf}
use Rattle.gno_typing.specs.Forms.{closed}
use Rattle.gno_typing.specs.declared.value.Standing.TheVariants as st
use Rattle.gno_steps.proofs.pointers.pointed_typed.Goals as goal

pub returns-in_ok-operand-in-Some-2 : goal.returns-in_ok-operand-in-Some-2
returns-in_ok-operand-in-Some-2 c s y at standing is h =
    let table = c.args.types.now in
    let found = c.in-Some.ensures.some s is.is in
    let own = found.2 in
    let operand = subst (λ (x : TypedExprOf TypeRef). Stands table x (closed y)) (sym c.in_ok-operand-in-Some-2.ensures) (c.in_ok-operand-in-Some.ensures.stands table y h) in
    finds (ValueStands table) _ 57 c.args.place _ _ _ _ found.0 (points_at (unnumbered table) s found.0 found.1)
    (gives (ValueStands table) _ _ _ (value.typed c.args.place st.Place c.args.calls (record { is = own; typed = c.in-Some.ensures.typed found.0 own }) (form.whole (stands.dereference c.args.place own operand))))

pub returns-in-None : goal.returns-in-None
returns-in-None c s y at standing is h = finds_none (ValueStands c.args.types.now) _ 57 c.args.place _ _ _ (λ u p. c.in-None.ensures.none refl s u is.is (follows_it (unnumbered c.args.types.now) s u p)) c.note.ensures
