use Rattle.std.proofs.Common.{sym, ◌∙◌, false, rules}
use Rattle.gno_judging.proofs.Answers.{fails, gives, holds}
use Rattle.gno_judging.specs.Found.{ValueStands}
use Rattle.gno_judging.specs.Found.{ValueStands as value}
use Rattle.gno_judging.specs.Stands.{Stands as stands}
use Rattle.gno_typed.specs.declared.expr.TypedExprOf.TheVariants as w
use Rattle.gno_typing.specs.declared.value.Standing.TheVariants as st
use Rattle.gno_steps.proofs.conversions.converted_nil.Goals as goal

pub returns-in_ok-form : goal.returns-in_ok-form
returns-in_ok-form c u of =
    let table = c.args.types.now in
    holds (ValueStands table) _ 58 c.args.place _ _ _ _ ((c.has_nil.ensures u of.is).0 c.if-has_nil.true)
    (gives (ValueStands table) _ _ _ (value.typed c.args.place st.Result false of (c.in_ok-form.ensures table u u (w.Nil c.args.pos u) of.is of.is (stands.nil c.args.pos of.is))))

pub returns-else-has_nil : goal.returns-else-has_nil
returns-else-has_nil c u of = fails (ValueStands c.args.types.now) _ 58 c.args.place _ _ _ (λ p. search (rules, sym c.if-has_nil.false ∙ (c.has_nil.ensures u of.is).1 p)) c.note.ensures
