use Rattle.std.proofs.Common.{sym, ◌∙◌, rules}
use Rattle.gno_judging.proofs.Answers.{fails, gives, holds}
use Rattle.gno_judging.specs.Found.{ValueStands}
use Rattle.gno_judging.specs.Found.{ValueStands as value}
use Rattle.gno_judging.specs.Stands.{StepStands as step_stands}
use Rattle.gno_typed.specs.declared.step.TypedStepOf.TheVariants as step
use Rattle.gno_typing.specs.declared.value.Standing.TheVariants as st
use Rattle.gno_steps.proofs.assertions.asserted_typed.Goals as goal

pub returns-then-not-is_interface : goal.returns-then-not-is_interface
returns-then-not-is_interface c u s y at stands of is h = fails (ValueStands c.args.types.now) _ 59 c.args.place _ _ _ (λ p. search (rules, sym c.if-not-is_interface.true ∙ (c.is_interface.ensures s is).1 p)) c.note.ensures

pub returns-in_ok-form : goal.returns-in_ok-form
returns-in_ok-form c u s y at stands of is h = holds (ValueStands c.args.types.now) _ 59 c.args.place _ _ _ _ ((c.is_interface.ensures s is).0 c.if-not-is_interface.false)
    (holds (ValueStands c.args.types.now) _ 59 c.args.place _ _ _ _ ((c.may_hold.ensures s u is of.is).0 c.if-may_hold.true)
    (gives (ValueStands c.args.types.now) _ _ _ (value.typed c.args.place st.Result c.args.calls of (c.in_ok-form.ensures.stands c.args.types.now y (step.Assertion c.args.place u) h (step_stands.assertion c.args.place of.is)))))

pub returns-else-may_hold : goal.returns-else-may_hold
returns-else-may_hold c u s y at stands of is h = holds (ValueStands c.args.types.now) _ 59 c.args.place _ _ _ _ ((c.is_interface.ensures s is).0 c.if-not-is_interface.false)
    (fails (ValueStands c.args.types.now) _ 59 c.args.place _ _ _ (λ p. search (rules, sym c.if-may_hold.false ∙ (c.may_hold.ensures s u is of.is).1 p)) c.note-else-may_hold.ensures)
