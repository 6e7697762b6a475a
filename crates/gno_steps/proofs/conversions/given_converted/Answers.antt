use Rattle.std.proofs.Common.{subst}
use Rattle.gno_judging.proofs.Answers.{after, after_none, gives}
use Rattle.gno_judging.specs.Answers.{Answers}
use Rattle.gno_judging.specs.Found.{FormStands, ValueStands}
use Rattle.gno_judging.specs.Found.{ValueStands as value}
use Rattle.gno_type_classes.specs.Unnumbered.{unnumbered}
use Rattle.gno_typing.specs.Conversions.{same_of}
use Rattle.gno_typing.specs.Forms.{closed}
use Rattle.gno_typing.specs.Giving.{IsGiven}
use Rattle.gno_typing.specs.declared.value.Standing.TheVariants as st
use Rattle.gno_steps.proofs.conversions.given_converted.Goals as goal

pub returns-in_ok-form-in-Some : goal.returns-in_ok-form-in-Some
returns-in_ok-form-in-Some c u y of h =
    let table = c.args.types.now in
    let seen = unnumbered table in
    after (FormStands table) (ValueStands table) (IsGiven seen u y) (same_of c.args.place u c.args.calls) _ _ _ _ c.in-Some.form
    (subst (λ r. Answers (IsGiven seen u y) (FormStands table) c.args.faults.now c.given_type.new.faults r) c.in-Some.is (c.in_ok-form.ensures u y of.is h))
    (λ b is. gives (ValueStands table) _ _ _ (value.typed c.args.place st.Result c.args.calls of (c.in_ok-form-in-Some.ensures table u u (closed b) of.is of.is (c.in_ok-operand-in-Some.ensures.stands table b is))))

pub returns-in-None : goal.returns-in-None
returns-in-None c u y of h =
    let table = c.args.types.now in
    let seen = unnumbered table in
    after_none (FormStands table) (ValueStands table) (IsGiven seen u y) (same_of c.args.place u c.args.calls) _ _
    (subst (λ r. Answers (IsGiven seen u y) (FormStands table) c.args.faults.now c.given_type.new.faults r) c.in-None.is (c.in_ok-form.ensures u y of.is h))
