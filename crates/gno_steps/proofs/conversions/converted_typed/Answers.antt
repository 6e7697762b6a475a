use Rattle.std.proofs.Common.{refl}
use Rattle.gno_judging.proofs.Answers.{finds, finds_none, gives}
use Rattle.gno_judging.specs.Found.{ValueStands}
use Rattle.gno_judging.specs.Found.{ValueStands as value}
use Rattle.gno_typing.specs.Forms.{closed}
use Rattle.gno_typing.specs.declared.value.Standing.TheVariants as st
use Rattle.gno_steps.proofs.conversions.converted_typed.Goals as goal

pub returns-in_ok-form-in-Some : goal.returns-in_ok-form-in-Some
returns-in_ok-form-in-Some c u y of h =
    let table = c.args.types.now in
    finds (ValueStands table) _ 58 c.args.place _ _ _ _ c.in-Some.kind (c.in-Some.ensures.some y.of u h.of.is of.is)
    (gives (ValueStands table) _ _ _ (value.typed c.args.place st.Result c.args.calls of (c.in_ok-form-in-Some.ensures table u y.of (closed y.form) of.is h.of.is (c.in_ok-operand-in-Some.ensures.stands table y.form h.form))))

pub returns-in-None : goal.returns-in-None
returns-in-None c u y of h = finds_none (ValueStands c.args.types.now) _ 58 c.args.place _ _ _ (λ how p. c.in-None.ensures.none refl y.of u how h.of.is of.is p) c.note.ensures
