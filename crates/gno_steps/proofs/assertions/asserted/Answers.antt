use Rattle.std.specs.Prelude.{IfOk}
use Rattle.gno_judging.proofs.Inversions.{by_typed}
use Rattle.gno_judging.specs.Answers.{Answers}
use Rattle.gno_judging.specs.Found.{ValueStands}
use Rattle.gno_steps.proofs.AssertionRules.{asserted_other}
use Rattle.gno_terms.specs.declared.term.GoType.{GoType}
use Rattle.gno_type_classes.specs.Unnumbered.{unnumbered}
use Rattle.gno_typing.specs.Assertions.{asserted}
use Rattle.gno_typing.specs.declared.value.ValueOf.{ValueOf}
use Rattle.gno_steps.proofs.assertions.asserted.Goals as goal

pub returns-in-Typed : goal.returns-in-Typed
returns-in-Typed c u y of h = by_typed (λ (y : ValueOf GoType). IfOk c.asserted_typed.result (λ r. Answers (asserted (unnumbered c.args.types.now) c.args.place u y) (ValueStands c.args.types.now) c.args.faults.now c.asserted_typed.new.faults r)) c.args.types.now
    c.in-Typed._pos c.in-Typed.from c.in-Typed._standing c.in-Typed.calls c.in-Typed.form c.args.x y c.in-Typed.is h (λ s b own form. c.asserted_typed.ensures u s b c.in-Typed._pos c.in-Typed._standing of own.is form)

pub returns-in_default : goal.returns-in_default
returns-in_default c u y of h = asserted_other c.args.types.now (unnumbered c.args.types.now) c.args.place u c.args.x y _ _ h c.in_default.not-Typed c.note.ensures
