use Rattle.std.specs.Prelude.{IfOk}
use Rattle.gno_judging.proofs.Inversions.{by_typed}
use Rattle.gno_judging.specs.Answers.{Answers}
use Rattle.gno_judging.specs.Found.{ValueStands}
use Rattle.gno_steps.proofs.PointerRules.{pointed_other}
use Rattle.gno_terms.specs.declared.term.GoType.{GoType}
use Rattle.gno_type_classes.specs.Unnumbered.{unnumbered}
use Rattle.gno_typing.specs.Pointers.{pointed}
use Rattle.gno_typing.specs.declared.value.ValueOf.{ValueOf}
use Rattle.gno_steps.proofs.pointers.pointed.Goals as goal

pub returns-in-Typed : goal.returns-in-Typed
returns-in-Typed c y h = by_typed (λ (y : ValueOf GoType). IfOk c.pointed_typed.result (λ r. Answers (pointed (unnumbered c.args.types.now) c.args.place y) (ValueStands c.args.types.now) c.args.faults.now c.pointed_typed.new.faults r)) c.args.types.now
    c.in-Typed._pos c.in-Typed.of c.in-Typed._standing c.in-Typed.calls c.in-Typed.form c.args.x y c.in-Typed.is h (λ s b own form. c.pointed_typed.ensures s b c.in-Typed._pos c.in-Typed._standing own form)

pub returns-in_default : goal.returns-in_default
returns-in_default c y h = pointed_other c.args.types.now c.args.place c.args.x y _ _ h c.in_default.not-Typed (unnumbered c.args.types.now) c.note.ensures
