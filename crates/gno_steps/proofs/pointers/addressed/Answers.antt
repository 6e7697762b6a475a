use Rattle.std.specs.Prelude.{IfOk}
use Rattle.gno_judging.proofs.Inversions.{by_typed}
use Rattle.gno_judging.specs.Answers.{Answers}
use Rattle.gno_judging.specs.Found.{ValueStands}
use Rattle.gno_steps.proofs.PointerRules.{addressed_other}
use Rattle.gno_terms.specs.declared.term.GoType.{GoType}
use Rattle.gno_typing.specs.Pointers.{addressed}
use Rattle.gno_typing.specs.declared.value.ValueOf.{ValueOf}
use Rattle.gno_steps.proofs.pointers.addressed.Goals as goal

pub returns-in-Typed-clause-answers : goal.returns-in-Typed-clause-answers
returns-in-Typed-clause-answers c y h = by_typed (λ (y : ValueOf GoType). IfOk c.addressed_typed.result (λ r. Answers (addressed c.args.place y) (ValueStands c.addressed_typed.new.types) c.args.faults.now c.addressed_typed.new.faults r)) c.args.types.now
    c.in-Typed._pos c.in-Typed.of c.in-Typed.standing c.in-Typed.calls c.in-Typed.form c.args.x y c.in-Typed.is h (λ s b own form. c.addressed_typed.ensures.answers s b c.in-Typed._pos own form)

pub returns-in_default-clause-answers : goal.returns-in_default-clause-answers
returns-in_default-clause-answers c y h = addressed_other c.args.types.now c.args.place c.args.x y _ _ h c.in_default.not-Typed c.note.ensures
