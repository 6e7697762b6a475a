use Rattle.std.proofs.Common.{sym, subst, Some}
use Rattle.gno_judging.proofs.Answers.{gives}
use Rattle.gno_judging.specs.Answers.{Answers}
use Rattle.gno_judging.specs.Found.{ValueStands}
use Rattle.gno_steps.proofs.PointerRules.{addressed_nowhere}
use Rattle.gno_typing.specs.Pointers.{addressed}
use Rattle.gno_typing.specs.declared.value.Standing.{Standing}
use Rattle.gno_typing.specs.declared.value.ValueOf.TheVariants as v
use Rattle.gno_steps.proofs.pointers.addressed_typed.Goals as goal

pub returns-in_ok-it-in-Place-clause-answers : goal.returns-in_ok-it-in-Place-clause-answers
returns-in_ok-it-in-Place-clause-answers c s y at is h = subst (λ (k : Standing). Answers (addressed c.args.place (v.Typed at s k c.args.calls y)) (ValueStands c.pointer.new.types) c.args.faults.now c.args.faults.now (Some c.in_ok-it-in-Place.it)) (sym c.in-Place.is)
    (gives (ValueStands c.pointer.new.types) _ _ _ (c.in_ok-it-in-Place.ensures.stands s y is h))

pub returns-in_ok-it-in-Literal-clause-answers : goal.returns-in_ok-it-in-Literal-clause-answers
returns-in_ok-it-in-Literal-clause-answers c s y at is h = subst (λ (k : Standing). Answers (addressed c.args.place (v.Typed at s k c.args.calls y)) (ValueStands c.pointer-in-Literal.new.types) c.args.faults.now c.args.faults.now (Some c.in_ok-it-in-Literal.it)) (sym c.in-Literal.is)
    (gives (ValueStands c.pointer-in-Literal.new.types) _ _ _ (c.in_ok-it-in-Literal.ensures.stands s y is h))

pub returns-in_default-clause-answers : goal.returns-in_default-clause-answers
returns-in_default-clause-answers c s y at is h = addressed_nowhere (ValueStands c.args.types.now) c.args.place at s c.args.standing c.args.calls y _ _ c.in_default.not-Place c.in_default.not-Literal c.note.ensures
