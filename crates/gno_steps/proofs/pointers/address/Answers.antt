use Rattle.std.proofs.Common.{subst, None}
use Rattle.gno_judging.specs.Answers.{Answers}
use Rattle.gno_judging.specs.Found.{OperandStands, ValueStands}
use Rattle.gno_seen.proofs.OfValues.{of_it, of_none}
use Rattle.gno_steps.proofs.PointerRules.{address_is}
use Rattle.gno_typing.specs.Operands.{as_value}
use Rattle.gno_typing.specs.Pointers.{addressed}
use Rattle.gno_steps.proofs.pointers.address.Goals as goal

pub returns-in_ok-found-in-Some-clause-answers : goal.returns-in_ok-found-in-Some-clause-answers
returns-in_ok-found-in-Some-clause-answers c y h =
    let table = c.args.types.now in
    let later = c.addressed.new.types in
    address_is (λ J. Answers J (OperandStands later) c.args.faults.now c.addressed.new.faults c.as_operand.result) c.args.place y
    (of_it table later y (addressed c.args.place) c.args.faults.now c.as_value.new.faults c.addressed.new.faults c.in-Some.value c.in_ok-found-in-Some.found c.as_operand.result
    (subst (λ r. Answers (as_value y) (ValueStands table) c.args.faults.now c.as_value.new.faults r) c.in-Some.is (c.in_ok-value.ensures table y h)) (λ b is. c.in_ok-found-in-Some.ensures.answers b is) c.as_operand.ensures)

pub returns-in-None-clause-answers : goal.returns-in-None-clause-answers
returns-in-None-clause-answers c y h =
    let table = c.args.types.now in
    address_is (λ J. Answers J (OperandStands table) c.args.faults.now c.as_value.new.faults None) c.args.place y
    (of_none table table y (addressed c.args.place) c.args.faults.now c.as_value.new.faults
    (subst (λ r. Answers (as_value y) (ValueStands table) c.args.faults.now c.as_value.new.faults r) c.in-None.is (c.in_ok-value.ensures table y h)))
