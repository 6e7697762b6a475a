use Rattle.std.proofs.Common.{subst}
use Rattle.gno_judging.specs.Answers.{Answers}
use Rattle.gno_judging.specs.Found.{OperandStands, ValueStands}
use Rattle.gno_steps.proofs.AssertionRules.{the_assertion}
use Rattle.gno_seen.proofs.OfValues.{of_it, of_none}
use Rattle.gno_type_classes.specs.Unnumbered.{unnumbered}
use Rattle.gno_typing.specs.Assertions.{asserted}
use Rattle.gno_typing.specs.Operands.{as_value}
use Rattle.gno_steps.proofs.assertions.assertion.Goals as goal

pub returns-in_ok-found-in-Some : goal.returns-in_ok-found-in-Some
returns-in_ok-found-in-Some c y u h of =
    let table = c.args.types.now in
    let seen = unnumbered table in
    the_assertion (OperandStands table) seen c.args.place y u _ _ _ (of_it table table y (asserted seen c.args.place u) c.args.faults.now c.as_value.new.faults c.asserted.new.faults c.in-Some.value c.in_ok-found-in-Some.found c.as_operand.result
    (subst (λ r. Answers (as_value y) (ValueStands table) c.args.faults.now c.as_value.new.faults r) c.in-Some.is (c.in_ok-value.ensures table y h)) (λ b is. c.in_ok-found-in-Some.ensures u b of is) c.as_operand.ensures)

pub returns-in-None : goal.returns-in-None
returns-in-None c y u h of =
    let table = c.args.types.now in
    let seen = unnumbered table in
    the_assertion (OperandStands table) seen c.args.place y u _ _ _ (of_none table table y (asserted seen c.args.place u) c.args.faults.now c.as_value.new.faults
    (subst (λ r. Answers (as_value y) (ValueStands table) c.args.faults.now c.as_value.new.faults r) c.in-None.is (c.in_ok-value.ensures table y h)))
