use Rattle.std.proofs.Common.{subst}
use Rattle.gno_judging.specs.Answers.{Answers}
use Rattle.gno_judging.specs.Found.{OperandStands, ValueStands}
use Rattle.gno_steps.proofs.ConversionRules.{the_conversion}
use Rattle.gno_seen.proofs.OfValues.{of_it, of_none}
use Rattle.gno_type_classes.specs.Unnumbered.{unnumbered}
use Rattle.gno_typing.specs.Conversions.{converted}
use Rattle.gno_typing.specs.Operands.{as_value}
use Rattle.gno_steps.proofs.conversions.conversion.Goals as goal

pub returns-in_ok-found-in-Some : goal.returns-in_ok-found-in-Some
returns-in_ok-found-in-Some c u y basics of h =
    let table = c.args.types.now in
    let seen = unnumbered table in
    the_conversion (OperandStands table) seen c.args.place u y _ _ _ (of_it table table y (converted seen c.args.place u) c.args.faults.now c.as_value.new.faults c.converted.new.faults c.in-Some.value c.in_ok-found-in-Some.found c.as_operand.result
    (subst (λ r. Answers (as_value y) (ValueStands table) c.args.faults.now c.as_value.new.faults r) c.in-Some.is (c.in_ok-value.ensures table y h)) (λ b is. c.in_ok-found-in-Some.ensures u b basics of is) c.as_operand.ensures)

pub returns-in-None : goal.returns-in-None
returns-in-None c u y basics of h =
    let table = c.args.types.now in
    let seen = unnumbered table in
    the_conversion (OperandStands table) seen c.args.place u y _ _ _ (of_none table table y (converted seen c.args.place u) c.args.faults.now c.as_value.new.faults
    (subst (λ r. Answers (as_value y) (ValueStands table) c.args.faults.now c.as_value.new.faults r) c.in-None.is (c.in_ok-value.ensures table y h)))
