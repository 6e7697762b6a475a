use Rattle.std.proofs.Common.{subst}
use Rattle.gno_judging.specs.Answers.{Answers}
use Rattle.gno_judging.specs.Found.{OperandStands, ValueStands}
use Rattle.gno_judging.proofs.Answers.{after_none, after_ok}
use Rattle.gno_type_classes.specs.Unnumbered.{unnumbered}
use Rattle.gno_typing.specs.Operands.{as_value}
use Rattle.gno_typing.specs.Selectors.{selected}
use Rattle.gno_selecting.proofs.select.of_value.Goals as goal

pub returns-in-Some : goal.returns-in-Some
returns-in-Some c y basics h = after_ok (ValueStands c.args.types.now) (OperandStands c.args.types.now) (as_value y) (selected (unnumbered c.args.types.now) c.args.place c.args.path.now c.args.name.now) c.args.faults.now c.as_value.new.faults c.selected.new.faults c.selected.result c.in-Some.value
    (subst (λ r. Answers (as_value y) (ValueStands c.args.types.now) c.args.faults.now c.as_value.new.faults r) c.in-Some.is (c.in_ok-value.ensures c.args.types.now y h)) (λ v is. c.selected.ensures v basics is)

pub returns-in-None : goal.returns-in-None
returns-in-None c y basics h = after_none (ValueStands c.args.types.now) (OperandStands c.args.types.now) (as_value y) (selected (unnumbered c.args.types.now) c.args.place c.args.path.now c.args.name.now) c.args.faults.now c.as_value.new.faults
    (subst (λ r. Answers (as_value y) (ValueStands c.args.types.now) c.args.faults.now c.as_value.new.faults r) c.in-None.is (c.in_ok-value.ensures c.args.types.now y h))
