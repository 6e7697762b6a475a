use Rattle.std.specs.Prelude.{IfOk}
use Rattle.gno_judging.specs.Answers.{Answers}
use Rattle.gno_judging.specs.Found.{OperandStands}
use Rattle.gno_judging.proofs.Inversions.{by_typed}
use Rattle.gno_selecting.proofs.Rules.{other_value}
use Rattle.gno_type_classes.specs.Unnumbered.{unnumbered}
use Rattle.gno_typing.specs.Selectors.{selected}
use Rattle.gno_selecting.proofs.select.selected.Goals as goal

pub returns-in-Typed : goal.returns-in-Typed
returns-in-Typed c y basics h = by_typed (λ y. IfOk c.selected_in.result (λ r. Answers (selected (unnumbered c.args.types.now) c.args.place c.args.path.now c.args.name.now y) (OperandStands c.args.types.now) c.args.faults.now c.selected_in.new.faults r)) c.args.types.now _ _ _ _ _ c.args.x y c.in-Typed.is h (λ s b is form. c.selected_in.ensures s b is.is form)

pub returns-in_default : goal.returns-in_default
returns-in_default c y basics h = other_value (λ J. IfOk c.settled_selected.result (λ r. Answers J (OperandStands c.args.types.now) c.args.faults.now c.settled_selected.new.faults r)) (unnumbered c.args.types.now) c.args.place c.args.path.now c.args.name.now c.args.types.now c.args.x y h c.in_default.not-Typed (c.settled_selected.ensures y basics h)
