use Rattle.std.proofs.Common.{refl}
use Rattle.gno_judging.specs.Found.{OperandStands}
use Rattle.gno_judging.proofs.Answers.{finds_none}
use Rattle.gno_selecting.proofs.Selected.{a_holder}
use Rattle.gno_type_classes.specs.Unnumbered.{unnumbered}
use Rattle.gno_selecting.proofs.select.selected_in.Goals as goal

pub returns-in-Some : goal.returns-in-Some
returns-in-Some c s y is form = let of = c.in-Some.ensures.some s is in a_holder (unnumbered c.args.types.now) c.args.types.now c.args.place c.args.path.now c.args.name.now s c.args.x.standing c.args.x.calls y c.args.faults.now c.selected_of.new.faults c.selected_of.result _ of.2 (c.selected_of.ensures s of.0 y is of.1 form)

pub returns-in-None : goal.returns-in-None
returns-in-None c s y is form = finds_none (OperandStands c.args.types.now) _ 52 c.args.place _ _ _ (λ h own. c.in-None.ensures.none refl s h is own) c.note.ensures
