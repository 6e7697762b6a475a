use Rattle.std.proofs.Common.{◌≡◌, subst, Bool}
use Rattle.std.specs.Prelude.{IfOk}
use Rattle.gno_giving.specs.InTypes.{InTypeStands}
use Rattle.gno_judging.specs.Answers.{Answers}
use Rattle.gno_judging.specs.Found.{OperandStands}
use Rattle.gno_judging.proofs.Answers.{after_none, after_ok}
use Rattle.gno_type_classes.specs.Unnumbered.{unnumbered}
use Rattle.gno_typing.specs.Binary.{calls_in}
use Rattle.gno_typing.specs.Operands.{settled}
use Rattle.gno_typing.specs.Selectors.{selected_in}
use Rattle.gno_typing.specs.declared.value.Standing.TheVariants as st
use Rattle.gno_selecting.proofs.select.settled_selected.Goals as goal

pub returns-in-Some : goal.returns-in-Some
returns-in-Some c y basics h = after_ok (InTypeStands c.args.types.now) (OperandStands c.args.types.now) (settled (unnumbered c.args.types.now) 52 c.args.place y) (λ z. selected_in (unnumbered c.args.types.now) c.args.place c.args.path.now c.args.name.now z.of st.Result (calls_in y) z.form) c.args.faults.now c.settled.new.faults c.selected_in.new.faults c.selected_in.result c.in-Some.it
    (subst (λ r. Answers (settled (unnumbered c.args.types.now) 52 c.args.place y) (InTypeStands c.args.types.now) c.args.faults.now c.settled.new.faults r) c.in-Some.is (c.in_ok-it.ensures y basics h))
    (λ z is. subst (λ (b : Bool). IfOk c.selected_in.result (λ r. Answers (selected_in (unnumbered c.args.types.now) c.args.place c.args.path.now c.args.name.now z.of st.Result b z.form) (OperandStands c.args.types.now) c.settled.new.faults c.selected_in.new.faults r)) (c.calls_in-calls.ensures c.args.types.now y h) (c.selected_in.ensures z.of z.form is.of.is is.form))

pub returns-in-None : goal.returns-in-None
returns-in-None c y basics h = after_none (InTypeStands c.args.types.now) (OperandStands c.args.types.now) (settled (unnumbered c.args.types.now) 52 c.args.place y) (λ z. selected_in (unnumbered c.args.types.now) c.args.place c.args.path.now c.args.name.now z.of st.Result (calls_in y) z.form) c.args.faults.now c.settled.new.faults
    (subst (λ r. Answers (settled (unnumbered c.args.types.now) 52 c.args.place y) (InTypeStands c.args.types.now) c.args.faults.now c.settled.new.faults r) c.in-None.is (c.in_ok-it.ensures y basics h))
