use Rattle.std.proofs.Common.{None, Ok}
use Rattle.std.specs.Prelude.{IfOk}
use Rattle.gno_judging.specs.Answers.{Answers}
use Rattle.gno_judging.specs.Found.{ValueStands}
use Rattle.gno_judging.proofs.Answers.{refuses}
use Rattle.gno_judging.proofs.Inversions.{by_constant, by_nil, by_typed, by_waiting}
use Rattle.gno_unary.proofs.OneOperand.{before_constant, before_nil, before_typed, before_waiting}
use Rattle.gno_type_classes.specs.Unnumbered.{unnumbered}
use Rattle.gno_typing.specs.Unary.{unary}
use Rattle.gno_unary.proofs.one_operand.unary.Goals as goal

pub returns-in-Constant : goal.returns-in-Constant
returns-in-Constant c y h =
    by_constant (λ y. IfOk c.of_constant.result (λ r. Answers (unary (unnumbered c.args.types.now) c.args.place c.args.operator y) (ValueStands c.args.types.now) c.args.faults.now c.of_constant.new.faults r)) c.args.types.now _ _ _ c.args.x y c.in-Constant.is h
    (λ s is. before_constant (λ J. IfOk c.of_constant.result (λ r. Answers J (ValueStands c.args.types.now) c.args.faults.now c.of_constant.new.faults r)) (unnumbered c.args.types.now) c.args.place c.args.operator _ s _ (c.of_constant.ensures s is))

pub returns-in-Nil : goal.returns-in-Nil
returns-in-Nil c y h =
    by_nil (λ y. Answers (unary (unnumbered c.args.types.now) c.args.place c.args.operator y) (ValueStands c.args.types.now) c.args.faults.now c.note.new.self None) c.args.types.now _ c.args.x y c.in-Nil.is h
    (before_nil (λ J. Answers J (ValueStands c.args.types.now) c.args.faults.now c.note.new.self None) (unnumbered c.args.types.now) c.args.place c.args.operator _ (refuses (ValueStands c.args.types.now) 46 c.args.place _ _ c.note.ensures))

pub returns-in-Typed : goal.returns-in-Typed
returns-in-Typed c y h =
    by_typed (λ y. IfOk c.of_typed.result (λ r. Answers (unary (unnumbered c.args.types.now) c.args.place c.args.operator y) (ValueStands c.args.types.now) c.args.faults.now c.of_typed.new.faults r)) c.args.types.now _ _ _ _ _ c.args.x y c.in-Typed.is h
    (λ s form is stands. before_typed (λ J. IfOk c.of_typed.result (λ r. Answers J (ValueStands c.args.types.now) c.args.faults.now c.of_typed.new.faults r)) (unnumbered c.args.types.now) c.args.place c.args.operator _ s _ _ form (c.of_typed.ensures s form is stands))

pub returns-in-Pending : goal.returns-in-Pending
returns-in-Pending c y h =
    by_waiting (λ y. IfOk c.of_waiting.result (λ r. Answers (unary (unnumbered c.args.types.now) c.args.place c.args.operator y) (ValueStands c.args.types.now) c.args.faults.now c.of_waiting.new.faults r)) c.args.types.now _ _ _ _ c.args.x y c.in-Pending.is h
    (λ form stands w. before_waiting (λ J. IfOk c.of_waiting.result (λ r. Answers J (ValueStands c.args.types.now) c.args.faults.now c.of_waiting.new.faults r)) (unnumbered c.args.types.now) c.args.place c.args.operator _ _ _ form (c.of_waiting.ensures c.args.types.now form stands w))
