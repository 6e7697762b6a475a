use Rattle.std.specs.Prelude.{IfOk}
use Rattle.gno_judging.proofs.Inversions.{by_constant, by_nil, by_typed, by_waiting}
use Rattle.gno_judging.specs.Answers.{Answers}
use Rattle.gno_judging.specs.Found.{FormStands}
use Rattle.gno_type_classes.specs.Unnumbered.{unnumbered}
use Rattle.gno_typing.specs.Giving.{given}
use Rattle.gno_values.proofs.places.given.Goals as goal

pub returns-in-Constant : goal.returns-in-Constant
returns-in-Constant c u y basics is h =
    by_constant (λ y. IfOk c.constant_of.result (λ r. Answers (given (unnumbered c.args.types.now) c.args.code c.args.at u y) (FormStands c.args.types.now) c.args.faults.now c.constant_of.new.faults r))
    c.args.types.now c.in-Constant.pos c.in-Constant.from c.in-Constant.value c.args.x y c.in-Constant.is h (λ s own. c.constant_of.ensures u s basics is own)

pub returns-in-Nil : goal.returns-in-Nil
returns-in-Nil c u y basics is h =
    by_nil (λ y. Answers (given (unnumbered c.args.types.now) c.args.code c.args.at u y) (FormStands c.args.types.now) c.args.faults.now c.nil_given.new.faults c.nil_given.result)
    c.args.types.now c.in-Nil.pos c.args.x y c.in-Nil.is h (c.nil_given.ensures u is)

pub returns-in-Typed : goal.returns-in-Typed
returns-in-Typed c u y basics is h =
    by_typed (λ y. IfOk c.typed_given.result (λ r. Answers (given (unnumbered c.args.types.now) c.args.code c.args.at u y) (FormStands c.args.types.now) c.args.faults.now c.typed_given.new.faults r))
    c.args.types.now c.in-Typed._pos c.in-Typed.from c.in-Typed._standing c.in-Typed._calls c.in-Typed.form c.args.x y c.in-Typed.is h (λ s form own stands. c.typed_given.ensures u s form is own.is stands)

pub returns-in-Pending : goal.returns-in-Pending
returns-in-Pending c u y basics is h =
    by_waiting (λ y. IfOk c.pending_given.result (λ r. Answers (given (unnumbered c.args.types.now) c.args.code c.args.at u y) (FormStands c.args.types.now) c.args.faults.now c.pending_given.new.faults r))
    c.args.types.now c.in-Pending._pos c.in-Pending.waits c.in-Pending._calls c.in-Pending.form c.args.x y c.in-Pending.is h (λ form stands waiting. c.pending_given.ensures u form basics is stands waiting)
