use Rattle.std.proofs.Common.{None, Some}
use Rattle.std.specs.Prelude.{IfOk}
use Rattle.gno_giving.specs.InTypes.{InTypeStands}
use Rattle.gno_judging.proofs.Answers.{gives, refuses}
use Rattle.gno_judging.proofs.Inversions.{by_constant, by_nil, by_typed, by_waiting}
use Rattle.gno_judging.specs.Answers.{Answers}
use Rattle.gno_type_classes.specs.Unnumbered.{unnumbered}
use Rattle.gno_typing.specs.Operands.{settled}
use Rattle.gno_values.proofs.settling.settled.Goals as goal

pub returns-in-Constant : goal.returns-in-Constant
returns-in-Constant c y basics h =
    let table = c.args.types.now in
    by_constant (λ y. Answers (settled (unnumbered table) c.args.code c.args.place y) (InTypeStands table) c.args.faults.now c.settled_constant.new.faults c.settled_constant.result)
    table c.in-Constant.pos c.in-Constant.of c.in-Constant.value c.args.x y c.in-Constant.is h (λ s own. c.settled_constant.ensures s basics own)

pub returns-in-Nil : goal.returns-in-Nil
returns-in-Nil c y basics h =
    let table = c.args.types.now in
    by_nil (λ y. Answers (settled (unnumbered table) c.args.code c.args.place y) (InTypeStands table) c.args.faults.now c.note.new.self None)
    table c.in-Nil._pos c.args.x y c.in-Nil.is h (refuses (InTypeStands table) c.args.code c.args.place _ _ c.note.ensures)

pub returns-in-Typed : goal.returns-in-Typed
returns-in-Typed c y basics h =
    let table = c.args.types.now in
    by_typed (λ y. Answers (settled (unnumbered table) c.args.code c.args.place y) (InTypeStands table) c.args.faults.now c.args.faults.now (Some (record { of = c.in-Typed.of; form = c.in-Typed.form })))
    table c.in-Typed._pos c.in-Typed.of c.in-Typed._standing c.in-Typed._calls c.in-Typed.form c.args.x y c.in-Typed.is h (λ s form own stands. gives (InTypeStands table) _ _ _ (record { of = own; form = stands }))

pub returns-in-Pending : goal.returns-in-Pending
returns-in-Pending c y basics h =
    let table = c.args.types.now in
    by_waiting (λ y. IfOk c.defaulted.result (λ r. Answers (settled (unnumbered table) c.args.code c.args.place y) (InTypeStands table) c.args.faults.now c.defaulted.new.faults r))
    table c.in-Pending._pos c.in-Pending._waits c.in-Pending._calls c.in-Pending.form c.args.x y c.in-Pending.is h (λ form stands waiting. c.defaulted.ensures form basics stands waiting)
