use Rattle.std.proofs.Common.{None}
use Rattle.std.specs.Prelude.{IfOk}
use Rattle.gno_judging.specs.Answers.{Answers}
use Rattle.gno_judging.specs.Stands.{Stands}
use Rattle.gno_judging.proofs.Answers.{refuses}
use Rattle.gno_judging.proofs.Inversions.{by_constant, by_nil, by_typed, by_waiting}
use Rattle.gno_type_classes.specs.Unnumbered.{unnumbered}
use Rattle.gno_typing.specs.Binary.{counted}
use Rattle.gno_shifts.proofs.shifts.counted.Goals as goal

pub returns-in-Constant : goal.returns-in-Constant
returns-in-Constant c y basics h = by_constant (λ y. Answers (counted (unnumbered c.args.types.now) c.args.place y) (Stands c.args.types.now) c.args.faults.now c.constant_counted.new.faults c.constant_counted.result) c.args.types.now _ _ _ c.args.x y c.in-Constant.is h (λ s is. c.constant_counted.ensures s basics is)

pub returns-in-Nil : goal.returns-in-Nil
returns-in-Nil c y basics h = by_nil (λ y. Answers (counted (unnumbered c.args.types.now) c.args.place y) (Stands c.args.types.now) c.args.faults.now c.note.new.self None) c.args.types.now _ c.args.x y c.in-Nil.is h (refuses (Stands c.args.types.now) 46 c.args.place _ _ c.note.ensures)

pub returns-in-Typed : goal.returns-in-Typed
returns-in-Typed c y basics h = by_typed (λ y. IfOk c.typed_counted.result (λ r. Answers (counted (unnumbered c.args.types.now) c.args.place y) (Stands c.args.types.now) c.args.faults.now c.typed_counted.new.faults r)) c.args.types.now _ _ _ _ _ c.args.x y c.in-Typed.is h (λ s form is stands. c.typed_counted.ensures s form is stands)

pub returns-in-Pending : goal.returns-in-Pending
returns-in-Pending c y basics h = by_waiting (λ y. IfOk c.waiting_counted.result (λ r. Answers (counted (unnumbered c.args.types.now) c.args.place y) (Stands c.args.types.now) c.args.faults.now c.waiting_counted.new.faults r)) c.args.types.now _ _ _ _ c.args.x y c.in-Pending.is h (λ form stands w. c.waiting_counted.ensures form basics stands)
