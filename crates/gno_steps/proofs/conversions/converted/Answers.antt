use Rattle.std.specs.Prelude.{IfOk}
use Rattle.gno_judging.proofs.Inversions.{by_constant, by_nil, by_typed, by_waiting}
use Rattle.gno_judging.specs.Answers.{Answers}
use Rattle.gno_judging.specs.Found.{ValueStands}
use Rattle.gno_terms.specs.declared.term.GoType.{GoType}
use Rattle.gno_type_classes.specs.Unnumbered.{unnumbered}
use Rattle.gno_typing.specs.Conversions.{converted}
use Rattle.gno_typing.specs.Giving.{in_type}
use Rattle.gno_typing.specs.declared.value.ValueOf.{ValueOf}
use Rattle.gno_steps.proofs.conversions.converted.Goals as goal

pub returns-in-Constant : goal.returns-in-Constant
returns-in-Constant c u y basics of h = by_constant (λ (y : ValueOf GoType). IfOk c.converted_constant.result (λ r. Answers (converted (unnumbered c.args.types.now) c.args.place u y) (ValueStands c.args.types.now) c.args.faults.now c.converted_constant.new.faults r)) c.args.types.now
    c.in-Constant.pos c.in-Constant.from c.in-Constant.value c.args.x y c.in-Constant.is h (λ s is. c.converted_constant.ensures u s basics of is)

pub returns-in-Nil : goal.returns-in-Nil
returns-in-Nil c u y basics of h = by_nil (λ (y : ValueOf GoType). IfOk c.converted_nil.result (λ r. Answers (converted (unnumbered c.args.types.now) c.args.place u y) (ValueStands c.args.types.now) c.args.faults.now c.converted_nil.new.faults r)) c.args.types.now
    c.in-Nil.pos c.args.x y c.in-Nil.is h (c.converted_nil.ensures u of)

pub returns-in-Typed : goal.returns-in-Typed
returns-in-Typed c u y basics of h = by_typed (λ (y : ValueOf GoType). IfOk c.converted_typed.result (λ r. Answers (converted (unnumbered c.args.types.now) c.args.place u y) (ValueStands c.args.types.now) c.args.faults.now c.converted_typed.new.faults r)) c.args.types.now
    c.in-Typed._pos c.in-Typed.from c.in-Typed._standing c.in-Typed.calls c.in-Typed.form c.args.x y c.in-Typed.is h (λ s b own form. c.converted_typed.ensures u (in_type s b) of (record { of = own; form = form }))

pub returns-in-Pending : goal.returns-in-Pending
returns-in-Pending c u y basics of h = by_waiting (λ (y : ValueOf GoType). IfOk c.converted_pending.result (λ r. Answers (converted (unnumbered c.args.types.now) c.args.place u y) (ValueStands c.args.types.now) c.args.faults.now c.converted_pending.new.faults r)) c.args.types.now
    c.in-Pending._pos c.in-Pending.waits c.in-Pending.calls c.in-Pending.form c.args.x y c.in-Pending.is h (λ b form w. c.converted_pending.ensures u b c.in-Pending._pos basics of form w)
