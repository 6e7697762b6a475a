use Rattle.std.proofs.Common.{◌≡◌, refl}
use Rattle.gno_judging.proofs.Inversions.{by_constant, by_nil, by_typed, by_waiting}
use Rattle.gno_terms.specs.declared.term.GoType.{GoType}
use Rattle.gno_typing.specs.Binary.{pos_in}
use Rattle.gno_typing.specs.declared.value.ValueOf.{ValueOf}
use Rattle.gno_seen.proofs.values.pos_in.Goals as goal

pub returns-in-Constant : goal.returns-in-Constant
returns-in-Constant c table y is = by_constant (λ (y : ValueOf GoType). c.in-Constant.pos ≡ pos_in y) table c.in-Constant.pos c.in-Constant.of c.in-Constant.value c.args.x.now y c.in-Constant.is is (λ s is. refl)

pub returns-in-Nil : goal.returns-in-Nil
returns-in-Nil c table y is = by_nil (λ (y : ValueOf GoType). c.in-Nil.pos ≡ pos_in y) table c.in-Nil.pos c.args.x.now y c.in-Nil.is is refl

pub returns-in-Typed : goal.returns-in-Typed
returns-in-Typed c table y is = by_typed (λ (y : ValueOf GoType). c.in-Typed.pos ≡ pos_in y) table c.in-Typed.pos c.in-Typed.of c.in-Typed.standing c.in-Typed.calls c.in-Typed.form c.args.x.now y c.in-Typed.is is (λ s b own form. refl)

pub returns-in-Pending : goal.returns-in-Pending
returns-in-Pending c table y is = by_waiting (λ (y : ValueOf GoType). c.in-Pending.pos ≡ pos_in y) table c.in-Pending.pos c.in-Pending.waits c.in-Pending.calls c.in-Pending.form c.args.x.now y c.in-Pending.is is (λ b form w. refl)
