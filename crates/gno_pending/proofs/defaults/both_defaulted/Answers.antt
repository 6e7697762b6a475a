use Rattle.std.proofs.Common.{sym, subst}
use Rattle.gno_giving.specs.InTypes.{InTypeStands}
use Rattle.gno_judging.specs.Answers.{Answers}
use Rattle.gno_pending.proofs.DefaultPairs.{constant_left, left_other, right_waits}
use Rattle.gno_pending.proofs.PendingForms.{constant_stands}
use Rattle.gno_type_classes.specs.Unnumbered.{unnumbered}
use Rattle.gno_typing.specs.Giving.{IsBeside}
use Rattle.gno_pending.proofs.defaults.both_defaulted.Goals as goal

pub returns-in_ok-right-in-Constant : goal.returns-in_ok-right-in-Constant
returns-in_ok-right-in-Constant c l r basics left right waits =
    let table = c.args.types.now in
    let is = constant_stands table c.in-Constant.pos c.in-Constant.value c.in-Constant.rune c.in-Constant.is left in
    constant_left table l r c.args.faults.now c.beside-left.result c.in_ok-right-in-Constant.right c.in-Constant.pos c.in-Constant.value c.in-Constant.rune c.new-later.result c.defaulted.new.faults c.beside-left.new.faults c.note_all.new.self is c.new-later.ensures
    (c.in_ok-right-in-Constant.ensures r basics right (right_waits c.in-Constant.pos c.in-Constant.value c.in-Constant.rune is waits))
    (λ y k. subst (λ x. Answers (IsBeside (unnumbered table) x y) (InTypeStands table) c.args.faults.now c.beside-left.new.faults c.beside-left.result) (sym is) (c.beside-left.ensures c.in-Constant.rune y k))
    c.note_all.ensures

pub returns-in-Ok : goal.returns-in-Ok
returns-in-Ok c l r basics left right waits = c.right_defaulted.ensures l r c.args.faults.now basics (c.in-Ok.ensures l basics left (left_other c.args.types.now left c.in_default.not-Constant waits)) right waits
