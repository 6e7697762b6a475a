use Rattle.std.proofs.Common.{sym, subst}
use Rattle.gno_giving.specs.InTypes.{InTypeStands}
use Rattle.gno_judging.specs.Answers.{Answers}
use Rattle.gno_pending.proofs.DefaultPairs.{constant_right, neither, right_other}
use Rattle.gno_pending.proofs.PendingForms.{constant_stands}
use Rattle.gno_type_classes.specs.Unnumbered.{unnumbered}
use Rattle.gno_typing.specs.Giving.{IsBeside}
use Rattle.gno_pending.proofs.defaults.right_defaulted.Goals as goal

pub returns-in-Constant : goal.returns-in-Constant
returns-in-Constant c l r first basics left right waits =
    let table = c.args.types.now in
    let is = constant_stands table c.in-Constant.pos c.in-Constant.value c.in-Constant.rune c.in-Constant.is right in
    constant_right table l r first c.args.left c.beside-right.result c.in-Constant.pos c.in-Constant.value c.in-Constant.rune c.args.faults.now c.beside-right.new.faults is left
    (λ y k. subst (λ x. Answers (IsBeside (unnumbered table) x y) (InTypeStands table) c.args.faults.now c.beside-right.new.faults c.beside-right.result) (sym is) (c.beside-right.ensures c.in-Constant.rune y k))

pub returns-in-Ok : goal.returns-in-Ok
returns-in-Ok c l r first basics left right waits = neither c.args.types.now l r first c.args.left c.in-Ok.right c.args.faults.now c.defaulted.new.faults left (c.in-Ok.ensures r basics right (right_other c.args.types.now right c.in_default.not-Constant waits))
