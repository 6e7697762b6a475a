use Rattle.std.proofs.Common.{sym, subst}
use Rattle.std.specs.Prelude.{IfOk}
use Rattle.gno_judging.specs.Found.{FormStands}
use Rattle.gno_operations.proofs.Joining.{both_taken}
use Rattle.gno_typing.specs.Giving.{joined_by}
use Rattle.gno_operations.proofs.growing.with_right.Goals as goal

pub returns-in-BothTrue : goal.returns-in-BothTrue
returns-in-BothTrue c table u x y is left right = subst (λ operator. IfOk c.with_truth.result (λ r. FormStands table r (joined_by u c.args.pos operator x y))) (sym c.in-BothTrue.is) (c.with_truth.ensures table u x _ is left right)

pub returns-in-OneTrue : goal.returns-in-OneTrue
returns-in-OneTrue c table u x y is left right = subst (λ operator. IfOk c.with_truth-in-OneTrue.result (λ r. FormStands table r (joined_by u c.args.pos operator x y))) (sym c.in-OneTrue.is) (c.with_truth-in-OneTrue.ensures table u x _ is left right)

pub returns-in_default : goal.returns-in_default
returns-in_default c table u x y is left right = subst (λ z. IfOk c.with_operand.result (λ r. FormStands table r z)) (sym (both_taken u c.args.pos c.args.operator x y c.in_default.not-BothTrue c.in_default.not-OneTrue))
    (c.with_operand.ensures table u x _ is left right)
