use Rattle.std.proofs.Common.{◌≡◌, refl, sym, ap, ◌∙◌, subst, rules}
use Rattle.gno_judging.specs.Found.{PendingStands, ValueStands}
use Rattle.gno_judging.specs.Found.{PendingStands as pending, ValueStands as value}
use Rattle.gno_judging.specs.Waiting.{IsWaiting as waiting}
use Rattle.gno_judging.proofs.Answers.{fails, gives, holds}
use Rattle.gno_unary.proofs.one_operand.of_waiting.Goals as goal

pub returns-in_ok-operand : goal.returns-in_ok-operand
returns-in_ok-operand c table y h w = holds (ValueStands table) _ 46 c.args.place _ _ _ _ (sym c.takes_waiting.ensures ∙ c.if-takes_waiting.true)
    (gives (ValueStands table) _ _ _ (value.waiting c.args.place c.args.waits c.args.calls (pending.unary c.args.place c.args.operator refl refl (subst (λ x. PendingStands table x y) (sym c.in_ok-operand.ensures) h)) (waiting.unary c.args.place c.args.operator y refl w)))

pub returns-else-takes_waiting : goal.returns-else-takes_waiting
returns-else-takes_waiting c table y h w = fails (ValueStands table) _ 46 c.args.place _ _ _ (λ p. search (rules, sym c.if-takes_waiting.false ∙ c.takes_waiting.ensures ∙ p)) c.note.ensures
