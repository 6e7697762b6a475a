use Rattle.std.proofs.Common.{sym, ◌∙◌, rules}
use Rattle.gno_judging.specs.Found.{ValueStands}
use Rattle.gno_judging.specs.Found.{ValueStands as value}
use Rattle.gno_judging.proofs.Answers.{fails, gives, holds}
use Rattle.gno_operations.proofs.constants.value_worked_out.Goals as goal

pub returns-then-may_be : goal.returns-then-may_be
returns-then-may_be c s is = holds (ValueStands c.args.types.now) _ 42 c.args.place _ _ _ _ c.is_narrow.ensures
    (holds (ValueStands c.args.types.now) _ 43 c.args.place _ _ _ _ ((c.may_be.ensures s is.is).0 c.if-may_be.true) (gives (ValueStands c.args.types.now) _ _ _ (value.constant c.args.place c.args.value is)))

pub returns-else-may_be : goal.returns-else-may_be
returns-else-may_be c s is = holds (ValueStands c.args.types.now) _ 42 c.args.place _ _ _ _ c.is_narrow.ensures
    (fails (ValueStands c.args.types.now) _ 43 c.args.place _ _ _ (λ p. search (rules, sym c.if-may_be.false ∙ (c.may_be.ensures s is.is).1 p)) c.note.ensures)
