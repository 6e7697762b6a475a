use Rattle.std.proofs.Common.{sym, ◌∙◌, rules}
use Rattle.gno_judging.specs.Found.{ValueStands}
use Rattle.gno_judging.proofs.Answers.{fails, holds}
use Rattle.gno_shifts.proofs.shifts.by_value.Goals as goal

pub returns-in_ok-x : goal.returns-in_ok-x
returns-in_ok-x c s y is stands = holds (ValueStands c.args.types.now) _ 46 c.args.place _ _ _ _ ((c.is_integer.ensures s is.is).0 c.if-is_integer.true) (c.in_ok-x.ensures c.args.faults.now s y is stands)

pub returns-else-is_integer : goal.returns-else-is_integer
returns-else-is_integer c s y is stands = fails (ValueStands c.args.types.now) _ 46 c.args.place _ _ _ (λ p. search (rules, sym c.if-is_integer.false ∙ (c.is_integer.ensures s is.is).1 p)) c.note.ensures
