use Rattle.std.proofs.Common.{sym, ◌∙◌, rules}
use Rattle.gno_judging.specs.Stands.{Stands}
use Rattle.gno_judging.proofs.Answers.{fails, gives, holds}
use Rattle.gno_shifts.proofs.shifts.typed_counted.Goals as goal

pub returns-in_ok-count : goal.returns-in_ok-count
returns-in_ok-count c s y is h = holds (Stands c.args.types.now) _ 46 c.args.place _ _ _ _ ((c.is_integer.ensures s is.is).0 c.if-is_integer.true) (gives (Stands c.args.types.now) _ _ _ (c.in_ok-count.ensures.stands c.args.types.now y h))

pub returns-else-is_integer : goal.returns-else-is_integer
returns-else-is_integer c s y is h = fails (Stands c.args.types.now) _ 46 c.args.place _ _ _ (λ p. search (rules, sym c.if-is_integer.false ∙ (c.is_integer.ensures s is.is).1 p)) c.note.ensures
