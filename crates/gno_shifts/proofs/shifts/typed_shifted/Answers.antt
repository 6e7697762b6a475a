use Rattle.std.proofs.Common.{sym, ◌∙◌, rules}
use Rattle.gno_judging.specs.Found.{ValueStands}
use Rattle.gno_judging.proofs.Answers.{fails, gives, holds}
use Rattle.gno_typing.specs.Giving.{shifted_by}
use Rattle.gno_shifts.proofs.shifts.typed_shifted.Goals as goal

pub returns-in_ok-form : goal.returns-in_ok-form
returns-in_ok-form c s x y is h k = holds (ValueStands c.args.types.now) _ 46 c.args.place _ _ _ _ ((c.is_integer.ensures s is.is).0 c.if-is_integer.true)
    (gives (ValueStands c.args.types.now) _ _ _ (c.result_of.ensures c.args.types.now s (shifted_by s c.args.place c.args.operator x y) is (c.in_ok-form.ensures c.args.types.now s x y is.is h k)))

pub returns-else-is_integer : goal.returns-else-is_integer
returns-else-is_integer c s x y is h k = fails (ValueStands c.args.types.now) _ 46 c.args.place _ _ _ (λ p. search (rules, sym c.if-is_integer.false ∙ (c.is_integer.ensures s is.is).1 p)) c.note.ensures
