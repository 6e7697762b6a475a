use Rattle.std.proofs.Common.{sym, ◌∙◌, rules}
use Rattle.gno_judging.proofs.Answers.{fails, gives, holds}
use Rattle.gno_judging.specs.Found.{TypeStands}
use Rattle.gno_made_types.proofs.sizes.small.Goals as goal

pub returns-then-is_small : goal.returns-then-is_small
returns-then-is_small c s h = holds (TypeStands c.args.types.now) _ 78 c.args.place _ _ _ _ ((c.is_small.ensures s h.is).0 c.if-is_small.true) (gives (TypeStands c.args.types.now) _ _ _ h)

pub returns-else-is_small : goal.returns-else-is_small
returns-else-is_small c s h = fails (TypeStands c.args.types.now) _ 78 c.args.place _ _ _ (λ p. search (rules, sym c.if-is_small.false ∙ (c.is_small.ensures s h.is).1 p)) c.note.ensures
