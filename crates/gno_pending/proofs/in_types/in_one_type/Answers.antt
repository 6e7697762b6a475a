use Rattle.std.proofs.Common.{sym, ◌∙◌, rules}
use Rattle.gno_giving.specs.InTypes.{InTypeStands}
use Rattle.gno_judging.proofs.Answers.{fails, gives, holds}
use Rattle.gno_pending.proofs.in_types.in_one_type.Goals as goal

pub returns-in_ok-both : goal.returns-in_ok-both
returns-in_ok-both c x y left right = holds (InTypeStands c.args.types.now) _ 47 c.args.pos _ _ _ _ ((c.identical.ensures x.of y.of left.of.is right.of.is).0 c.if-identical.true)
    (gives (InTypeStands c.args.types.now) _ _ _ (c.in_ok-both.ensures c.args.types.now x.of x y left.of left right))

pub returns-else-identical : goal.returns-else-identical
returns-else-identical c x y left right = fails (InTypeStands c.args.types.now) _ 47 c.args.pos _ _ _ (λ p. search (rules, sym c.if-identical.false ∙ (c.identical.ensures x.of y.of left.of.is right.of.is).1 p)) c.note.ensures
