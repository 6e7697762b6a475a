use Rattle.std.proofs.Common.{sym, ◌∙◌, rules}
use Rattle.gno_judging.proofs.Answers.{fails, gives, holds, is_not_so, is_so}
use Rattle.gno_judging.specs.Found.{FormStands}
use Rattle.gno_giving.proofs.places.typed_given.Goals as goal

pub returns-in_ok-form : goal.returns-in_ok-form
returns-in_ok-form c u s y is from h = holds (FormStands c.args.types.now) _ c.args.code c.args.at _ _ _ _ ((c.takes.ensures u s is from).0 c.if-takes.true) (is_so (FormStands c.args.types.now) _ _ _ _ _ _ ((c.is_boxed.ensures s u from is).0 c.if-is_boxed.true) (gives (FormStands c.args.types.now) _ _ _ (c.in_ok-form.ensures c.args.types.now u s y is from h)))

pub returns-else-is_boxed : goal.returns-else-is_boxed
returns-else-is_boxed c u s y is from h = holds (FormStands c.args.types.now) _ c.args.code c.args.at _ _ _ _ ((c.takes.ensures u s is from).0 c.if-takes.true) (is_not_so (FormStands c.args.types.now) _ _ _ _ _ _ (λ p. search (rules, sym c.if-is_boxed.false ∙ (c.is_boxed.ensures s u from is).1 p)) (gives (FormStands c.args.types.now) _ _ _ h))

pub returns-else-takes : goal.returns-else-takes
returns-else-takes c u s y is from h = fails (FormStands c.args.types.now) _ c.args.code c.args.at _ _ _ (λ p. search (rules, sym c.if-takes.false ∙ (c.takes.ensures u s is from).1 p)) c.note.ensures
