use Rattle.std.proofs.Common.{sym, ◌∙◌, rules}
use Rattle.gno_judging.proofs.Answers.{fails, gives, holds}
use Rattle.gno_judging.specs.Found.{FormStands}
use Rattle.gno_giving.proofs.constants.held.Goals as goal

pub returns-in_ok-form : goal.returns-in_ok-form
returns-in_ok-form c u y is h = holds (FormStands c.args.types.now) _ c.args.code c.args.at _ _ _ _ ((c.has.ensures y.of u h.of.is is).0 c.if-has.true) (gives (FormStands c.args.types.now) _ _ _ (c.in_ok-form.ensures c.args.types.now u y.of y.form is h.of.is h.form))

pub returns-else-has : goal.returns-else-has
returns-else-has c u y is h = fails (FormStands c.args.types.now) _ c.args.code c.args.at _ _ _ (λ p. search (rules, sym c.if-has.false ∙ (c.has.ensures y.of u h.of.is is).1 p)) c.note.ensures
