use Rattle.std.proofs.Common.{sym, ◌∙◌, rules}
use Rattle.gno_judging.proofs.Answers.{fails, gives, holds}
use Rattle.gno_judging.specs.Found.{FormStands}
use Rattle.gno_judging.specs.Found.{FormStands as form}
use Rattle.gno_judging.specs.Stands.{Stands as stands}
use Rattle.gno_values.proofs.places.nil_given.Goals as goal

pub returns-then-has_nil : goal.returns-then-has_nil
returns-then-has_nil c u is = holds (FormStands c.args.types.now) _ c.args.code c.args.at _ _ _ _ ((c.has_nil.ensures u is).0 c.if-has_nil.true) (gives (FormStands c.args.types.now) _ _ _ (form.whole (stands.nil c.args.pos is)))

pub returns-else-has_nil : goal.returns-else-has_nil
returns-else-has_nil c u is = fails (FormStands c.args.types.now) _ c.args.code c.args.at _ _ _ (λ p. search (rules, sym c.if-has_nil.false ∙ (c.has_nil.ensures u is).1 p)) c.note.ensures
