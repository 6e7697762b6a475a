use Rattle.std.proofs.Common.{sym, ◌∙◌, rules}
use Rattle.gno_judging.proofs.Answers.{fails, gives, holds}
use Rattle.gno_judging.specs.Found.{FormStands}
use Rattle.gno_judging.specs.Found.{FormStands as form}
use Rattle.gno_judging.specs.Stands.{Stands as stands}
use Rattle.gno_giving.proofs.constants.constant_in.Goals as goal

pub returns-then-not-fits : goal.returns-then-not-fits
returns-then-not-fits c u is = fails (FormStands c.args.types.now) _ c.args.code c.args.at _ _ _ (λ p. search (rules, sym c.if-not-fits.true ∙ (c.fits.ensures u is).1 p)) c.note.ensures

pub returns-then-is_representable : goal.returns-then-is_representable
returns-then-is_representable c u is = holds (FormStands c.args.types.now) _ c.args.code c.args.at _ _ _ _ ((c.fits.ensures u is).0 c.if-not-fits.false)
    (holds (FormStands c.args.types.now) _ 43 c.args.pos _ _ _ _ ((c.is_representable.ensures u is).0 c.if-is_representable.true) (gives (FormStands c.args.types.now) _ _ _ (form.whole (stands.constant c.args.pos c.args.value is))))

pub returns-else-is_representable : goal.returns-else-is_representable
returns-else-is_representable c u is = holds (FormStands c.args.types.now) _ c.args.code c.args.at _ _ _ _ ((c.fits.ensures u is).0 c.if-not-fits.false)
    (fails (FormStands c.args.types.now) _ 43 c.args.pos _ _ _ (λ p. search (rules, sym c.if-is_representable.false ∙ (c.is_representable.ensures u is).1 p)) c.note-else-is_representable.ensures)
