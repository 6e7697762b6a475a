use Rattle.std.proofs.Common.{refl, sym, ◌∙◌, rules}
use Rattle.gno_judging.proofs.Answers.{fails, gives, holds}
use Rattle.gno_judging.specs.Found.{FormStands}
use Rattle.gno_judging.specs.Found.{FormStands as form}
use Rattle.gno_judging.specs.Stands.{Stands as stands}
use Rattle.gno_pending.proofs.Parts.{answers_by}
use Rattle.gno_typing.specs.Giving.{IsGiven as given}
use Rattle.gno_pending.proofs.forms.constant.Goals as goal

pub returns-then-is_representable : goal.returns-then-is_representable
returns-then-is_representable c u rune is = answers_by (FormStands c.args.types.now) _ _ _ _ _ (λ v judged. given.constant c.args.pos c.args.value rune refl judged)
    (holds (FormStands c.args.types.now) _ 43 c.args.pos _ _ _ _ ((c.is_representable.ensures u is).0 c.if-is_representable.true) (gives (FormStands c.args.types.now) _ _ _ (form.whole (stands.constant c.args.pos c.args.value is))))

pub returns-else-is_representable : goal.returns-else-is_representable
returns-else-is_representable c u rune is = answers_by (FormStands c.args.types.now) _ _ _ _ _ (λ v judged. given.constant c.args.pos c.args.value rune refl judged)
    (fails (FormStands c.args.types.now) _ 43 c.args.pos _ _ _ (λ p. search (rules, sym c.if-is_representable.false ∙ (c.is_representable.ensures u is).1 p)) c.note.ensures)
