use Rattle.std.proofs.Common.{sym, ◌∙◌, rules}
use Rattle.gno_base.specs.declared.kind.Kind.TheVariants as k
use Rattle.gno_judging.specs.Stands.{Stands}
use Rattle.gno_judging.specs.Stands.{Stands as stands}
use Rattle.gno_judging.proofs.Answers.{fails, gives, holds}
use Rattle.gno_typing.specs.Classes.{basic}
use Rattle.gno_shifts.proofs.shifts.untyped_counted.Goals as goal

pub returns-then-is_representable : goal.returns-then-is_representable
returns-then-is_representable c table s place basics = holds (Stands c.args.types.now) _ 43 c.args.at _ _ _ _ ((c.is_representable.ensures (basic k.Uint) basics.uint).0 c.if-is_representable.true) (gives (Stands c.args.types.now) _ _ _ (stands.constant c.args.at c.args.value basics.uint))

pub returns-else-is_representable : goal.returns-else-is_representable
returns-else-is_representable c table s place basics = fails (Stands c.args.types.now) _ 43 c.args.at _ _ _ (λ p. search (rules, sym c.if-is_representable.false ∙ (c.is_representable.ensures (basic k.Uint) basics.uint).1 p)) c.note.ensures
