use Rattle.std.proofs.Common.{sym, ◌∙◌, rules}
use Rattle.gno_giving.proofs.Defaults.{basic_is_typed, by_default}
use Rattle.gno_giving.specs.InTypes.{InTypeStands}
use Rattle.gno_judging.proofs.Answers.{fails, gives, holds}
use Rattle.gno_judging.specs.Found.{FormStands as form}
use Rattle.gno_judging.specs.Stands.{Stands as stands}
use Rattle.gno_giving.proofs.constants.default_constant.Goals as goal

pub returns-then-is_value : goal.returns-then-is_value
returns-then-is_value c table seen s basics default =
    let is = c.default_of-of.ensures table s basics default in
    by_default (InTypeStands table) seen c.args.at s c.args.value c.args.kind _ _ _ default
    (holds (InTypeStands table) _ 43 c.args.at _ _ _ _ (c.is_value.ensures.0 c.if-is_value.true) (gives (InTypeStands table) _ _ _ (record { of = record { is = is; typed = basic_is_typed c.args.kind }; form = form.whole (stands.constant c.args.at c.args.value is) })))

pub returns-else-is_value : goal.returns-else-is_value
returns-else-is_value c table seen s basics default = by_default (InTypeStands table) seen c.args.at s c.args.value c.args.kind _ _ _ default
    (fails (InTypeStands table) _ 43 c.args.at _ _ _ (λ p. search (rules, sym c.if-is_value.false ∙ c.is_value.ensures.1 p)) c.note.ensures)
