use Rattle.std.proofs.Common.{◌≡◌, sym, ◌∙◌, subst, ℕ, List, get_or, Some, true, false, rules}
use Rattle.std.specs.Prelude.{slice_get}
use Rattle.gno_layouts.proofs.Known.{keeps_others}
use Rattle.gno_layouts.proofs.holders.keep_at.Goals as goal

false_true : false ≡ true → ⊥
false_true e = search (rules, e)

pub returns-clause-keeps : goal.returns-clause-keeps
returns-clause-keeps c =
    keeps_others c.args.rows.now c.args.held.now c.take_out.new.held (get_or c.args.held.now c.args.at 0) c.take_out.ensures.others
    (λ row h known. false_true (sym c.if-is_known_at.false ∙ c.is_known_at.ensures row (subst (λ (l : List ℕ). slice_get c.args.rows.now (get_or l c.args.at 0) ≡ Some row) (sym c.as_slice.ensures) h) known))
