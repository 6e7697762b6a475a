use Rattle.std.proofs.Common.{sym, ◌∙◌, subst, rules, [], ◌≡◌, List, ℕ}
use Rattle.gno_method_sets.proofs.Answered.{ok_map}
use Rattle.gno_selecting.proofs.Asked.{asked_by_each, asked_by_own}
use Rattle.gno_selectors.specs.Selectors.{IsSelection}
use Rattle.gno_selecting.proofs.searching.find.Goals as goal

pub returns-then-is_exported-clause-selection : goal.returns-then-is_exported-clause-selection
returns-then-is_exported-clause-selection c = let nothing : c.as_slice.result.now ≡ [] = search rules in ok_map _ _ c.select.result (λ it h s is. subst (λ (p : List ℕ). IsSelection c.args.types.now s c.args.name.now p it) (nothing ∙ asked_by_each c.args.path.now c.args.name.now (sym c.is_exported.ensures ∙ c.if-is_exported.true)) (h s is)) c.select.ensures.selection

pub returns-else-is_exported-clause-selection : goal.returns-else-is_exported-clause-selection
returns-else-is_exported-clause-selection c = ok_map _ _ c.select-else-is_exported.result (λ it h s is. subst (λ (p : List ℕ). IsSelection c.args.types.now s c.args.name.now p it) (asked_by_own c.args.path.now c.args.name.now (sym c.is_exported.ensures ∙ c.if-is_exported.false)) (h s is)) c.select-else-is_exported.ensures.selection
