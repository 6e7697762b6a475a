use Rattle.std.proofs.Common.{sym, ◌∙◌, rules}
use Rattle.gno_embedding.specs.Embedding.{IsComplete}
use Rattle.gno_judging.specs.Found.{OperandStands}
use Rattle.gno_judging.proofs.Answers.{fails}
use Rattle.gno_selecting.proofs.Selected.{holds_ok}
use Rattle.gno_selecting.proofs.Unnumbering.{complete_numbered, complete_unnumbered}
use Rattle.gno_type_classes.specs.Unnumbered.{unnumbered}
use Rattle.gno_selecting.proofs.members.selected_of.Goals as goal

pub returns-then-is_complete : goal.returns-then-is_complete
returns-then-is_complete c s u y is own form = holds_ok (OperandStands c.args.types.now) (IsComplete (unnumbered c.args.types.now) u) 52 c.args.place _ c.args.faults.now c.found_in.new.faults c.found_in.result (complete_unnumbered c.args.types.now u ((c.is_complete.ensures.is u own).0 c.if-is_complete.true))
    (c.found_in.ensures s u y is own form)

pub returns-else-is_complete : goal.returns-else-is_complete
returns-else-is_complete c s u y is own form = fails (OperandStands c.args.types.now) (IsComplete (unnumbered c.args.types.now) u) 52 c.args.place _ _ _ (λ p. search (rules, sym c.if-is_complete.false ∙ (c.is_complete.ensures.is u own).1 (complete_numbered c.args.types.now u p))) c.note.ensures
