use Rattle.std.proofs.Common.{subst, length, None}
use Rattle.gno_judging.specs.Found.{OperandStands}
use Rattle.gno_judging.proofs.Answers.{fails, holds}
use Rattle.gno_promotion.specs.MethodSets.{field, method}
use Rattle.gno_selecting.specs.Members.{holder_with}
use Rattle.gno_selecting.proofs.Alone.{missing_ambiguous, missing_field, missing_method, no_field_beside, no_rival}
use Rattle.gno_selecting.proofs.Selected.{holds_ok, no_field_ok, nothing}
use Rattle.gno_selecting.proofs.Unnumbering.{ambiguous_numbered, ambiguous_unnumbered, field_numbered, method_numbered}
use Rattle.gno_selectors.specs.Selectors.{IsAmbiguous, IsSelection, IsSelectionBelow, path_of}
use Rattle.gno_type_classes.specs.Unnumbered.{unnumbered}
use Rattle.gno_typing.specs.Selectors.{asked}
use Rattle.gno_selecting.proofs.members.chosen.Goals as goal

pub returns-in-Missing : goal.returns-in-Missing
returns-in-Missing c path name s u y is own below form =
    let none = subst (λ z. IsSelection c.args.types.now u name (asked path name) z) c.in-Missing.is own in
    holds (OperandStands c.args.types.now) (IsAmbiguous (unnumbered c.args.types.now) u name (asked path name) → ⊥) 53 c.args.place _ _ _ None (λ a. missing_ambiguous c.args.types.now u name (asked path name) none (ambiguous_numbered c.args.types.now u name (asked path name) a))
    (nothing (unnumbered c.args.types.now) c.args.types.now c.args.place path name s c.args.x.standing c.args.x.calls y (holder_with c.args.holder u) _ _ (λ x it. missing_field c.args.types.now u name (asked path name) none x (field_numbered c.args.types.now u name (asked path name) x it)) (λ x it. missing_method c.args.types.now u name (asked path name) none x (method_numbered c.args.types.now u name (asked path name) x it)) c.note.ensures)

pub returns-in-Ambiguous : goal.returns-in-Ambiguous
returns-in-Ambiguous c path name s u y is own below form =
    let two = subst (λ z. IsSelection c.args.types.now u name (asked path name) z) c.in-Ambiguous.is own in
    fails (OperandStands c.args.types.now) (IsAmbiguous (unnumbered c.args.types.now) u name (asked path name) → ⊥) 53 c.args.place _ _ _ (λ p. p (ambiguous_unnumbered c.args.types.now u name (asked path name) two)) c.note-in-Ambiguous.ensures

pub returns-in-Field : goal.returns-in-Field
returns-in-Field c path name s u y is own below form =
    let it = subst (λ z. IsSelection c.args.types.now u name (asked path name) z) c.in-Field.is own in
    let less = subst (λ z. IsSelectionBelow (length c.args.types.now.types) z) c.in-Field.is below in
    holds_ok (OperandStands c.args.types.now) (IsAmbiguous (unnumbered c.args.types.now) u name (asked path name) → ⊥) 53 c.args.place _ _ _ c.with_field.result (λ a. no_rival c.args.types.now u name (asked path name) (path_of c.in-Field.way) it.0.place _ it.0.selects (ambiguous_numbered c.args.types.now u name (asked path name) a))
    (c.with_field.ensures path name s u y c.args.faults.now it.0 it.1 less.1 form)

pub returns-in-Method : goal.returns-in-Method
returns-in-Method c path name s u y is own below form =
    let it = subst (λ z. IsSelection c.args.types.now u name (asked path name) z) c.in-Method.is own in
    let less = subst (λ z. IsSelectionBelow (length c.args.types.now.types) z) c.in-Method.is below in
    holds_ok (OperandStands c.args.types.now) (IsAmbiguous (unnumbered c.args.types.now) u name (asked path name) → ⊥) 53 c.args.place _ _ _ c.with_method.result (λ a. no_rival c.args.types.now u name (asked path name) (path_of c.in-Method.way) it.place _ it.selects (ambiguous_numbered c.args.types.now u name (asked path name) a))
    (no_field_ok (unnumbered c.args.types.now) c.args.types.now c.args.place path name s c.args.x.standing c.args.x.calls y (holder_with c.args.holder u) _ _ c.with_method.result (λ x f. no_field_beside c.args.types.now u name (asked path name) c.have_one_definition.ensures (path_of c.in-Method.way) it.place _ it.selects x (field_numbered c.args.types.now u name (asked path name) x f))
    (c.with_method.ensures path name s u y is it less.1 form))
