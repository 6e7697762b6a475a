use Rattle.std.proofs.Common.{None, Some, rules, sym, ◌∙◌}
use Rattle.gno_judging.proofs.Answers.{fails, gives, holds}
use Rattle.gno_judging.specs.Answers.{Answers}
use Rattle.gno_made_types.proofs.InterfaceRules.{embedded_field_by}
use Rattle.gno_made_types.specs.Parts.{FieldStands}
use Rattle.gno_tree_typing.specs.WrittenTypes.{starred}
use Rattle.gno_made_types.proofs.structs.embedded_field.Goals as goal

pub returns-in_ok-field-clause-answers : goal.returns-in_ok-field-clause-answers
returns-in_ok-field-clause-answers c s h =
    let later = c.starred.new.types in
    embedded_field_by c.args.types.now c.args.path.now c.args.place c.args.star c.args.name.now s (λ J. Answers J (FieldStands later) c.args.faults.now c.args.faults.now (Some c.in_ok-field.field))
    (holds (FieldStands later) _ 78 c.args.place _ _ _ _ ((c.may_be_embedded.ensures s h.is).0 c.if-may_be_embedded.true) (gives (FieldStands later) _ _ _ (c.in_ok-field.ensures later (starred c.args.star s) (c.in_ok-of.ensures.stands s h))))

pub returns-else-may_be_embedded-clause-answers : goal.returns-else-may_be_embedded-clause-answers
returns-else-may_be_embedded-clause-answers c s h =
    embedded_field_by c.args.types.now c.args.path.now c.args.place c.args.star c.args.name.now s (λ J. Answers J (FieldStands c.args.types.now) c.args.faults.now c.note.new.self None)
    (fails (FieldStands c.args.types.now) _ 78 c.args.place _ _ _ (λ p. search (rules, sym c.if-may_be_embedded.false ∙ (c.may_be_embedded.ensures s h.is).1 p)) c.note.ensures)
