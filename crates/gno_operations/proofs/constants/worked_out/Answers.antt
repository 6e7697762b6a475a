use Rattle.std.proofs.Common.{subst}
use Rattle.gno_constants.specs.Exact.Exact.{NoQuotient, NoShift, NotDefined, Value}
use Rattle.gno_judging.specs.Found.{ValueStands}
use Rattle.gno_judging.proofs.Answers.{refuses}
use Rattle.gno_operations.specs.Folding.{WorksOut}
use Rattle.gno_operations.proofs.Working.{it_is, too_wide}
use Rattle.gno_type_classes.specs.Unnumbered.{unnumbered}
use Rattle.gno_operations.proofs.constants.worked_out.Goals as goal

pub returns-in-Value : goal.returns-in-Value
returns-in-Value c s e is h = it_is (ValueStands c.args.types.now) (unnumbered c.args.types.now) c.args.place s _ _ e (Value c.in-Value.value) (subst (λ x. WorksOut x e) c.in-Value.is h) _ (c.value_worked_out.ensures s is)

pub returns-in-TooWide : goal.returns-in-TooWide
returns-in-TooWide c s e is h = too_wide (ValueStands c.args.types.now) (unnumbered c.args.types.now) c.args.place s _ _ e (subst (λ x. WorksOut x e) c.in-TooWide.is h) c.note.ensures

pub returns-in-NoQuotient : goal.returns-in-NoQuotient
returns-in-NoQuotient c s e is h = it_is (ValueStands c.args.types.now) (unnumbered c.args.types.now) c.args.place s _ _ e NoQuotient (subst (λ x. WorksOut x e) c.in-NoQuotient.is h) _ (refuses (ValueStands c.args.types.now) 44 c.args.place _ _ c.note-in-NoQuotient.ensures)

pub returns-in-NoShift : goal.returns-in-NoShift
returns-in-NoShift c s e is h = it_is (ValueStands c.args.types.now) (unnumbered c.args.types.now) c.args.place s _ _ e NoShift (subst (λ x. WorksOut x e) c.in-NoShift.is h) _ (refuses (ValueStands c.args.types.now) 45 c.args.place _ _ c.note-in-NoShift.ensures)

pub returns-in-NotDefined : goal.returns-in-NotDefined
returns-in-NotDefined c s e is h = it_is (ValueStands c.args.types.now) (unnumbered c.args.types.now) c.args.place s _ _ e NotDefined (subst (λ x. WorksOut x e) c.in-NotDefined.is h) _ (refuses (ValueStands c.args.types.now) 46 c.args.place _ _ c.note-in-NotDefined.ensures)
