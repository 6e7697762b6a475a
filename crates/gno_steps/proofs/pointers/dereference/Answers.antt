use Rattle.std.proofs.Common.{refl, Some}
use Rattle.std.specs.Prelude.{IfOk}
use Rattle.gno_judging.proofs.Answers.{gives}
use Rattle.gno_judging.specs.Answers.{Answers}
use Rattle.gno_judging.specs.Found.{OperandStands}
use Rattle.gno_judging.specs.Found.{OperandStands as operand}
use Rattle.gno_steps.proofs.PointerRules.{dereference_other, dereference_type}
use Rattle.gno_type_classes.specs.Unnumbered.{unnumbered}
use Rattle.gno_typing.specs.declared.operand.OperandOf.TheVariants as o
use Rattle.gno_steps.proofs.pointers.dereference.Goals as goal

pub returns-in_ok-of-in-Type-clause-answers : goal.returns-in_ok-of-in-Type-clause-answers
returns-in_ok-of-in-Type-clause-answers c y h =
    let later = c.pointer_to.new.types in
    dereference_type (λ J. Answers J (OperandStands later) c.args.faults.now c.args.faults.now (Some (o.Type c.args.place c.in_ok-of-in-Type.of))) c.args.place (unnumbered c.args.types.now) c.args.types.now c.in-Type._pos c.in-Type.of c.args.x y c.in-Type.is h
    (λ s own. gives (OperandStands later) _ _ _ (operand.type c.args.place (c.in_ok-of-in-Type.ensures.stands s own)))

pub returns-in_default : goal.returns-in_default
returns-in_default c = record {
  answers = λ y h. dereference_other (λ J. IfOk c.pointed_operand.result (λ r. Answers J (OperandStands c.args.types.now) c.args.faults.now c.pointed_operand.new.faults r)) c.args.place (unnumbered c.args.types.now) c.args.types.now c.args.x y h c.in_default.not-Type (c.pointed_operand.ensures y h);
  grows = λ r s h. h;
  definitions = refl;
}
