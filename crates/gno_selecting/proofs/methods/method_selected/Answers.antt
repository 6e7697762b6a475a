use Rattle.std.proofs.Common.{sym, ◌∙◌, rules}
use Rattle.gno_judging.specs.Found.{OperandStands}
use Rattle.gno_judging.specs.Stands.{ReceiverStands as receiver}
use Rattle.gno_judging.proofs.Answers.{gives, is_not_so, is_so}
use Rattle.gno_selecting.specs.Members.{holder_with, method_found}
use Rattle.gno_selecting.proofs.Bound.{as_it_stands}
use Rattle.gno_type_classes.specs.Unnumbered.{unnumbered}
use Rattle.gno_typed.specs.declared.step.ReceiverOf.TheVariants as r
use Rattle.gno_typing.specs.Classes.{IsInterface}
use Rattle.gno_selecting.proofs.methods.method_selected.Goals as goal

pub returns-then-is_interface-2 : goal.returns-then-is_interface-2
returns-then-is_interface-2 c s u w t y is own typed form = is_so (OperandStands c.args.types.now) (IsInterface (unnumbered c.args.types.now) w) _ _ _ _ _ ((c.is_interface.ensures w own).0 c.if-is_interface.true)
    (is_so (OperandStands c.args.types.now) (IsInterface (unnumbered c.args.types.now) s) _ _ _ _ _ ((c.is_interface-then-is_interface.ensures s is).0 c.if-is_interface-2.true) (gives (OperandStands c.args.types.now) _ _ _ (c.bound.ensures c.args.types.now u w t y r.Held typed form receiver.held)))

pub returns-else-is_interface-2 : goal.returns-else-is_interface-2
returns-else-is_interface-2 c s u w t y is own typed form = is_so (OperandStands c.args.types.now) (IsInterface (unnumbered c.args.types.now) w) _ _ _ _ _ ((c.is_interface.ensures w own).0 c.if-is_interface.true)
    (is_not_so (OperandStands c.args.types.now) (IsInterface (unnumbered c.args.types.now) s) _ _ _ _ _ (λ p. search (rules, sym c.if-is_interface-2.false ∙ (c.is_interface-then-is_interface.ensures s is).1 p)) (gives (OperandStands c.args.types.now) _ _ _
    (as_it_stands c.args.types.now c.args.place s c.args.x.standing c.args.x.calls y (holder_with c.args.holder u) c.is_taken_as_place-as_place.result c.is_taken_as_place-as_place.ensures (method_found c.args.way w c.args.method t) _ r.Held (c.bound-else-is_interface-2.ensures c.args.types.now u w t y r.Held typed form receiver.held))))

pub returns-else-is_interface : goal.returns-else-is_interface
returns-else-is_interface c s u w t y is own typed form = is_not_so (OperandStands c.args.types.now) (IsInterface (unnumbered c.args.types.now) w) _ _ _ _ _ (λ p. search (rules, sym c.if-is_interface.false ∙ (c.is_interface.ensures w own).1 p)) (c.declared_method.ensures c.args.types.now s u w t y own typed form)
