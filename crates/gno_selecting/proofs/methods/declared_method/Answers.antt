use Rattle.std.proofs.Common.{sym, ap, ◌∙◌}
use Rattle.gno_judging.specs.Stands.{ReceiverStands as receiver}
use Rattle.gno_selecting.specs.Members.{holder_with, method_found}
use Rattle.gno_selecting.proofs.Bound.{not_received, received}
use Rattle.gno_typed.specs.declared.step.ReceiverOf.TheVariants as r
use Rattle.gno_typing.specs.Selectors.{ends_in_pointer, reached}
use Rattle.gno_selecting.proofs.methods.declared_method.Goals as goal

pub returns-then-may_receive : goal.returns-then-may_receive
returns-then-may_receive c table s u w t y is own form = received table c.args.place s c.args.x.standing c.args.x.calls y (holder_with c.args.holder u) c.is_taken_as_place-as_place.result c.is_taken_as_place-as_place.ensures (method_found c.args.way w c.args.method t) _ _
    c.ends_in_pointer-ends.result (c.ends_in_pointer-ends.ensures ∙ ap (ends_in_pointer c.args.holder.pointer) c.as_slice.ensures) c.adjustment.result c.adjustment.ensures c.reached-standing.result (c.reached-standing.ensures ∙ ap (λ l. reached c.args.holder.pointer l c.args.x.standing) c.as_slice-2.ensures) (sym c.may_receive.ensures ∙ c.if-may_receive.true)
    (c.bound.ensures table u w t y (r.Declared w c.args.method.pointer c.adjustment.result) own form (receiver.declared c.args.method.pointer c.adjustment.result is))

pub returns-else-may_receive : goal.returns-else-may_receive
returns-else-may_receive c table s u w t y is own form = not_received table c.args.place s c.args.x.standing c.args.x.calls y (holder_with c.args.holder u) (method_found c.args.way w c.args.method t) _ _
    c.ends_in_pointer-ends.result (c.ends_in_pointer-ends.ensures ∙ ap (ends_in_pointer c.args.holder.pointer) c.as_slice.ensures) c.reached-standing.result (c.reached-standing.ensures ∙ ap (λ l. reached c.args.holder.pointer l c.args.x.standing) c.as_slice-2.ensures) (sym c.may_receive.ensures ∙ c.if-may_receive.false) c.note.ensures
