use Rattle.std.proofs.Common.{◌≡◌, sym, ap, subst, length, rules}
use Rattle.gno_method_sets.proofs.Receivers.{of_below, of_known, points_to_interface, receives_itself, receives_pointer}
use Rattle.gno_method_sets.proofs.Rows.{some_map}
use Rattle.gno_method_sets.specs.Receiving.{IsReceiver}
use Rattle.gno_method_sets.specs.declared.receiver.Receiver.{Receiver}
use Rattle.gno_terms.specs.Tables.{Below, Is}
use Rattle.gno_terms.specs.declared.term.GoType.{GoType}
use Rattle.gno_terms.specs.declared.term.TypeRef.{TypeRef}
use Rattle.gno_method_sets.proofs.receiver.receiver_of.Goals as goal

pub pointed-requires-clause-known : goal.pointed-requires-clause-known
pointed-requires-clause-known c = of_known c.args.types.now c.args.t c.term.result.now c.term.ensures.is c.in-Pointer.of c.in-Pointer.is c.term.ensures.parts c.requires.below c.requires.complete

pub returns-in-Pointer : goal.returns-in-Pointer
returns-in-Pointer c = record {
  below = some_map _ (λ (it : Receiver). Below (length c.args.types.now.types) it.base) c.pointed.result
      (λ it p. subst (Below (length c.args.types.now.types)) (sym (ap (λ (i : Receiver). i.base) p.0)) (of_below c.args.types.now c.args.t c.term.result.now c.term.ensures.is c.in-Pointer.of c.in-Pointer.is c.term.ensures.parts)) c.pointed.ensures.some;
  some = some_map _ (λ (it : Receiver). (s : GoType) → Is c.args.types.now c.args.t s → IsReceiver c.args.types.now s it.base it.pointer) c.pointed.result
      (λ it p. receives_pointer c.args.types.now c.args.t c.term.result.now c.term.ensures.is c.in-Pointer.of c.in-Pointer.is c.term.ensures.parts it p.0 p.1) c.pointed.ensures.some;
  none = λ e. points_to_interface c.args.types.now c.args.t c.term.result.now c.term.ensures.is c.in-Pointer.of c.in-Pointer.is c.term.ensures.parts (c.pointed.ensures.none e);
}

pub returns-in_default : goal.returns-in_default
returns-in_default c = record {
  below = c.requires.below;
  some = receives_itself c.args.types.now c.args.t c.term.result.now c.term.ensures.is c.in_default.not-Pointer;
  none = λ e. absurd (search (rules, e));
}
