use Rattle.std.proofs.Common.{◌≡◌, refl, List, map, length}
use Rattle.gno_method_sets.proofs.Answered.{empty_set, ok_map, parts_below, set_is}
use Rattle.gno_method_sets.proofs.Receivers.{receiver_complete}
use Rattle.gno_promotion.specs.MethodSets.{IsMethodSet}
use Rattle.gno_terms.specs.Lawful.{Each}
use Rattle.gno_terms.specs.Tables.{Below, Is, type_at}
use Rattle.gno_terms.specs.Terms.{method_of, method_with}
use Rattle.gno_terms.specs.declared.term.GoType.{GoType}
use Rattle.gno_embedding.specs.Embedding.{base}
use Rattle.gno_method_sets.proofs.sets.method_set.Goals as goal

pub promoted-requires-clause-complete : goal.promoted-requires-clause-complete
promoted-requires-clause-complete c = receiver_complete c.args.types.now c.args.t c.in-Some.receiver.base c.in-Some.receiver.pointer c.requires.below c.in-Some.ensures.some c.requires.complete

pub returns-in-Some-clause-methods : goal.returns-in-Some-clause-methods
returns-in-Some-clause-methods c = ok_map _ (λ ms. (s : GoType) → Is c.args.types.now c.args.t s → IsMethodSet c.args.types.now s (map (method_with (type_at c.args.types.now.types)) ms)) c.received.result
    (λ ms e s is. let r = c.in-Some.ensures.some s is in
    set_is c.args.types.now s c.in-Some.receiver.base c.in-Some.receiver.pointer r c.promoted.result.now (c.promoted.ensures.selected (base s) r.base_is) ms e) c.received.ensures

pub returns-in-Some-clause-below : goal.returns-in-Some-clause-below
returns-in-Some-clause-below c = ok_map _ (λ ms. Each (Below (length c.args.types.now.types)) (map method_of ms)) c.received.result
    (λ ms e. parts_below (length c.args.types.now.types) c.in-Some.receiver.pointer c.promoted.result.now ms e c.promoted.ensures.below) c.received.ensures

pub returns-in-None-clause-methods : goal.returns-in-None-clause-methods
returns-in-None-clause-methods c s is = empty_set c.args.types.now s c.new.result c.new.ensures (c.in-None.ensures.none refl s is)
