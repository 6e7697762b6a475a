use Rattle.std.proofs.Common.{◌≡◌, refl}
use Rattle.gno_embedding.specs.Embedding.{base}
use Rattle.gno_method_sets.proofs.Answered.{ascends, has_it, none_of}
use Rattle.gno_method_sets.proofs.Receivers.{receiver_complete}
use Rattle.gno_method_sets.proofs.Rows.{there}
use Rattle.gno_terms.specs.Tables.{type_at}
use Rattle.gno_terms.specs.Terms.{method_with}
use Rattle.gno_method_sets.proofs.sets.has_method.Goals as goal

pub promoted-requires-clause-complete : goal.promoted-requires-clause-complete
promoted-requires-clause-complete c = receiver_complete c.args.types.now c.args.t c.in-Some.receiver.base c.in-Some.receiver.pointer c.requires.below c.in-Some.ensures.some c.requires.complete

pub has_like-requires : goal.has_like-requires
has_like-requires c =
    let r = c.in-Some.ensures.some (type_at c.args.types.now.types c.args.t) (there c.args.types.now c.args.t c.requires.below) in
    ascends (type_at c.args.types.now.types) c.promoted.result.now (c.promoted.ensures.selected (base (type_at c.args.types.now.types c.args.t)) r.base_is).order

pub returns-in-Some : goal.returns-in-Some
returns-in-Some c s is =
    let r = c.in-Some.ensures.some s is in
    has_it c.args.types.now s c.in-Some.receiver.base c.in-Some.receiver.pointer r c.promoted.result.now (c.promoted.ensures.selected (base s) r.base_is) c.args.wanted.now c.has_like.result
    c.have_one_number.ensures c.types_are_lawful.ensures.normal c.promoted.ensures.below c.requires.wanted c.has_like.ensures

pub returns-in-None : goal.returns-in-None
returns-in-None c s is = none_of c.args.types.now s (method_with (type_at c.args.types.now.types) c.args.wanted.now) (c.in-None.ensures.none refl s is)
