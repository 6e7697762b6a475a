use Rattle.std.proofs.lemmas.Fn.{always_returns_same}
use Rattle.gno_terms.specs.Normal.{by_name}
use Rattle.gno_method_sets.proofs.Names.{found, absent}
use Rattle.gno_method_sets.proofs.received.place.Goals as goal

pub returns-clause-found : goal.returns-clause-found
returns-clause-found c = found c.args.promoted.now c.requires c.args.wanted.now c.binary_search_by.result c.binary_search_by.ensures.bound
    (c.binary_search_by.ensures.position (λ p. by_name p.method c.args.wanted.now) (always_returns_same _ _ _ (λ a r g called. (called.met.1, λ i. record { 0 = called.met.0 i }))))

pub returns-clause-absent : goal.returns-clause-absent
returns-clause-absent c = absent c.args.promoted.now c.requires c.args.wanted.now c.binary_search_by.result c.binary_search_by.ensures.bound
    (c.binary_search_by.ensures.position (λ p. by_name p.method c.args.wanted.now) (always_returns_same _ _ _ (λ a r g called. (called.met.1, λ i. record { 0 = called.met.0 i }))))
