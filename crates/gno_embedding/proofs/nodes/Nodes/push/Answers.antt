use Rattle.std.proofs.Common.{sym, ◌∙◌, subst, List}
use Rattle.gno_embedding.specs.declared.ways.Reached.{Reached}
use Rattle.gno_embedding.specs.Nodes.{ArePlaces}
use Rattle.gno_embedding.proofs.Placed.{placed}
use Rattle.gno_embedding.proofs.nodes.Nodes.push.Goals as goal

pub returns-clause-places : goal.returns-clause-places
returns-clause-places c = subst (λ (xs : List Reached). ArePlaces xs c.insert.new.self) (sym c.in_ok-push.ensures.items)
    (placed c.args.self.now.items.items c.args.self.now.places c.insert.new.self c.requires.places c.args.way c.requires.first c.requires.new c.len-place.result (c.len-place.ensures ∙ c.args.self.now.items.ok.0) c.in-Ok.ensures.updates)
