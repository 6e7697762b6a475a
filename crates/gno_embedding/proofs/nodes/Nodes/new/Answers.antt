use Rattle.std.proofs.Common.{◌≡◌, refl, sym, ap, ◌∙◌, subst, List, [], ◌∷◌, ◌++◌, false}
use Rattle.gno_embedding.specs.declared.ways.Reached.{Reached}
use Rattle.gno_embedding.specs.Nodes.{IsAt}
use Rattle.gno_embedding.proofs.Ends.{begun}
use Rattle.gno_embedding.proofs.Placed.{no_places}
use Rattle.gno_embedding.proofs.nodes.Nodes.new.Goals as goal

pub returns : goal.returns
returns c table s =
    let root : Reached = record { of = c.args.number; depth = 0; followed = false; twice = false; from = 0; place = 0; pointer = false } in
    let items : c.push.new.self.items ≡ root ∷ [] = c.in_ok-push.ensures.items ∙ ap (λ (xs : List Reached). xs ++ root ∷ []) c.new-items.ensures.items in
    subst (λ (xs : List Reached). IsAt table s xs c.new-places.result 0 0) (sym items) (record {
      places_are = no_places root c.new-places.result c.new-places.ensures.empty;
      walking = (s ∷ [], begun table s root refl refl refl);
    })
