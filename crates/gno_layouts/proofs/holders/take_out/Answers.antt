use Rattle.std.proofs.Common.{◌≡◌, sym, subst, ℕ, List, [], ◌∷◌, ◌++◌}
use Rattle.std.specs.Prelude.{◌⊎◌, slice_index}
use Rattle.gno_layouts.specs.Settling.{In}
use Rattle.gno_layouts.proofs.holders.take_out.Goals as goal

pub returns-in-Some-clause-others : goal.returns-in-Some-clause-others
returns-in-Some-clause-others c n i =
    let e : c.args.held.now ≡ c.pop.new.self ++ c.in-Some.last ∷ [] = c.in-Some.ensures in
    subst (λ (ms : List ℕ). (n ≡ slice_index ms c.args.at) ⊎ In n c.put.new.held) (sym e) (c.put.ensures.others n (subst (In n) e i))
