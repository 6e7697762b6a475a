use Rattle.std.proofs.Common.{◌≡◌, sym, ◌∙◌, subst, ℕ, ◌<◌, List, [], ◌∷◌, ◌++◌, length, arith}
use Rattle.std.specs.Prelude.{◌⊎◌, slice_index}
use Rattle.gno_layouts.specs.Settling.{In}
use Rattle.gno_layouts.proofs.Known.{put_none, put_last}
use Rattle.gno_layouts.proofs.holders.put.Goals as goal

pub returns-then-at-len-clause-others : goal.returns-then-at-len-clause-others
returns-then-at-len-clause-others c n i = put_none c.args.held.now c.args.last c.args.at n (c.if-at-len.true ∙ c.len.ensures) i

pub returns-clause-others : goal.returns-clause-others
returns-clause-others c n i =
    let within : c.args.at < length c.args.held.now = (let w = c.requires in let f = c.if-at-len.false in let l = c.len.ensures in omega (arith, w, f, l)) in
    subst (λ (ms : List ℕ). (n ≡ slice_index (c.args.held.now ++ c.args.last ∷ []) c.args.at) ⊎ In n ms) (sym c.set.ensures) (put_last c.args.held.now c.args.last c.args.at n within i)
