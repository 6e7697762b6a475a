use Rattle.std.proofs.Common.{◌≡◌, refl, sym, ap, ◌∙◌, arith, rules, false, get_or}
use Rattle.std.proofs.lemmas.Bool.Decides.{Decides-eqb}
use Rattle.std.proofs.lemmas.Option.{get_or_from_slice_get, slice_get-get_or}
use Rattle.gno_embedding.specs.declared.ways.Reached.{Reached}
use Rattle.gno_selectors.specs.Standings.{called}
use Rattle.gno_selectors.proofs.Firsts.{rival_is}
use Rattle.gno_selectors.proofs.nearest.has_rival.Goals as goal

-- what stands past the end
abbrev none : Reached
none = record { of = record { 0 = 0 }; depth = 0; followed = false; twice = false; from = 0; place = 0; pointer = false }

pub returns-in-Some : goal.returns-in-Some
returns-in-Some c =
    let its = c.args.reached.now in
    let it : Reached = get_or its c.args.place none in
    let next : Reached = get_or its c.in-Some.next none in
    let first = c.in-Some.ensures.some in
    let same : next ≡ first.it = get_or_from_slice_get its c.in-Some.next first.it none first.at in
    let rival = rival_is c.args.rows.now (called c.args.name.now c.args.«package».now) its c.requires.rises c.args.place it (slice_get-get_or its c.args.place none c.requires.place) c.in-Some.next first in
    let depth : next.depth ≡ first.it.depth = ap (λ (z : Reached). z.depth) same in
    (λ e. rival.0 (sym depth ∙ (Decides-eqb next.depth it.depth).0 e), λ h. (Decides-eqb next.depth it.depth).1 (depth ∙ rival.1 h))

pub returns-in-None : goal.returns-in-None
returns-in-None c = (
  λ e. search (rules, e),
  λ h. absurd (c.in-None.ensures.none refl h.number h.other (let w = h.behind in omega (arith, w)) h.other_at h.has),
)
