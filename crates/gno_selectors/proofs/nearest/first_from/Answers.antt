use Rattle.std.proofs.Common.{◌∙◌, sym, length, arith, ◌≤◌, false, true≢false, get_or}
use Rattle.std.proofs.lemmas.Option.{slice_get-get_or, slice_get_within}
use Rattle.gno_embedding.specs.declared.ways.Reached.{Reached}
use Rattle.gno_selectors.specs.Standings.{called}
use Rattle.gno_selectors.proofs.Firsts.{lack_more}
use Rattle.gno_selectors.proofs.nearest.first_from.Goals as goal

-- what stands past the end
abbrev none : Reached
none = record { of = record { 0 = 0 }; depth = 0; followed = false; twice = false; from = 0; place = 0; pointer = false }

pub loop-place-preserved : goal.loop-place-preserved
loop-place-preserved c =
    let its = c.args.reached.now in
    lack_more c.args.rows.now (called c.args.name.now c.args.«package».now) its c.args.from c.loop-place.place (get_or its c.loop-place.place none) c.loop-place.invariant
    (slice_get-get_or its c.loop-place.place none c.loop-place-test.true)
    (λ has. true≢false (sym (c.has.ensures.1 has) ∙ c.if-has.false))

pub returns-clause-none : goal.returns-clause-none
returns-clause-none c e k other w h has =
    let past : length c.args.reached.now ≤ c.loop-place.place = c.loop-place-test.false in
    let within = slice_get_within c.args.reached.now k other h in
    c.loop-place.invariant k other w (omega (arith, past, within)) h has
