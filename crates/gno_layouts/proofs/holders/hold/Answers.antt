use Rattle.std.proofs.Common.{◌≡◌, List, ℕ, get_or, Some}
use Rattle.std.specs.Prelude.{slice_get}
use Rattle.std.proofs.lemmas.Option.{slice_get-get_or}
use Rattle.gno_layouts.proofs.Noted.{noted_grows, noted}
use Rattle.gno_layouts.proofs.holders.hold.Goals as goal

pub returns-clause-grows : goal.returns-clause-grows
returns-clause-grows c =
    let old : List ℕ = get_or c.args.holders.now c.args.part c.index-holders-part.result in
    let there : slice_get c.args.holders.now c.args.part ≡ Some old = slice_get-get_or c.args.holders.now c.args.part c.index-holders-part.result c.requires in
    noted_grows c.push.result c.args.holders.now c.args.part c.args.number old c.push.new.self there c.requires c.push.ensures.ok c.push.ensures.err

pub returns-clause-ok : goal.returns-clause-ok
returns-clause-ok c =
    let old : List ℕ = get_or c.args.holders.now c.args.part c.index-holders-part.result in
    let there : slice_get c.args.holders.now c.args.part ≡ Some old = slice_get-get_or c.args.holders.now c.args.part c.index-holders-part.result c.requires in
    noted c.push.result c.args.holders.now c.args.part c.args.number old c.push.new.self there c.requires c.push.ensures.ok
