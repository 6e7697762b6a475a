use Rattle.std.proofs.Common.{◌≡◌, refl, sym, ap, ◌∙◌, ◌<◌, length, arith, Some, None, slice_index_or}
use Rattle.std.specs.Prelude.{slice_get}
use Rattle.std.proofs.lemmas.Option.{slice_get_read, slice_get-get_or}
use Rattle.gno_layouts.proofs.Told.{popped}
use Rattle.gno_layouts.proofs.settling.told.Goals as goal

pub all_visited-requires-clause-board : goal.all_visited-requires-clause-board
all_visited-requires-clause-board c =
    let b = c.requires.board in
    let in_holders : c.args.number < length c.args.holders.now = (let w = c.requires.within in let z = c.requires.holders.size in omega (arith, w, z)) in
    let in_links : c.args.number < length c.args.links.now = (let w = c.requires.within in let z = c.requires.linked in omega (arith, w, z)) in
    let there : slice_get c.args.holders.now c.args.number ≡ Some c.as_slice.result.now =
    slice_get_read c.args.holders.now (length c.args.holders.now) c.args.number c.index-holders-number.result refl in_holders c.index-holders-number.is ∙ ap Some (sym c.as_slice.ensures) in
    let p = popped c.args.rows.now c.args.states.now c.args.links.now c.args.holders.now c.requires.holders c.args.number (slice_index_or c.args.links.now c.args.number None) c.as_slice.result.now b.1
    (slice_get-get_or c.args.links.now c.args.number None in_links) there b.0 b.2 in
    (p.0, b.1, p.1)

pub returns : goal.returns
returns c stack room is =
    let in_holders : c.args.number < length c.args.holders.now = (let w = c.requires.within in let z = c.requires.holders.size in omega (arith, w, z)) in
    let in_links : c.args.number < length c.args.links.now = (let w = c.requires.within in let z = c.requires.linked in omega (arith, w, z)) in
    let there : slice_get c.args.holders.now c.args.number ≡ Some c.as_slice.result.now =
    slice_get_read c.args.holders.now (length c.args.holders.now) c.args.number c.index-holders-number.result refl in_holders c.index-holders-number.is ∙ ap Some (sym c.as_slice.ensures) in
    let p = popped c.args.rows.now c.args.states.now c.args.links.now c.args.holders.now c.requires.holders c.args.number (slice_index_or c.args.links.now c.args.number None) c.as_slice.result.now room
    (slice_get-get_or c.args.links.now c.args.number None in_links) there stack is in
    c.all_visited.ensures p.0 room p.1
