use Rattle.std.proofs.Common.{◌≡◌, [], None, length}
use Rattle.gno_layouts.proofs.Boards.{weaker, after_visit}
use Rattle.gno_layouts.proofs.settling.settle_from.Goals as goal

pub visited-top-requires-clause-fits : goal.visited-top-requires-clause-fits
visited-top-requires-clause-fits c = c.requires.board.fits

pub settle-requires-clause-board : goal.settle-requires-clause-board
settle-requires-clause-board c =
    let v = after_visit c.args.rows.now c.args.states.now c.args.links.now None [] (λ n. n ≡ c.args.number) (length c.args.rows.now) c.requires.board c.args.number c.visited-top.new.states c.visited-top.new.links c.visited-top.result c.visited-top.ensures in
    (v.0, weaker c.args.rows.now c.visited-top.new.states c.visited-top.new.links c.visited-top.result v.0 _ (length c.args.rows.now) v.1 _ (λ n i. i.1 i.0))
