use Rattle.std.proofs.Common.{[], ◌≤◌, length}
use Rattle.gno_layouts.proofs.Boards.{weaker, after_visit}
use Rattle.gno_layouts.proofs.Restarted.{fresh_board, next_left, none_past}
use Rattle.gno_layouts.proofs.restart.all_begun.Goals as goal

pub loop-number-init : goal.loop-number-init
loop-number-init c = ([], fresh_board c.args.rows.now c.args.states.now c.args.links.now c.requires.size c.requires.linked c.requires.begin)

pub visited-top-requires-clause-fits : goal.visited-top-requires-clause-fits
visited-top-requires-clause-fits c = c.loop-number.invariant.1.fits

pub loop-number-preserved : goal.loop-number-preserved
loop-number-preserved c =
    let b = c.loop-number.invariant in
    let v = after_visit c.args.rows.now c.loop-number.states c.loop-number.links c.loop-number.top b.0 (λ n. c.loop-number.number ≤ n) (length c.args.rows.now) b.1 c.loop-number.number c.visited-top.new.states c.visited-top.new.links c.visited-top.result c.visited-top.ensures in
    (v.0, weaker c.args.rows.now c.visited-top.new.states c.visited-top.new.links c.visited-top.result v.0 _ (length c.args.rows.now) v.1 _ (λ n i. next_left c.loop-number.number n i.0 i.1))

pub returns : goal.returns
returns c =
    let b = c.loop-number.invariant in
    (b.0, none_past c.args.rows.now c.loop-number.states c.loop-number.links c.loop-number.top b.0 (length c.args.rows.now) c.loop-number.number c.loop-number-test.false b.1)
