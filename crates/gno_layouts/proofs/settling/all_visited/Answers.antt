use Rattle.gno_layouts.proofs.Boards.{weaker, after_visit}
use Rattle.gno_layouts.proofs.Told.{none_left, one_less}
use Rattle.gno_layouts.proofs.settling.all_visited.Goals as goal

pub visited-top-requires-clause-fits : goal.visited-top-requires-clause-fits
visited-top-requires-clause-fits c = let b = c.requires.board in (c.loop-number.invariant b.0 b.1 b.2).1.fits

pub loop-number-preserved : goal.loop-number-preserved
loop-number-preserved c stack room is =
    let b = c.loop-number.invariant stack room is in
    let v = after_visit c.args.rows.now c.loop-number.states c.loop-number.links c.loop-number.top b.0 _ room b.1 _ c.visited-top.new.states c.visited-top.new.links c.visited-top.result c.visited-top.ensures in
    (v.0, weaker c.args.rows.now c.visited-top.new.states c.visited-top.new.links c.visited-top.result v.0 _ room v.1 _ (λ n i. one_less c.args.numbers.now c.loop-number.number-index 0 n c.loop-number-test.true i.0 i.1))

pub returns : goal.returns
returns c stack room is =
    let b = c.loop-number.invariant stack room is in
    (b.0, weaker c.args.rows.now c.loop-number.states c.loop-number.links c.loop-number.top b.0 _ room b.1 _ (λ n i. none_left c.args.numbers.now c.loop-number.number-index n c.loop-number-test.false i))
