use Rattle.std.proofs.Common.{length, arith}
use Rattle.gno_type_table.proofs.Putting.{first_none, first_searched, first_all}
use Rattle.gno_type_table.proofs.searching.search_all.Goals as goal

pub loop-number-init : goal.loop-number-init
loop-number-init c = first_none c.args.rows.now (length c.args.rows.now.types) c.args.searches.now c.args.awaited.now (λ _ _. Unit {0}) c.requires.kept

pub search_at-requires-clause-number : goal.search_at-requires-clause-number
search_at-requires-clause-number c =
    let test = c.loop-number-test.true in
    let len = c.len-number-end.ensures in
    omega (arith, test, len)

pub search_at-requires-clause-size : goal.search_at-requires-clause-size
search_at-requires-clause-size c = c.loop-number.invariant.size

pub search_at-requires-clause-flags : goal.search_at-requires-clause-flags
search_at-requires-clause-flags c = c.loop-number.invariant.flags

pub loop-number-preserved : goal.loop-number-preserved
loop-number-preserved c =
    first_searched c.args.rows.now (length c.args.rows.now.types) c.loop-number.searches c.loop-number.awaited c.loop-number.number c.search_at.new.searches c.search_at.new.awaited c.in_ok-search_at.ensures.ok c.loop-number.invariant

pub returns : goal.returns
returns c =
    let end = c.loop-number-test.false in
    let len = c.len-number-end.ensures in
    first_all c.args.rows.now (length c.args.rows.now.types) c.loop-number.searches c.loop-number.awaited c.loop-number.number (omega (arith, end, len)) c.loop-number.invariant
