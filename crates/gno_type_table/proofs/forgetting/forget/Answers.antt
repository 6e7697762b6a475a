use Rattle.std.proofs.Common.{◌≡◌, refl, ◌≤◌, length, get_or, Some, arith}
use Rattle.std.specs.Prelude.{slice_get}
use Rattle.std.proofs.lemmas.Option.{slice_get-get_or}
use Rattle.gno_promotion.specs.declared.found.Search.{Search}
use Rattle.gno_type_table.proofs.Putting.{cut_none, cut_one, cut_all}
use Rattle.gno_type_table.proofs.forgetting.forget.Goals as goal

pub loop-number-init : goal.loop-number-init
loop-number-init c = cut_none c.args.rows.now (length c.args.rows.now.types) c.args.searches.now c.args.awaited.now c.requires

pub forget_one-requires-clause-own : goal.forget_one-requires-clause-own
forget_one-requires-clause-own c =
    let test = c.loop-number-test.true in
    let size = c.requires.size in
    omega (arith, test, size)

pub forget_one-requires-clause-was : goal.forget_one-requires-clause-was
forget_one-requires-clause-was c =
    let old : Search = get_or c.loop-number.searches c.loop-number.number c.index-searches-number.result in
    let test = c.loop-number-test.true in
    let size = c.loop-number.auto.searches in
    let there : slice_get c.loop-number.searches c.loop-number.number ≡ Some old = slice_get-get_or c.loop-number.searches c.loop-number.number c.index-searches-number.result (omega (arith, test, size)) in
    (c.loop-number.invariant.each c.loop-number.number old there).0

pub forget_one-requires-clause-flags : goal.forget_one-requires-clause-flags
forget_one-requires-clause-flags c = c.loop-number.invariant.flags

pub loop-number-preserved : goal.loop-number-preserved
loop-number-preserved c =
    cut_one c.args.rows.now (length c.args.rows.now.types) c.loop-number.searches c.loop-number.awaited c.loop-number.number _ c.forget_one.new.awaited c.forget_one.new.search c.have_one_definition.ensures
    (record { put = refl; size = c.forget_one.auto.awaited; rise = c.forget_one.ensures.rise; flagged = c.forget_one.ensures.flagged }) c.forget_one.ensures.at c.loop-number.invariant

pub returns : goal.returns
returns c =
    let end : length c.args.searches.now ≤ c.loop-number.number = c.loop-number-test.false in
    let size = c.requires.size in
    cut_all c.args.rows.now (length c.args.rows.now.types) c.loop-number.searches c.loop-number.awaited c.loop-number.number (omega (arith, end, size)) c.loop-number.invariant
