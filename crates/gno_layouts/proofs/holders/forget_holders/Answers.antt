use Rattle.std.proofs.Common.{◌≡◌, ℕ, ◌<◌, List, length, get_or, arith, Some}
use Rattle.std.specs.Prelude.{slice_get}
use Rattle.std.proofs.lemmas.Option.{slice_get-get_or}
use Rattle.gno_layouts.proofs.Known.{each_on}
use Rattle.gno_layouts.proofs.holders.forget_holders.Goals as goal

pub loop-number-init : goal.loop-number-init
loop-number-init c k ms h = (ms, h, λ n row g known i. i)

pub loop-number-preserved : goal.loop-number-preserved
loop-number-preserved c =
    let old : List ℕ = get_or c.loop-number.holders c.loop-number.number c.index-holders-number.result in
    let test : c.loop-number.number < length c.args.holders.now = c.loop-number-test.true in
    let size : length c.loop-number.holders ≡ length c.args.holders.now = c.loop-number.auto.holders in
    let within : c.loop-number.number < length c.loop-number.holders = omega (arith, test, size) in
    let there : slice_get c.loop-number.holders c.loop-number.number ≡ Some old = slice_get-get_or c.loop-number.holders c.loop-number.number c.index-holders-number.result within in
    each_on c.args.rows.now c.args.holders.now c.loop-number.holders c.loop-number.invariant c.loop-number.number old c.keep_known.new.held there within c.keep_known.ensures
