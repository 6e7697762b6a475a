use Rattle.std.proofs.Common.{◌≡◌, refl, sym, ap, ◌∙◌, ◌<◌, ◌≤◌, length, get_or, arith, Some}
use Rattle.std.specs.Prelude.{slice_get}
use Rattle.std.proofs.lemmas.Option.{slice_get_within, slice_get_read, slice_get-get_or}
use Rattle.gno_layouts.specs.declared.row.Row.{Row}
use Rattle.gno_layouts.specs.Layouts.{kept, stands}
use Rattle.gno_layouts.proofs.Restarted.{forgot_on}
use Rattle.gno_layouts.proofs.restart.forget.Goals as goal

pub loop-number-init : goal.loop-number-init
loop-number-init g c = record { done = λ n row w h. absurd (omega (arith, w)); left = λ n w. refl }

pub loop-number-preserved : goal.loop-number-preserved
loop-number-preserved g c =
    let old : Row = get_or c.loop-number.rows c.loop-number.number c.index-rows-number.result in
    let test : c.loop-number.number < length c.args.rows.now = c.loop-number-test.true in
    let counted : length c.args.definitions.now ≡ length c.args.rows.now = c.requires in
    let size : length c.loop-number.rows ≡ length c.args.rows.now = c.loop-number.auto.rows in
    let there : slice_get c.loop-number.rows c.loop-number.number ≡ Some old = slice_get-get_or c.loop-number.rows c.loop-number.number c.index-rows-number.result (omega (arith, test, size)) in
    let beside = slice_get_read c.args.definitions.now (length c.args.definitions.now) c.loop-number.number c.index-definitions-number.result refl (omega (arith, test, counted)) c.index-definitions-number.is in
    forgot_on c.args.rows.now _ c.loop-number.rows c.loop-number.number c.loop-number.invariant old c.keep_row.new.row there
    (c.keep_row.ensures ∙ ap (kept old) (c.is_some.ensures ∙ sym (ap stands beside)))

pub returns : goal.returns
returns g c n row h =
    let past : length c.args.rows.now ≤ c.loop-number.number = c.loop-number-test.false in
    let w : n < length c.args.rows.now = slice_get_within c.args.rows.now n row h in
    c.loop-number.invariant.done n row (omega (arith, past, w)) h
