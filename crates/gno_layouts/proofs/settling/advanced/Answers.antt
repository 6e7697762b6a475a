use Rattle.std.proofs.Common.{◌≡◌, ap, subst, ◌<◌, ◌≤◌, length, get_or, ℕ, List, Some}
use Rattle.std.specs.Prelude.{slice_get}
use Rattle.std.proofs.lemmas.Option.{slice_get-get_or}
use Rattle.gno_layouts.specs.Layouts.{parts}
use Rattle.gno_layouts.specs.Settling.{layout_of}
use Rattle.gno_layouts.proofs.Fitting.{each_at, fits_on, fits_end, state_read}
use Rattle.gno_layouts.proofs.settling.advanced.Goals as goal

pub loop-at-preserved : goal.loop-at-preserved
loop-at-preserved c =
    let n : ℕ = get_or c.parts-parts.result.now c.loop-at.at 0 in
    let there : slice_get (parts c.args.row.now) c.loop-at.at ≡ Some n =
    subst (λ (l : List ℕ). slice_get l c.loop-at.at ≡ Some n) c.parts-parts.ensures (slice_get-get_or c.parts-parts.result.now c.loop-at.at 0 c.loop-at-test.true) in
    let within : n < length c.args.states.now = each_at (λ (k : ℕ). k < length c.args.states.now) (parts c.args.row.now) c.loop-at.at n c.requires.rows there in
    fits_on c.args.states.now c.args.row.now c.loop-at.at c.loop-at.held c.loop-at.invariant n c.in-Settled.layout c.with-held.result there
    (ap layout_of (state_read c.args.states.now n _ _ within c.in-Settled.is)) c.with-held.ensures

pub returns-clause-fits : goal.returns-clause-fits
returns-clause-fits c =
    let past : length (parts c.args.row.now) ≤ c.loop-at.at = subst (λ (l : List ℕ). length l ≤ c.loop-at.at) c.parts-parts.ensures c.loop-at-test.false in
    fits_end c.args.states.now c.args.row.now c.loop-at.at c.loop-at.held c.loop-at.invariant c.whole.result c.requires.known past c.whole.ensures
