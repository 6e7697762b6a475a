use Rattle.std.proofs.Common.{◌≡◌, refl, ap, ◌<◌, length, arith, Some, true, slice_set}
use Rattle.std.specs.Prelude.{slice_get}
use Rattle.std.proofs.lemmas.Option.{slice_get_within, slice_get_read}
use Rattle.gno_layouts.specs.declared.settling.State.TheVariants.{Waiting}
use Rattle.gno_layouts.specs.Layouts.{is_known}
use Rattle.gno_layouts.specs.Settling.{CanGoOn, waits, settles}
use Rattle.gno_layouts.proofs.Fitting.{state_read}
use Rattle.gno_layouts.proofs.settling.visited.Goals as goal

pub advanced-state-requires-clause-fits : goal.advanced-state-requires-clause-fits
advanced-state-requires-clause-fits c =
    let row : slice_get c.args.rows.now c.args.number ≡ Some c.in-Some.row.now = slice_get_read c.args.rows.now (length c.args.rows.now) c.args.number c.in-Some.row.now refl c.in-Some.ensures.lookup.3.0 c.in-Some.ensures.lookup.1 in
    let within : c.args.number < length c.args.states.now = (let w = slice_get_within c.args.rows.now c.args.number c.in-Some.row.now row in let z = c.requires.size in omega (arith, w, z)) in
    c.requires.fits c.args.number c.in-Some.row.now (Waiting c.in-Waiting.place c.in-Waiting.held) row (state_read c.args.states.now c.args.number _ _ within c.in-Waiting.is)

pub returns-in-Waiting-state : goal.returns-in-Waiting-state
returns-in-Waiting-state c =
    let row : slice_get c.args.rows.now c.args.number ≡ Some c.in-Some.row.now = slice_get_read c.args.rows.now (length c.args.rows.now) c.args.number c.in-Some.row.now refl c.in-Some.ensures.lookup.3.0 c.in-Some.ensures.lookup.1 in
    let within : c.args.number < length c.args.states.now = (let w = slice_get_within c.args.rows.now c.args.number c.in-Some.row.now row in let z = c.requires.size in omega (arith, w, z)) in
    let known : is_known c.in-Some.row.now ≡ true = grind (arith, c.if-not-is_known.false, c.is_known.ensures) in
    let can : CanGoOn c.args.rows.now c.args.states.now c.args.number c.in-Some.row.now =
    record { row_at = row; place = c.in-Waiting.place; held = c.in-Waiting.held; waits = state_read c.args.states.now c.args.number _ _ within c.in-Waiting.is; known = known } in
    waits c.in-Some.row.now c.in-Waiting-state.place c.in-Waiting-state.held can c.in-Waiting-state.ensures.fits (c.in-Waiting-state.ensures.waits known)
    (ap (slice_set c.args.states.now c.args.number) c.in-Waiting-state.is) refl refl

pub returns-in-Settled : goal.returns-in-Settled
returns-in-Settled c =
    let row : slice_get c.args.rows.now c.args.number ≡ Some c.in-Some.row.now = slice_get_read c.args.rows.now (length c.args.rows.now) c.args.number c.in-Some.row.now refl c.in-Some.ensures.lookup.3.0 c.in-Some.ensures.lookup.1 in
    let within : c.args.number < length c.args.states.now = (let w = slice_get_within c.args.rows.now c.args.number c.in-Some.row.now row in let z = c.requires.size in omega (arith, w, z)) in
    let known : is_known c.in-Some.row.now ≡ true = grind (arith, c.if-not-is_known.false, c.is_known.ensures) in
    let can : CanGoOn c.args.rows.now c.args.states.now c.args.number c.in-Some.row.now =
    record { row_at = row; place = c.in-Waiting.place; held = c.in-Waiting.held; waits = state_read c.args.states.now c.args.number _ _ within c.in-Waiting.is; known = known } in
    settles c.in-Some.row.now c.in-Settled.field-0 can c.in-Settled.ensures.fits
    (ap (slice_set c.args.states.now c.args.number) c.in-Settled.is) refl refl
