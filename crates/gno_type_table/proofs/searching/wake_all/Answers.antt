use Rattle.std.proofs.Common.{refl, length, arith}
use Rattle.gno_type_table.proofs.Putting.{none_waits, past_same, past_on}
use Rattle.gno_type_table.proofs.searching.wake_all.Goals as goal

pub loop-number-init : goal.loop-number-init
loop-number-init c = (c.requires.kept, past_same c.args.rows.now refl refl)

pub wake_one-requires-clause-number : goal.wake_one-requires-clause-number
wake_one-requires-clause-number c =
    let test = c.loop-number-test.true in
    let len = c.len-number-end.ensures in
    omega (arith, test, len)

pub loop-number-preserved : goal.loop-number-preserved
loop-number-preserved c = (
  c.in_ok-wake_one.ensures.ok,
  past_on c.args.rows.now c.args.searches.now c.loop-number.searches c.wake_one.new.searches c.args.awaited.now c.loop-number.awaited c.wake_one.new.awaited c.loop-number.invariant.1 c.wake_one.ensures.past,
)

pub returns-in_err-wake_one-clause-past : goal.returns-in_err-wake_one-clause-past
returns-in_err-wake_one-clause-past c =
    past_on c.args.rows.now c.args.searches.now c.loop-number.searches c.wake_one.new.searches c.args.awaited.now c.loop-number.awaited c.wake_one.new.awaited c.loop-number.invariant.1 c.wake_one.ensures.past

pub returns-clause-ok : goal.returns-clause-ok
returns-clause-ok c =
    let end = c.loop-number-test.false in
    let len = c.len-number-end.ensures in
    none_waits c.args.rows.now c.args.defined (length c.args.rows.now.types) c.loop-number.number c.loop-number.searches c.loop-number.awaited (omega (arith, end, len)) c.loop-number.invariant.0

pub returns-clause-past : goal.returns-clause-past
returns-clause-past c = c.loop-number.invariant.1
