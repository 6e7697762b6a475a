use Rattle.std.proofs.Common.{rules}
use Rattle.gno_expressions.proofs.Loops.{steps_fail, steps_fall, steps_go, steps_end, steps_start}
use Rattle.gno_expressions.proofs.primary.stepped.Goals as goal

pub returns-in_err-operand-2 : goal.returns-in_err-operand-2
returns-in_err-operand-2 g c =
    let e = steps_fail (g.R.Reader.scope c.args.reader.now) c.args.place c.args.tokens.now c.loop-place.operand c.loop-place.tokens _ _ c.loop-place-test.ensures c.in_err-operand-2.ensures c.loop-place.invariant in
    search (rules, e)

pub loop-place-smaller : goal.loop-place-smaller
loop-place-smaller g c = steps_fall (g.R.Reader.scope c.args.reader.now) c.args.place c.loop-place.operand c.loop-place.tokens _ _ c.in_ok-operand-2.ensures

pub loop-place-preserved : goal.loop-place-preserved
loop-place-preserved g c =
    steps_go (g.R.Reader.scope c.args.reader.now) c.args.place c.args.tokens.now c.loop-place.operand c.loop-place.tokens _ _ c.loop-place-test.ensures c.in_ok-operand-2.ensures c.loop-place.invariant

pub returns : goal.returns
returns g c = steps_end (g.R.Reader.scope c.args.reader.now) c.args.place c.args.tokens.now c.loop-place.operand c.loop-place.tokens c.loop-place-test.ensures c.loop-place.invariant

pub loop-place-init : goal.loop-place-init
loop-place-init g c = steps_start (g.R.Reader.scope c.args.reader.now) c.args.place c.args.tokens.now _ _ c.in_ok-operand.ensures
