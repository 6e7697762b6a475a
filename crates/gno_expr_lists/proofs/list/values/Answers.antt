use Rattle.std.proofs.Common.{rules}
use Rattle.gno_expr_lists.proofs.Loops.{values_fail, values_fall, values_go, values_end, values_start}
use Rattle.gno_expr_lists.proofs.list.values.Goals as goal

pub returns-in_err-further_value : goal.returns-in_err-further_value
returns-in_err-further_value g c =
    let e = values_fail (g.R.Reader.scope c.args.reader.now) c.args.place c.args.tokens.now c.loop-place.values c.loop-place.tokens _ _ c.loop-place-test.ensures c.in_err-further_value.ensures c.loop-place.invariant in
    search (rules, e)

pub loop-place-smaller : goal.loop-place-smaller
loop-place-smaller g c = values_fall (g.R.Reader.scope c.args.reader.now) c.args.place c.loop-place.tokens _ _ c.in_ok-further_value.ensures

pub loop-place-init : goal.loop-place-init
loop-place-init g c = values_start (g.R.Reader.scope c.args.reader.now) c.args.place c.args.tokens.now _ _ _ _ c.new-values.ensures c.in_ok-push.ensures.ok c.in_ok-value.ensures

pub loop-place-preserved : goal.loop-place-preserved
loop-place-preserved g c =
    values_go (g.R.Reader.scope c.args.reader.now) c.args.place c.args.tokens.now c.loop-place.values c.loop-place.tokens _ _ _ c.in_ok-push-2.ensures.ok c.loop-place-test.ensures c.in_ok-further_value.ensures c.loop-place.invariant

pub returns : goal.returns
returns g c = values_end (g.R.Reader.scope c.args.reader.now) c.args.place c.args.tokens.now c.loop-place.values c.loop-place.tokens c.loop-place-test.ensures c.loop-place.invariant
