use Rattle.std.proofs.Common.{rules}
use Rattle.gno_expr_lists.proofs.Loops.{exprs_fail, exprs_fall, exprs_go, exprs_end, exprs_start}
use Rattle.gno_expr_lists.proofs.list.exprs.Goals as goal

pub returns-in_err-exprs : goal.returns-in_err-exprs
returns-in_err-exprs g c =
    let e = exprs_fail (g.R.Reader.scope c.args.reader.now) c.args.place c.args.tokens.now c.loop-place.exprs c.loop-place.tokens _ _ c.loop-place-test.ensures c.in_err-exprs.ensures c.loop-place.invariant in
    search (rules, e)

pub loop-place-smaller : goal.loop-place-smaller
loop-place-smaller g c = exprs_fall (g.R.Reader.scope c.args.reader.now) c.args.place c.loop-place.exprs c.loop-place.tokens _ _ c.in_ok-exprs.ensures

pub loop-place-preserved : goal.loop-place-preserved
loop-place-preserved g c =
    exprs_go (g.R.Reader.scope c.args.reader.now) c.args.place c.args.tokens.now c.loop-place.exprs c.loop-place.tokens _ _ c.loop-place-test.ensures c.in_ok-exprs.ensures c.loop-place.invariant

pub returns : goal.returns
returns g c = exprs_end (g.R.Reader.scope c.args.reader.now) c.args.place c.args.tokens.now c.loop-place.exprs c.loop-place.tokens c.loop-place-test.ensures c.loop-place.invariant

pub loop-place-init : goal.loop-place-init
loop-place-init g c = exprs_start (g.R.Reader.scope c.args.reader.now) c.args.place c.args.tokens.now _ _ _ c.new-exprs.ensures c.in_ok-first.ensures
