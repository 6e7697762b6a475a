use Rattle.std.proofs.Common.{rules, sym, ap, ◌∙◌, subst}
use Rattle.gno_reader.specs.Answers.{Gives}
use Rattle.gno_rules.specs.Shapes.{end_of}
use Rattle.gno_expressions.proofs.Built.{turn_built, turn_operator_fails, turn_operand_fails, no_level, levels_built, levels_fail}
use Rattle.gno_expressions.proofs.Loops.{turns_fail, turns_fall, turns_go, turns_end, turns_start}
use Rattle.gno_expressions.proofs.operations.+operations.Goals as goal

pub with_operation-returns-in_err-token : goal.with_operation-returns-in_err-token
with_operation-returns-in_err-token g t c =
    let e = turn_operator_fails (g.R.Reader.scope c.args.reader.now) c.args.place c.args.level c.args.operands _ c.args.tokens.now _ _ (c.end-end.ensures ∙ ap end_of c.shape.ensures) c.in_err-token.ensures in
    search (rules, e)

pub with_operation-returns-in_err-operand : goal.with_operation-returns-in_err-operand
with_operation-returns-in_err-operand g t c =
    let e = turn_operand_fails (g.R.Reader.scope c.args.reader.now) c.args.place c.args.level c.args.operands _ _ c.args.tokens.now _ _ _ _ (c.end-end.ensures ∙ ap end_of c.shape.ensures) c.within.ensures c.in_ok-token.ensures c.in_err-operand.ensures in
    search (rules, e)

pub with_operation-returns : goal.with_operation-returns
with_operation-returns g t c =
    turn_built (g.R.Reader.scope c.args.reader.now) c.args.place c.args.level c.args.operands _ _ c.args.tokens.now _ _ _ _ _ (c.end-end.ensures ∙ ap end_of c.shape.ensures) c.within.ensures c.in_ok-token.ensures c.in_ok-operand.ensures c.in_ok-operands.ensures

pub operands-returns-in_err-operands : goal.operands-returns-in_err-operands
operands-returns-in_err-operands g t c =
    let e = turns_fail (g.R.Reader.scope c.args.reader.now) c.args.place c.args.level c.args.tokens.now c.loop-place.operands c.loop-place.tokens _ _ c.loop-place-test.ensures c.in_err-operands.ensures c.loop-place.invariant in
    search (rules, e)

pub operands-loop-place-smaller : goal.operands-loop-place-smaller
operands-loop-place-smaller g t c = turns_fall (g.R.Reader.scope c.args.reader.now) c.args.place c.args.level c.requires.bounded c.loop-place.operands c.loop-place.tokens _ _ c.in_ok-operands.ensures

pub operands-loop-place-preserved : goal.operands-loop-place-preserved
operands-loop-place-preserved g t c =
    turns_go (g.R.Reader.scope c.args.reader.now) c.args.place c.args.level c.requires.bounded c.args.tokens.now c.loop-place.operands c.loop-place.tokens _ _ c.loop-place-test.ensures c.in_ok-operands.ensures c.loop-place.invariant

pub operands-loop-place-init : goal.operands-loop-place-init
operands-loop-place-init g t c = turns_start (g.R.Reader.scope c.args.reader.now) c.args.place c.args.level c.args.tokens.now _ _ _ c.new-operands.ensures c.in_ok-first.ensures

pub operands-returns : goal.operands-returns
operands-returns g t c = turns_end (g.R.Reader.scope c.args.reader.now) c.args.place c.args.level c.args.tokens.now c.loop-place.operands c.loop-place.tokens c.loop-place-test.ensures c.loop-place.invariant

pub operations-returns-then-levels-eq0 : goal.operations-returns-then-levels-eq0
operations-returns-then-levels-eq0 g t c = subst (λ o. Gives o c.unary.result c.unary.new.tokens) (sym (no_level (g.R.Reader.scope c.args.reader.now) c.args.place c.args.levels c.args.tokens.now c.if-levels-eq0.true)) c.unary.ensures

pub operations-returns-in_err-operands : goal.operations-returns-in_err-operands
operations-returns-in_err-operands g t c =
    let e = levels_fail (g.R.Reader.scope c.args.reader.now) c.args.place c.args.levels c.args.tokens.now _ _ c.if-levels-eq0.false c.in_err-operands.ensures in
    search (rules, e)

pub operations-returns : goal.operations-returns
operations-returns g t c = levels_built (g.R.Reader.scope c.args.reader.now) c.args.place c.args.levels c.args.tokens.now _ _ _ c.if-levels-eq0.false c.in_ok-operands.ensures c.in_ok-found.ensures
