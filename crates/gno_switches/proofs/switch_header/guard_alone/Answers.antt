use Rattle.std.proofs.Common.{sym, rules, []}
use Rattle.gno_grammar.proofs.Loops.{until_turn_shorter, until_turn_goes, until_go_end}
use Rattle.gno_reader.specs.Scope.{reads}
use Rattle.gno_rules.specs.Shapes.{is_guard, shape_of_operand, with_suffix}
use Rattle.gno_rules.specs.Expressions.{operand_alone, suffix}
use Rattle.gno_rules.specs.Statements.{guard_alone}
use Rattle.gno_rules.specs.declared.expression.Place.TheVariants.{Guard}
use Rattle.gno_switches.proofs.Turns.{takes_suffix, until_starts, until_turn_fails}
use Rattle.gno_switches.proofs.switch_header.guard_alone.Goals as goal

pub returns-in_err-operand-2 : goal.returns-in_err-operand-2
returns-in_err-operand-2 g c =
    let e = until_turn_fails (λ x. is_guard (shape_of_operand x)) (λ x. reads (g.R.Reader.scope c.args.reader.now) (λ text. suffix text Guard (shape_of_operand x))) with_suffix _
    c.loop-tokens.operand c.loop-tokens.tokens _ _ (sym c.loop-tokens-test.ensures) c.in_err-operand-2.ensures c.loop-tokens.invariant in
    search (rules, e)

pub loop-tokens-smaller : goal.loop-tokens-smaller
loop-tokens-smaller g c = until_turn_shorter (λ x. is_guard (shape_of_operand x)) (λ x. reads (g.R.Reader.scope c.args.reader.now) (λ text. suffix text Guard (shape_of_operand x))) with_suffix
    c.loop-tokens.operand c.loop-tokens.tokens _ _ (λ b mid. takes_suffix (g.R.Reader.scope c.args.reader.now) (shape_of_operand c.loop-tokens.operand) _ b mid) c.in_ok-operand-2.ensures

pub loop-tokens-preserved : goal.loop-tokens-preserved
loop-tokens-preserved g c = until_turn_goes (λ x. is_guard (shape_of_operand x)) (λ x. reads (g.R.Reader.scope c.args.reader.now) (λ text. suffix text Guard (shape_of_operand x))) with_suffix _
    c.loop-tokens.operand c.loop-tokens.tokens _ _ (λ b mid. takes_suffix (g.R.Reader.scope c.args.reader.now) (shape_of_operand c.loop-tokens.operand) _ b mid) (sym c.loop-tokens-test.ensures) c.in_ok-operand-2.ensures c.loop-tokens.invariant

pub loop-tokens-init : goal.loop-tokens-init
unfolding guard_alone
loop-tokens-init g c = until_starts (g.R.Reader.scope c.args.reader.now) (λ _. []) [] (λ x. is_guard (shape_of_operand x)) with_suffix (λ text. operand_alone text Guard) (λ text x. suffix text Guard (shape_of_operand x)) c.args.tokens.now _ _ c.in_ok-operand.ensures

pub returns : goal.returns
returns g c = until_go_end (λ x. is_guard (shape_of_operand x)) (λ x. reads (g.R.Reader.scope c.args.reader.now) (λ text. suffix text Guard (shape_of_operand x))) with_suffix _
    c.loop-tokens.operand c.loop-tokens.tokens (sym c.loop-tokens-test.ensures) c.loop-tokens.invariant
