use Rattle.std.proofs.Common.{sym, rules, subst}
use Rattle.gno_grammar.proofs.Loops.{Going, go_on, go_end}
use Rattle.gno_reader.specs.Scope.{reads}
use Rattle.gno_reader.proofs.Turns.{step_fails}
use Rattle.gno_rules.specs.Kinds.{code}
use Rattle.gno_rules.specs.Parts.{always, with_last}
use Rattle.gno_rules.specs.Declarations.{top_levels}
use Rattle.gno_declarations.proofs.Turns.{next_top_level, TOP_LEVEL, takes_next_top_level}
use Rattle.gno_declarations.proofs.files.top_levels.Goals as goal

pub returns-in_err-next_top_level : goal.returns-in_err-next_top_level
returns-in_err-next_top_level g c =
    let e = step_fails always (λ _. TOP_LEVEL) (λ _. reads (g.R.Reader.scope c.args.reader.now) next_top_level) with_last _
    c.loop-top_levels.top_levels c.loop-top_levels.tokens _ _ (sym c.loop-top_levels-test.ensures) c.in_err-next_top_level.ensures c.loop-top_levels.invariant in
    search (rules, e)

pub loop-top_levels-smaller : goal.loop-top_levels-smaller
loop-top_levels-smaller g c = takes_next_top_level (g.R.Reader.scope c.args.reader.now) _ _ _ c.in_ok-next_top_level.ensures

pub loop-top_levels-preserved : goal.loop-top_levels-preserved
loop-top_levels-preserved g c =
    subst (λ v. Going code always (λ _. TOP_LEVEL) (λ _. reads (g.R.Reader.scope c.args.reader.now) next_top_level) with_last
    (reads (g.R.Reader.scope c.args.reader.now) top_levels c.args.tokens.now) v c.next_top_level.new.tokens)
    (sym c.in_ok-push.ensures.ok)
    (go_on code always (λ _. TOP_LEVEL) (λ _. reads (g.R.Reader.scope c.args.reader.now) next_top_level) with_last _
    c.loop-top_levels.top_levels c.loop-top_levels.tokens _ _ (sym c.loop-top_levels-test.ensures) c.in_ok-next_top_level.ensures
    (takes_next_top_level (g.R.Reader.scope c.args.reader.now) _ _ _ c.in_ok-next_top_level.ensures) c.loop-top_levels.invariant)

pub returns : goal.returns
returns g c = go_end code always (λ _. TOP_LEVEL) (λ _. reads (g.R.Reader.scope c.args.reader.now) next_top_level) with_last _
    c.loop-top_levels.top_levels c.loop-top_levels.tokens (sym c.loop-top_levels-test.ensures) c.loop-top_levels.invariant
