use Rattle.std.proofs.Common.{sym, rules, subst}
use Rattle.gno_grammar.proofs.Loops.{Going, go_on, go_end}
use Rattle.gno_reader.specs.Answers.{sees}
use Rattle.gno_reader.specs.Scope.{reads}
use Rattle.gno_reader.proofs.Turns.{step_fails}
use Rattle.gno_rules.specs.Kinds.{code}
use Rattle.gno_rules.specs.Parts.{always, with_last}
use Rattle.gno_rules.specs.Signatures.{COMMA, further_names}
use Rattle.gno_reader.proofs.Turns.{further_name, takes_further_name}
use Rattle.gno_reader.proofs.name.further_names.Goals as goal

pub returns-in_err-further_name : goal.returns-in_err-further_name
unfolding sees
returns-in_err-further_name g c =
    let e = step_fails always (λ _. COMMA) (λ _. reads (g.R.Reader.scope c.args.reader.now) further_name) with_last _
    c.loop-names.names c.loop-names.tokens _ _ (sym c.loop-names-test.ensures) c.in_err-further_name.ensures c.loop-names.invariant in
    search (rules, e)

pub loop-names-smaller : goal.loop-names-smaller
loop-names-smaller g c = takes_further_name (g.R.Reader.scope c.args.reader.now) _ _ _ c.in_ok-further_name.ensures

pub loop-names-preserved : goal.loop-names-preserved
unfolding sees
loop-names-preserved g c =
    subst (λ v. Going code always (λ _. COMMA) (λ _. reads (g.R.Reader.scope c.args.reader.now) further_name) with_last
    (reads (g.R.Reader.scope c.args.reader.now) further_names c.args.tokens.now) v c.further_name.new.tokens)
    (sym c.in_ok-push.ensures.ok)
    (go_on code always (λ _. COMMA) (λ _. reads (g.R.Reader.scope c.args.reader.now) further_name) with_last _
    c.loop-names.names c.loop-names.tokens _ _ (sym c.loop-names-test.ensures) c.in_ok-further_name.ensures
    (takes_further_name (g.R.Reader.scope c.args.reader.now) _ _ _ c.in_ok-further_name.ensures) c.loop-names.invariant)

pub returns : goal.returns
unfolding sees
returns g c = go_end code always (λ _. COMMA) (λ _. reads (g.R.Reader.scope c.args.reader.now) further_name) with_last _
    c.loop-names.names c.loop-names.tokens (sym c.loop-names-test.ensures) c.loop-names.invariant
