use Rattle.std.proofs.Common.{sym, rules}
use Rattle.gno_grammar.proofs.Loops.{turn_shorter, turn_goes, go_end}
use Rattle.gno_reader.specs.Scope.{reads}
use Rattle.gno_reader.proofs.Turns.{turn_fails}
use Rattle.gno_rules.specs.Kinds.{code}
use Rattle.gno_rules.specs.Signatures.{COMMA, goes_on, with_entry}
use Rattle.gno_signatures.proofs.Turns.{next, takes_next}
use Rattle.gno_signatures.proofs.parameters.parameter_list.Goals as goal

pub returns-in_err-list-2 : goal.returns-in_err-list-2
returns-in_err-list-2 g c =
    let e = turn_fails goes_on (λ _. COMMA) (λ list. reads (g.R.Reader.scope c.args.reader.now) (next c.args.variadics list.state)) with_entry _
    c.loop-tokens.list c.loop-tokens.tokens _ _ (sym c.loop-tokens-test.ensures) c.in_err-list-2.ensures c.loop-tokens.invariant in
    search (rules, e)

pub loop-tokens-smaller : goal.loop-tokens-smaller
loop-tokens-smaller g c = turn_shorter code goes_on (λ _. COMMA) (λ list. reads (g.R.Reader.scope c.args.reader.now) (next c.args.variadics list.state)) with_entry
    c.loop-tokens.list c.loop-tokens.tokens _ _ (takes_next c.args.variadics c.loop-tokens.list.state (g.R.Reader.scope c.args.reader.now) _) c.in_ok-list-2.ensures

pub loop-tokens-preserved : goal.loop-tokens-preserved
loop-tokens-preserved g c = turn_goes code goes_on (λ _. COMMA) (λ list. reads (g.R.Reader.scope c.args.reader.now) (next c.args.variadics list.state)) with_entry _
    c.loop-tokens.list c.loop-tokens.tokens _ _ (takes_next c.args.variadics c.loop-tokens.list.state (g.R.Reader.scope c.args.reader.now) _)
    (sym c.loop-tokens-test.ensures) c.in_ok-list-2.ensures c.loop-tokens.invariant

pub returns : goal.returns
returns g c = go_end code goes_on (λ _. COMMA) (λ list. reads (g.R.Reader.scope c.args.reader.now) (next c.args.variadics list.state)) with_entry _
    c.loop-tokens.list c.loop-tokens.tokens (sym c.loop-tokens-test.ensures) c.loop-tokens.invariant
