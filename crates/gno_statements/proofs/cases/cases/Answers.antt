use Rattle.std.proofs.Common.{refl, sym, subst, rules, not}
use Rattle.gno_grammar.specs.Phrases.{nothing}
use Rattle.gno_grammar.specs.Readers.{first, null, run}
use Rattle.gno_grammar.proofs.Loops.{Going, turn_shorter, turn_goes, go_end}
use Rattle.gno_reader.specs.Scope.{reads}
use Rattle.gno_reader.proofs.Turns.{turn_fails, repeat_going}
use Rattle.gno_rules.specs.Kinds.{code}
use Rattle.gno_rules.specs.Statements.{one_case, with_case, no_cases, cases, case_labels}
use Rattle.gno_rules.specs.Table.{grammar}
use Rattle.gno_statements.proofs.Turns.{takes_one_case}
use Rattle.gno_statements.proofs.cases.cases.Goals as goal

pub returns-in_err-cases : goal.returns-in_err-cases
unfolding first null one_case case_labels
returns-in_err-cases g c =
    let e = turn_fails (λ cs. not cs.is_open) (λ _. first (grammar (g.R.Reader.scope c.args.reader.now).text) (one_case (g.R.Reader.scope c.args.reader.now).text)) (λ _. reads (g.R.Reader.scope c.args.reader.now) one_case) with_case _
    c.loop-tokens.cases c.loop-tokens.tokens _ _ (sym c.loop-tokens-test.ensures) c.in_err-cases.ensures c.loop-tokens.invariant in
    search (rules, e)

pub loop-tokens-smaller : goal.loop-tokens-smaller
loop-tokens-smaller g c = turn_shorter code (λ cs. not cs.is_open) (λ _. first (grammar (g.R.Reader.scope c.args.reader.now).text) (one_case (g.R.Reader.scope c.args.reader.now).text)) (λ _. reads (g.R.Reader.scope c.args.reader.now) one_case) with_case
    c.loop-tokens.cases c.loop-tokens.tokens _ _ (λ b mid. takes_one_case (g.R.Reader.scope c.args.reader.now) _ b mid) c.in_ok-cases.ensures

pub loop-tokens-preserved : goal.loop-tokens-preserved
unfolding first null one_case case_labels
loop-tokens-preserved g c = turn_goes code (λ cs. not cs.is_open) (λ _. first (grammar (g.R.Reader.scope c.args.reader.now).text) (one_case (g.R.Reader.scope c.args.reader.now).text)) (λ _. reads (g.R.Reader.scope c.args.reader.now) one_case) with_case _
    c.loop-tokens.cases c.loop-tokens.tokens _ _ (λ b mid. takes_one_case (g.R.Reader.scope c.args.reader.now) _ b mid) (sym c.loop-tokens-test.ensures) c.in_ok-cases.ensures c.loop-tokens.invariant

pub returns : goal.returns
unfolding first null one_case case_labels
returns g c = go_end code (λ cs. not cs.is_open) (λ _. first (grammar (g.R.Reader.scope c.args.reader.now).text) (one_case (g.R.Reader.scope c.args.reader.now).text)) (λ _. reads (g.R.Reader.scope c.args.reader.now) one_case) with_case _
    c.loop-tokens.cases c.loop-tokens.tokens (sym c.loop-tokens-test.ensures) c.loop-tokens.invariant

pub loop-tokens-init : goal.loop-tokens-init
unfolding run cases
loop-tokens-init g c = subst (λ cs. Going code (λ cs. not cs.is_open) (λ _. first (grammar (g.R.Reader.scope c.args.reader.now).text) (one_case (g.R.Reader.scope c.args.reader.now).text)) (λ _. reads (g.R.Reader.scope c.args.reader.now) one_case) with_case (reads (g.R.Reader.scope c.args.reader.now) cases c.args.tokens.now) cs c.args.tokens.now) (sym c.no_cases-cases.ensures)
    (repeat_going (g.R.Reader.scope c.args.reader.now) (λ cs. not cs.is_open) with_case (λ _. nothing no_cases) one_case c.args.tokens.now _ _ refl)
