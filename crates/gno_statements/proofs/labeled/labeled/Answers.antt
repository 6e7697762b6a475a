use Rattle.std.proofs.Common.{sym, rules}
use Rattle.gno_grammar.specs.Readers.{first, null}
use Rattle.gno_grammar.proofs.Loops.{turn_shorter, turn_goes, go_end}
use Rattle.gno_reader.specs.Scope.{reads}
use Rattle.gno_reader.proofs.Turns.{turn_fails, repeat_going}
use Rattle.gno_rules.specs.Kinds.{code}
use Rattle.gno_rules.specs.Statements.{may_be_label, unlabeled, with_label, labeled, no_labels}
use Rattle.gno_rules.specs.Table.{grammar}
use Rattle.gno_grammar.specs.Phrases.{optional}
use Rattle.gno_scan.specs.declared.kind.TokenKind.TheVariants as k
use Rattle.gno_rules.specs.Parts.{a, past, to}
use Rattle.gno_statements.proofs.Turns.{takes_behind_colon}
use Rattle.gno_statements.proofs.labeled.labeled.Goals as goal

pub returns-in_err-labeled-2 : goal.returns-in_err-labeled-2
unfolding first null
returns-in_err-labeled-2 g c =
    let e = turn_fails (λ l. may_be_label l.last) (λ _. first (grammar (g.R.Reader.scope c.args.reader.now).text) (past (a k.Colon) (optional (unlabeled (g.R.Reader.scope c.args.reader.now).text)))) (λ _. reads (g.R.Reader.scope c.args.reader.now) (λ text. past (a k.Colon) (optional (unlabeled text)))) with_label _
    c.loop-tokens.labeled c.loop-tokens.tokens _ _ (sym c.loop-tokens-test.ensures) c.in_err-labeled-2.ensures c.loop-tokens.invariant in
    search (rules, e)

pub loop-tokens-smaller : goal.loop-tokens-smaller
loop-tokens-smaller g c = turn_shorter code (λ l. may_be_label l.last) (λ _. first (grammar (g.R.Reader.scope c.args.reader.now).text) (past (a k.Colon) (optional (unlabeled (g.R.Reader.scope c.args.reader.now).text)))) (λ _. reads (g.R.Reader.scope c.args.reader.now) (λ text. past (a k.Colon) (optional (unlabeled text)))) with_label
    c.loop-tokens.labeled c.loop-tokens.tokens _ _ (λ b mid. takes_behind_colon (g.R.Reader.scope c.args.reader.now) _ b mid) c.in_ok-labeled-2.ensures

pub loop-tokens-preserved : goal.loop-tokens-preserved
unfolding first null
loop-tokens-preserved g c = turn_goes code (λ l. may_be_label l.last) (λ _. first (grammar (g.R.Reader.scope c.args.reader.now).text) (past (a k.Colon) (optional (unlabeled (g.R.Reader.scope c.args.reader.now).text)))) (λ _. reads (g.R.Reader.scope c.args.reader.now) (λ text. past (a k.Colon) (optional (unlabeled text)))) with_label _
    c.loop-tokens.labeled c.loop-tokens.tokens _ _ (λ b mid. takes_behind_colon (g.R.Reader.scope c.args.reader.now) _ b mid) (sym c.loop-tokens-test.ensures) c.in_ok-labeled-2.ensures c.loop-tokens.invariant

pub returns : goal.returns
unfolding first null
returns g c = go_end code (λ l. may_be_label l.last) (λ _. first (grammar (g.R.Reader.scope c.args.reader.now).text) (past (a k.Colon) (optional (unlabeled (g.R.Reader.scope c.args.reader.now).text)))) (λ _. reads (g.R.Reader.scope c.args.reader.now) (λ text. past (a k.Colon) (optional (unlabeled text)))) with_label _
    c.loop-tokens.labeled c.loop-tokens.tokens (sym c.loop-tokens-test.ensures) c.loop-tokens.invariant

pub loop-tokens-init : goal.loop-tokens-init
unfolding labeled
loop-tokens-init g c = repeat_going (g.R.Reader.scope c.args.reader.now) (λ l. may_be_label l.last) with_label (λ text. to no_labels (unlabeled text)) (λ text. past (a k.Colon) (optional (unlabeled text))) c.args.tokens.now _ _ c.in_ok-labeled.ensures
