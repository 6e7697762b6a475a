use Rattle.std.proofs.Common.{sym, rules}
use Rattle.gno_grammar.specs.Readers.{first, null}
use Rattle.gno_grammar.proofs.Loops.{turn_shorter, turn_goes, go_end}
use Rattle.gno_reader.specs.Answers.{sees}
use Rattle.gno_reader.specs.Scope.{reads}
use Rattle.gno_reader.proofs.Turns.{turn_fails, repeat_going}
use Rattle.gno_rules.specs.Kinds.{code}
use Rattle.gno_rules.specs.Statements.{next_statement, with_statement, statements, first_statement, statement}
use Rattle.gno_rules.specs.Table.{grammar}
use Rattle.gno_grammar.specs.Phrases.{optional}
use Rattle.gno_rules.specs.Parts.{always, to}
use Rattle.gno_statements.proofs.Turns.{takes_next_statement}
use Rattle.gno_statements.proofs.blocks.statements.Goals as goal

pub returns-in_err-list-2 : goal.returns-in_err-list-2
unfolding first null next_statement sees
returns-in_err-list-2 g c =
    let e = turn_fails always (λ _. first (grammar (g.R.Reader.scope c.args.reader.now).text) (next_statement (g.R.Reader.scope c.args.reader.now).text)) (λ _. reads (g.R.Reader.scope c.args.reader.now) next_statement) with_statement _
    c.loop-tokens.list c.loop-tokens.tokens _ _ (sym c.loop-tokens-test.ensures) c.in_err-list-2.ensures c.loop-tokens.invariant in
    search (rules, e)

pub loop-tokens-smaller : goal.loop-tokens-smaller
loop-tokens-smaller g c = turn_shorter code always (λ _. first (grammar (g.R.Reader.scope c.args.reader.now).text) (next_statement (g.R.Reader.scope c.args.reader.now).text)) (λ _. reads (g.R.Reader.scope c.args.reader.now) next_statement) with_statement
    c.loop-tokens.list c.loop-tokens.tokens _ _ (λ b mid. takes_next_statement (g.R.Reader.scope c.args.reader.now) _ b mid) c.in_ok-list-2.ensures

pub loop-tokens-preserved : goal.loop-tokens-preserved
unfolding first null next_statement sees
loop-tokens-preserved g c = turn_goes code always (λ _. first (grammar (g.R.Reader.scope c.args.reader.now).text) (next_statement (g.R.Reader.scope c.args.reader.now).text)) (λ _. reads (g.R.Reader.scope c.args.reader.now) next_statement) with_statement _
    c.loop-tokens.list c.loop-tokens.tokens _ _ (λ b mid. takes_next_statement (g.R.Reader.scope c.args.reader.now) _ b mid) (sym c.loop-tokens-test.ensures) c.in_ok-list-2.ensures c.loop-tokens.invariant

pub returns : goal.returns
unfolding first null next_statement sees
returns g c = go_end code always (λ _. first (grammar (g.R.Reader.scope c.args.reader.now).text) (next_statement (g.R.Reader.scope c.args.reader.now).text)) (λ _. reads (g.R.Reader.scope c.args.reader.now) next_statement) with_statement _
    c.loop-tokens.list c.loop-tokens.tokens (sym c.loop-tokens-test.ensures) c.loop-tokens.invariant

pub loop-tokens-init : goal.loop-tokens-init
unfolding statements
loop-tokens-init g c = repeat_going (g.R.Reader.scope c.args.reader.now) always with_statement (λ text. to first_statement (optional (statement text))) next_statement c.args.tokens.now _ _ c.in_ok-list.ensures
