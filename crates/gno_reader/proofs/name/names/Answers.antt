use Rattle.std.proofs.Common.{refl, sym, ◌∙◌, rules, subst, ap, [], ◌∷◌, ◌++◌}
use Rattle.gno_grammar.specs.Readers.{first, null}
use Rattle.gno_grammar.proofs.Loops.{Going, go_on, go_end}
use Rattle.gno_reader.specs.Scope.{reads}
use Rattle.gno_rules.specs.Kinds.{code}
use Rattle.gno_rules.specs.Parts.{always, one, to, with_last, name, names}
use Rattle.gno_rules.specs.Table.{grammar}
use Rattle.gno_reader.proofs.Turns.{further_name, read_to, repeat_going, step_fails, takes_further_name, sees_further_name}
use Rattle.gno_reader.proofs.name.names.Goals as goal

pub returns-in_err-further_name : goal.returns-in_err-further_name
returns-in_err-further_name g c =
    let e = step_fails always (λ _. first (grammar (g.R.Reader.scope c.args.reader.now).text) (further_name (g.R.Reader.scope c.args.reader.now).text)) (λ _. reads (g.R.Reader.scope c.args.reader.now) further_name) with_last _
    c.loop-names.names c.loop-names.tokens _ _ (sees_further_name (g.R.Reader.scope c.args.reader.now) c.loop-names.tokens ∙ sym c.loop-names-test.ensures) c.in_err-further_name.ensures c.loop-names.invariant in
    search (rules, e)

pub loop-names-smaller : goal.loop-names-smaller
loop-names-smaller g c = takes_further_name (g.R.Reader.scope c.args.reader.now) _ _ _ c.in_ok-further_name.ensures

pub loop-names-init : goal.loop-names-init
unfolding names
loop-names-init g c =
    subst (λ v. Going code always (λ _. first (grammar (g.R.Reader.scope c.args.reader.now).text) (further_name (g.R.Reader.scope c.args.reader.now).text)) (λ _. reads (g.R.Reader.scope c.args.reader.now) further_name) with_last (reads (g.R.Reader.scope c.args.reader.now) names c.args.tokens.now) v c.name.new.tokens)
    (sym (c.in_ok-push.ensures.ok ∙ ap (λ l. l ++ c.in_ok-name.field-0 ∷ []) c.new-names.ensures))
    (repeat_going (g.R.Reader.scope c.args.reader.now) always with_last (λ text. to one (name text)) further_name c.args.tokens.now _ c.name.new.tokens (read_to (g.R.Reader.scope c.args.reader.now) one name c.args.tokens.now _ c.name.new.tokens c.in_ok-name.ensures))

pub loop-names-preserved : goal.loop-names-preserved
loop-names-preserved g c =
    subst (λ v. Going code always (λ _. first (grammar (g.R.Reader.scope c.args.reader.now).text) (further_name (g.R.Reader.scope c.args.reader.now).text)) (λ _. reads (g.R.Reader.scope c.args.reader.now) further_name) with_last (reads (g.R.Reader.scope c.args.reader.now) names c.args.tokens.now) v c.further_name.new.tokens)
    (sym c.in_ok-push-2.ensures.ok)
    (go_on code always (λ _. first (grammar (g.R.Reader.scope c.args.reader.now).text) (further_name (g.R.Reader.scope c.args.reader.now).text)) (λ _. reads (g.R.Reader.scope c.args.reader.now) further_name) with_last (reads (g.R.Reader.scope c.args.reader.now) names c.args.tokens.now)
    c.loop-names.names c.loop-names.tokens _ _ (sees_further_name (g.R.Reader.scope c.args.reader.now) c.loop-names.tokens ∙ sym c.loop-names-test.ensures) c.in_ok-further_name.ensures (takes_further_name (g.R.Reader.scope c.args.reader.now) _ _ _ c.in_ok-further_name.ensures) c.loop-names.invariant)

pub returns : goal.returns
returns g c =
    go_end code always (λ _. first (grammar (g.R.Reader.scope c.args.reader.now).text) (further_name (g.R.Reader.scope c.args.reader.now).text)) (λ _. reads (g.R.Reader.scope c.args.reader.now) further_name) with_last _
    c.loop-names.names c.loop-names.tokens (sees_further_name (g.R.Reader.scope c.args.reader.now) c.loop-names.tokens ∙ sym c.loop-names-test.ensures) c.loop-names.invariant
