use Rattle.std.proofs.Common.{rules, sym, ◌∙◌, subst, not, List, [], ◌∷◌, ◌++◌, ap, refl, false}
use Rattle.gno_grammar.proofs.Loops.{Going, go_on, go_end}
use Rattle.gno_reader.specs.Lists.{further, items}
use Rattle.gno_rules.specs.Kinds.{code, numbers}
use Rattle.gno_rules.specs.Parts.{with_item}
use Rattle.gno_reader.proofs.Lists.{goes_on_is, items_fails, items_going}
use Rattle.gno_reader.proofs.Turns.{step_fails}
use Rattle.gno_reader.proofs.list.listed.Goals as goal

pub returns-in_err-first : goal.returns-in_err-first
returns-in_err-first g c = λ read h.
    let e = items_fails c.args.separator c.args.begin.now read c.args.tokens.now _ _ (h.answers _ _ _ c.in_err-first.ensures) in
    search (rules, e)

pub loop-separator-init : goal.loop-separator-init
loop-separator-init g c = λ read h.
    items_going c.args.separator c.args.begin.now read c.args.tokens.now _ _ _ (h.answers _ _ _ c.in_ok-first.ensures) (c.in_ok-list.ensures ∙ ap (λ l. (l ++ c.in_ok-first.first ∷ [], false)) c.new.ensures)

pub returns-in_err-next : goal.returns-in_err-next
returns-in_err-next g c = λ read h.
    let e = step_fails (λ xs. not xs.1) (λ _. numbers (c.args.separator ∷ [])) (λ _. further c.args.separator c.args.begin.now read) with_item _
    c.loop-separator.list c.loop-separator.tokens _ _ (goes_on_is c.args.separator c.args.begin.now read _ _ ∙ sym c.loop-separator-test.ensures) (c.in_err-next.ensures.item read h) (c.loop-separator.invariant read h) in
    search (rules, e)

pub loop-separator-preserved : goal.loop-separator-preserved
loop-separator-preserved g c = λ read h.
    subst (λ v. Going code (λ xs. not xs.1) (λ _. numbers (c.args.separator ∷ [])) (λ _. further c.args.separator c.args.begin.now read) with_item (items c.args.separator c.args.begin.now read c.args.tokens.now) v c.further.new.tokens)
    (sym c.in_ok-list-2.ensures)
    (go_on code (λ xs. not xs.1) (λ _. numbers (c.args.separator ∷ [])) (λ _. further c.args.separator c.args.begin.now read) with_item (items c.args.separator c.args.begin.now read c.args.tokens.now)
    c.loop-separator.list c.loop-separator.tokens _ _ (goes_on_is c.args.separator c.args.begin.now read _ _ ∙ sym c.loop-separator-test.ensures) (c.in_ok-next.ensures.item read h) c.in_ok-next.ensures.shorter (c.loop-separator.invariant read h))

pub returns : goal.returns
returns g c = λ read h.
    go_end code (λ xs. not xs.1) (λ _. numbers (c.args.separator ∷ [])) (λ _. further c.args.separator c.args.begin.now read) with_item _
    c.loop-separator.list c.loop-separator.tokens (goes_on_is c.args.separator c.args.begin.now read _ _ ∙ sym c.loop-separator-test.ensures) (c.loop-separator.invariant read h)
