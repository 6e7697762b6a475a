use Rattle.std.proofs.Common.{◌≤◌, ◌∙◌, subst, sym, ℕ}
use Rattle.gno_literals.proofs.IntegerForms.{if_value, no_integer, no_integer_empty, not_empty, now_empty, same_read}
use Rattle.gno_literals.proofs.integer.integer_value.Goals as goal

pub returns-then-is_empty-clause-none : goal.returns-then-is_empty-clause-none
returns-then-is_empty-clause-none c = λ _.
    let word = c.args.word.now in
    no_integer_empty word (now_empty word c.prefix_of-prefix.result.length c.prefix_of-prefix.ensures.count (sym c.is_empty.ensures ∙ c.if-is_empty.true))

pub returns-clause-value : goal.returns-clause-value
returns-clause-value c =
    let word = c.args.word.now in
    let p = c.prefix_of-prefix in
    if_value word c.digits_value.result p.ensures.most p.ensures.base (not_empty word p.result.length p.ensures.count (sym c.is_empty.ensures ∙ c.if-is_empty.false))
    (c.digits_value.ensures ∙ same_read word p.result.base p.result.length p.ensures.base p.ensures.count)

pub returns-clause-none : goal.returns-clause-none
returns-clause-none c = λ none.
    let word = c.args.word.now in
    let p = c.prefix_of-prefix in
    no_integer word (subst (λ (n : ℕ). 2 ≤ n) p.ensures.base p.ensures.least) (sym (c.digits_value.ensures ∙ same_read word p.result.base p.result.length p.ensures.base p.ensures.count) ∙ none)
