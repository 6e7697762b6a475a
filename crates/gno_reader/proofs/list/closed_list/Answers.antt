use Rattle.std.proofs.Common.{rules, sym, ◌∙◌, ap}
use Rattle.gno_grammar.specs.Readers.{got}
use Rattle.gno_reader.proofs.Lists.{closed, closed_end_fails, closed_items_fail, closed_none, closed_none_fails}
use Rattle.gno_reader.proofs.list.closed_list.Goals as goal

pub returns-in_err-expect : goal.returns-in_err-expect
returns-in_err-expect g c = λ read h.
    let e = closed_none_fails c.args.separator c.args.begin.now read c.args.closer c.args.tokens.now _ _ (sym c.if-sees.ensures) c.in_err-expect.ensures in
    search (rules, e)

pub returns-then-sees : goal.returns-then-sees
returns-then-sees g c = λ read h.
    closed_none c.args.separator c.args.begin.now read c.args.closer c.args.tokens.now _ _ (sym c.if-sees.ensures) c.in_ok-expect.ensures ∙ ap (λ l. got l c.expect.new.self) (sym c.new.ensures)

pub returns-in_err-items : goal.returns-in_err-items
returns-in_err-items g c = λ read h.
    let e = closed_items_fail c.args.separator c.args.begin.now read c.args.closer c.args.tokens.now _ _ (sym c.if-sees.ensures) (c.in_err-items.ensures read h) in
    search (rules, e)

pub returns-in_err-expect-2 : goal.returns-in_err-expect-2
returns-in_err-expect-2 g c = λ read h.
    let e = closed_end_fails c.args.separator c.args.begin.now read c.args.closer c.args.tokens.now _ _ _ _ (sym c.if-sees.ensures) (c.in_ok-items.ensures read h) c.in_err-expect-2.ensures in
    search (rules, e)

pub returns : goal.returns
returns g c = λ read h.
    closed c.args.separator c.args.begin.now read c.args.closer c.args.tokens.now _ _ _ _ (sym c.if-sees.ensures) (c.in_ok-items.ensures read h) c.in_ok-expect-2.ensures
