use Rattle.std.proofs.Common.{rules, sym, ◌<◌, length, arith}
use Rattle.gno_reader.proofs.Lists.{further_fails, further_item_fails, further_some, further_none, one_shorter}
use Rattle.gno_reader.proofs.list.further.Goals as goal

pub returns-in_err-expect-clause-item : goal.returns-in_err-expect-clause-item
returns-in_err-expect-clause-item g c = λ read h.
    let e = further_fails c.args.separator c.args.begin.now read c.args.tokens.now _ _ c.in_err-expect.ensures in
    search (rules, e)

pub returns-in_err-item-clause-item : goal.returns-in_err-item-clause-item
returns-in_err-item-clause-item g c = λ read h.
    let a = h.answers _ _ _ c.in_err-item.ensures in
    let e = further_item_fails c.args.separator c.args.begin.now read c.args.tokens.now _ _ _ _ c.in_ok-expect.ensures (sym c.if-sees_any.ensures) a in
    search (rules, e)

pub returns-then-sees_any-clause-item : goal.returns-then-sees_any-clause-item
returns-then-sees_any-clause-item g c = λ read h.
    further_some c.args.separator c.args.begin.now read c.args.tokens.now _ _ _ _ c.in_ok-expect.ensures (sym c.if-sees_any.ensures) (h.answers _ _ _ c.in_ok-item.ensures)

pub returns-then-sees_any-clause-shorter : goal.returns-then-sees_any-clause-shorter
returns-then-sees_any-clause-shorter g c =
    let (read, h) = c.requires in
    let a = one_shorter c.args.separator c.args.tokens.now _ _ c.in_ok-expect.ensures in
    let b = h.takes _ _ _ (h.answers _ _ _ c.in_ok-item.ensures) in
    omega (arith, a, b)

pub returns-clause-item : goal.returns-clause-item
returns-clause-item g c = λ read h. further_none c.args.separator c.args.begin.now read c.args.tokens.now _ _ c.in_ok-expect.ensures (sym c.if-sees_any.ensures)

pub returns-clause-shorter : goal.returns-clause-shorter
returns-clause-shorter g c =
    let (read, h) = c.requires in
    one_shorter c.args.separator c.args.tokens.now _ _ c.in_ok-expect.ensures
