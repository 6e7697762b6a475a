use Rattle.std.proofs.Common.{sym, ◌∙◌, subst}
use Rattle.std.proofs.lemmas.Option.{same_Some}
use Rattle.gno_embedding.specs.Reaching.{AreReached, IsReach}
use Rattle.gno_selectors.proofs.Complete.{not_blocked}
use Rattle.gno_terms.specs.Tables.{deep}
use Rattle.gno_terms.specs.declared.term.GoType.{GoType}
use Rattle.gno_selectors.proofs.select.find_embedded.Goals as goal

pub follow_embedded-requires-clause-number : goal.follow_embedded-requires-clause-number
follow_embedded-requires-clause-number c t is = c.have_one_number.ensures t c.args.number _ is c.term-term.ensures.is

pub unreachable-requires : goal.unreachable-requires
unreachable-requires c =
    let table = c.args.rows.now in
    let s = deep table.types c.term-term.result.now in
    not_blocked table s c.in-Blocked.field-0 (subst (IsReach table s) c.in-Blocked.is c.in_ok-reached.ensures) (c.requires.complete s c.term-term.ensures.is)

pub find_among-requires-clause-reached : goal.find_among-requires-clause-reached
find_among-requires-clause-reached c s is =
    let table = c.args.rows.now in
    let own = deep table.types c.term-term.result.now in
    subst (λ (u : GoType). AreReached table u c.as_slice.result.now) (same_Some own s (sym c.term-term.ensures.is ∙ is))
    (subst (AreReached table own) (sym c.as_slice.ensures) (subst (IsReach table own) c.in-All.is c.in_ok-reached.ensures))
