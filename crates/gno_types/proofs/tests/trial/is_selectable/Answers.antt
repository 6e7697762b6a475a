use Rattle.std.proofs.Common.{◌≡◌, sym, ap, ◌∙◌, subst}
use Rattle.gno_embedding.proofs.Opened.{stays_there, type_is}
use Rattle.gno_embedding.specs.Embedding.{IsComplete, base}
use Rattle.gno_terms.specs.Tables.{type_at}
use Rattle.gno_types.proofs.tests.trial.is_selectable.Goals as goal

pub returns-in_default-clause-complete : goal.returns-in_default-clause-complete
returns-in_default-clause-complete c y s is =
    let table = c.args.types.now in
    let at : type_at table.types c.args.t ≡ s = type_is table.types c.args.t s is in
    let same : type_at table.types c.args.t ≡ base (type_at table.types c.args.t) = (stays_there table.types c.args.t c.term.result.now c.term.ensures.is c.in_default.not-Pointer).0 in
    subst (IsComplete table) (sym (ap base at) ∙ sym same ∙ at) (c.is_complete.ensures.complete c.if-not-is_complete.false s is)
