use Rattle.std.proofs.Common.{refl, sym, ◌∙◌, rules}
use Rattle.gno_terms.specs.Tables.{type_at}
use Rattle.gno_type_classes.proofs.kinds.has_kind.Goals as goal

pub returns-in-Some : goal.returns-in-Some
returns-in-Some c s is =
    let under = c.in-Some.ensures.some s is in
    let own = c.is_of_kind.ensures (type_at c.args.types.now.types) in (
      λ y. (under.known.0, under.known.1, under.is under.known.0 under.known.1 ∙ own.0 y),
      λ h. own.1 (sym (under.is h.0 h.1) ∙ h.2),
    )

pub returns-in-None : goal.returns-in-None
returns-in-None c s is = (λ e. absurd (search (rules, e)), λ h. absurd (c.in-None.ensures.none refl s is (h.0, h.1)))
