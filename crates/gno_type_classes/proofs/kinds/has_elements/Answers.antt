use Rattle.std.proofs.Common.{refl, sym, ap, ◌∙◌, subst, length, rules}
use Rattle.gno_method_sets.proofs.Rows.{there}
use Rattle.gno_terms.specs.Tables.{PartsBelow, Underlying, type_at}
use Rattle.gno_terms.specs.Terms.{term_with}
use Rattle.gno_terms.specs.declared.term.GoType.{GoType}
use Rattle.gno_type_classes.specs.Unnumbered.{unnumbered}
use Rattle.gno_type_classes.proofs.OtherParts.{no_slice, one_element}
use Rattle.gno_type_classes.proofs.kinds.has_elements.Goals as goal

pub returns-in-Some : goal.returns-in-Some
returns-in-Some c u row =
    let of = type_at c.args.types.now.types c.in-Some.of in
    let is = row ∙ ap (term_with (type_at c.args.types.now.types)) c.in-Some.ensures.some in
    let own = c.has_kind.ensures of (there c.args.types.now c.in-Some.of (subst (PartsBelow (length c.args.types.now.types)) c.in-Some.ensures.some c.requires).0) in (
      λ y. let h = own.0 y in record { element = of; is_slice = is; underlying = h.0; by = h.1; is = h.2 },
      λ h. own.1 (h.underlying, subst (λ (x : GoType). Underlying (unnumbered c.args.types.now) x h.underlying) (sym (one_element of h.element (sym is ∙ h.is_slice))) h.by, h.is),
    )

pub returns-in-None : goal.returns-in-None
returns-in-None c u row = (λ e. absurd (search (rules, e)), λ h. absurd (no_slice (type_at c.args.types.now.types) c.args.row.now (c.in-None.ensures.none refl) h.element (sym row ∙ h.is_slice)))
