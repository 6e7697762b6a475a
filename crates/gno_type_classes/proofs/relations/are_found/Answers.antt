use Rattle.std.proofs.Common.{refl, sym, ◌∙◌, rules}
use Rattle.gno_type_classes.specs.Unnumbered.{unnumbered}
use Rattle.gno_type_classes.proofs.SameDefinitions.{known_same}
use Rattle.gno_type_classes.proofs.relations.are_found.Goals as goal

pub returns-then-is_complete-clause-both : goal.returns-then-is_complete-clause-both
returns-then-is_complete-clause-both c s u is own =
    let table = c.args.types.now in (
      λ y. ((c.is_complete.ensures s is).0 c.if-is_complete.true, known_same (unnumbered table) table refl u ((c.is_known.ensures u own).0 y)),
      λ h. (c.is_known.ensures u own).1 (known_same table (unnumbered table) refl u h.1),
    )

pub returns-else-is_complete-clause-both : goal.returns-else-is_complete-clause-both
returns-else-is_complete-clause-both c s u is own = (λ e. absurd (search (rules, e)), λ h. search (rules, sym c.if-is_complete.false ∙ (c.is_complete.ensures s is).1 h.0))
