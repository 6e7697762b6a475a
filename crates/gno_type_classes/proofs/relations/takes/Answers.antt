use Rattle.std.proofs.Common.{refl, sym, ◌∙◌, None, rules}
use Rattle.gno_embedding.specs.Embedding.{base}
use Rattle.gno_type_classes.specs.Unnumbered.{unnumbered}
use Rattle.gno_type_classes.proofs.SameDefinitions.{assignable_same, complete_same, known_same}
use Rattle.gno_type_classes.proofs.relations.takes.Goals as goal

pub returns-then-are_found : goal.returns-then-are_found
returns-then-are_found c u s own is =
    let table = c.args.types.now in
    let seen = unnumbered table in
    let found = (c.are_found.ensures.both s u is own).0 c.if-are_found.true in
    let its = c.assignable.ensures s u is own in (
      λ y. record { complete = complete_same table seen refl (base s) found.0; known = known_same table seen refl u found.1; assignable = assignable_same table seen refl s None u (its.0 y) },
      λ h. its.1 (assignable_same seen table refl s None u h.assignable),
    )

pub returns-else-are_found : goal.returns-else-are_found
returns-else-are_found c u s own is =
    let table = c.args.types.now in
    let seen = unnumbered table in
    (λ e. absurd (search (rules, e)), λ h. search (rules, sym c.if-are_found.false ∙ (c.are_found.ensures.both s u is own).1 (complete_same seen table refl (base s) h.complete, known_same seen table refl u h.known)))
