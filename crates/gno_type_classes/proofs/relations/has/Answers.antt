use Rattle.std.proofs.Common.{refl, sym, ◌∙◌, rules}
use Rattle.gno_embedding.specs.Embedding.{base}
use Rattle.gno_type_classes.specs.Unnumbered.{unnumbered}
use Rattle.gno_type_classes.proofs.SameDefinitions.{complete_same, implements_same, underlying_same}
use Rattle.gno_type_classes.proofs.relations.has.Goals as goal

pub returns-then-are_found : goal.returns-then-are_found
returns-then-are_found c s u is own =
    let table = c.args.types.now in
    let seen = unnumbered table in
    let found = (c.are_found.ensures.both s u is own).0 c.if-are_found.true in
    let its = c.implements.ensures s u is own in (
      λ y. record { complete = complete_same table seen refl (base s) found.0; implements = implements_same table seen refl s u (its.0 y) },
      λ h. its.1 (implements_same seen table refl s u h.implements),
    )

pub returns-else-are_found : goal.returns-else-are_found
returns-else-are_found c s u is own =
    let table = c.args.types.now in
    let seen = unnumbered table in (
      λ e. absurd (search (rules, e)),
      λ h. search (
        rules,
        sym c.if-are_found.false
            ∙ (c.are_found.ensures.both s u is own).1 (complete_same seen table refl (base s) h.complete, (h.implements.underlying, underlying_same seen table refl u h.implements.underlying h.implements.by)),
      ),
    )
