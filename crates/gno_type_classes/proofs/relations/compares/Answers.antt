use Rattle.std.proofs.Common.{refl, sym, ◌∙◌, rules}
use Rattle.gno_type_classes.specs.Unnumbered.{unnumbered}
use Rattle.gno_type_classes.proofs.SameDefinitions.{comparable_same, slots_same}
use Rattle.gno_type_classes.proofs.relations.compares.Goals as goal

pub returns-then-is_sized : goal.returns-then-is_sized
returns-then-is_sized c s is =
    let table = c.args.types.now in
    let n = (c.is_sized.ensures s is).0 c.if-is_sized.true in (
      λ y. record { slots = n.0; sized = slots_same table (unnumbered table) refl s n.0 n.1; comparable = comparable_same table (unnumbered table) refl s ((c.comparable.ensures s is).0 y) },
      λ h. (c.comparable.ensures s is).1 (comparable_same (unnumbered table) table refl s h.comparable),
    )

pub returns-else-is_sized : goal.returns-else-is_sized
returns-else-is_sized c s is =
    let table = c.args.types.now in
    (λ e. absurd (search (rules, e)), λ h. search (rules, sym c.if-is_sized.false ∙ (c.is_sized.ensures s is).1 (h.slots, slots_same (unnumbered table) table refl s h.slots h.sized)))
