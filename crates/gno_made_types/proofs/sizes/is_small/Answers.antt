use Rattle.std.proofs.Common.{refl, sym, ◌∙◌, rules, arith, ◌≤◌}
use Rattle.gno_tree_typing.specs.WrittenTypes.{slot_limit}
use Rattle.gno_type_classes.proofs.SameDefinitions.{slots_same}
use Rattle.gno_type_classes.specs.Unnumbered.{unnumbered}
use Rattle.gno_made_types.proofs.sizes.is_small.Goals as goal

pub returns-then-not-is_sized : goal.returns-then-not-is_sized
returns-then-not-is_sized c s is =
    let table = c.args.types.now in
    (λ e. absurd (search (rules, e)), λ h. search (rules, sym c.if-not-is_sized.true ∙ (c.is_sized.ensures s is).1 (h.slots, slots_same (unnumbered table) table refl s h.slots h.has)))

pub returns : goal.returns
returns c s is =
    let table = c.args.types.now in
    let n = (c.is_sized.ensures s is).0 c.if-not-is_sized.false in (
      λ y. let within : n.0 ≤ slot_limit = search (rules, arith, y, c.slots.ensures s n.0 is n.1) in record { slots = n.0; has = slots_same table (unnumbered table) refl s n.0 n.1; within = within },
      λ h. search (rules, arith, h.within, c.slots.ensures s h.slots is (slots_same (unnumbered table) table refl s h.slots h.has)),
    )
