use Rattle.std.proofs.Common.{refl, ap, ◌∙◌, rules}
use Rattle.gno_terms.specs.Normal.{normal}
use Rattle.gno_type_classes.proofs.Converting.{same_pointed}
use Rattle.gno_type_classes.proofs.pointers.are_pointers.Goals as goal

pub returns-in-Some-under_pointer : goal.returns-in-Some-under_pointer
returns-in-Some-under_pointer c s u is own =
    let a = c.in-Some.ensures.some s is in
    let b = c.in-Some-under_pointer.ensures.some u own in
    let same = c.identical.ensures a.1 b.1 a.4 b.4 in
    let one = c.have_one_definition.ensures in (
      λ y. record { from = a.0; is_from = a.2; to = b.0; is_to = b.2; from_underlying = a.1; from_by = a.3; to_underlying = b.1; to_by = b.3; identical = same.0 y },
      λ p. same.1 (ap normal (same_pointed c.args.types.now one s a.0 p.from a.1 p.from_underlying a.2 p.is_from a.3 p.from_by) ∙ p.identical
          ∙ ap normal (same_pointed c.args.types.now one u p.to b.0 p.to_underlying b.1 p.is_to b.2 p.to_by b.3)),
    )

pub returns-in-None-under_pointer : goal.returns-in-None-under_pointer
returns-in-None-under_pointer c s u is own = (λ e. absurd (search (rules, e)), λ p. absurd (c.in-None-under_pointer.ensures.none refl u p.to p.to_underlying own p.is_to p.to_by))

pub returns-in-None : goal.returns-in-None
returns-in-None c s u is own = (λ e. absurd (search (rules, e)), λ p. absurd (c.in-None.ensures.none refl s p.from p.from_underlying is p.is_from p.from_by))
