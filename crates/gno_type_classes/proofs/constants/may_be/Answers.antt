use Rattle.std.proofs.Common.{◌≡◌, sym, ◌∙◌, inl, inr, false, rules, Bool}
use Rattle.std.specs.Prelude.{IsTrue, ◌↔◌, ◌⊎◌}
use Rattle.gno_terms.specs.Lawful.{is_untyped}
use Rattle.gno_terms.specs.Terms.{term_of}
use Rattle.gno_type_classes.proofs.constants.may_be.Goals as goal

second : {P : Type 0} (p q : Bool) → p ≡ false → (IsTrue q ↔ P) → IsTrue q ↔ (IsTrue p ⊎ P)
second {P} p q e g = (λ y. inr (g.0 y), back)
  where
    back : IsTrue p ⊎ P → IsTrue q
    back (inl x) = absurd (search rules)
    back (inr y) = g.1 y

pub returns-else-is_untyped : goal.returns-else-is_untyped
returns-else-is_untyped c s is = second (is_untyped (term_of s)) c.is_representable.result (sym (c.is_untyped.ensures s is) ∙ c.if-is_untyped.false) (c.is_representable.ensures s is)
