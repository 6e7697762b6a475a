use Rattle.std.proofs.Common.{◌≡◌, sym, ◌∙◌, inl, inr, false, rules, Bool}
use Rattle.std.specs.Prelude.{IsTrue, ◌↔◌, ◌⊎◌}
use Rattle.gno_assignability.proofs.values.takes_values.Goals as goal

second : {P Q : Type 0} (p q : Bool) → p ≡ false → (IsTrue p ↔ P) → (IsTrue q ↔ Q) → IsTrue q ↔ (P ⊎ Q)
second {P} {Q} p q e f g = (λ y. inr (g.0 y), back)
  where
    back : P ⊎ Q → IsTrue q
    back (inl x) = absurd (search (rules, sym e ∙ f.1 x))
    back (inr y) = g.1 y

pub returns-else-implements : goal.returns-else-implements
returns-else-implements c s u is own = second c.implements.result c.have_one_underlying.result c.if-implements.false (c.implements.ensures s u is own) (c.have_one_underlying.ensures s u is own)
