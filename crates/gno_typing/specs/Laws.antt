-- What holds of every rule.
use Rattle.std.specs.Prelude.{◌≡◌, [], Some}
use Rattle.gno_typing.specs.Verdicts.{Verdict}

-- a node without a fault, in it or in its parts, has a form
abbrev pub HasForm : {A : Type 0} → (Verdict A → Type 0) → Type 0
HasForm {A = A} J = (v : Verdict A) → J v → v.faults ≡ [] → (a : A) × (v.form ≡ Some a)

-- one verdict is right at most
abbrev pub HasOne : {A : Type 0} → (Verdict A → Type 0) → Type 0
HasOne {A = A} J = (v w : Verdict A) → J v → J w → v ≡ w
