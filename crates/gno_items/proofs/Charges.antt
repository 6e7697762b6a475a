-- The charges for one variable.
use Rattle.std.proofs.Common.{◌≡◌, ℕ, suc, ◌+◌, ◌-◌, ◌≤◌, ◌<◌, ap, arith}
use Rattle.std.specs.Prelude.{false, nat_lt}
use Rattle.std.proofs.lemmas.Bool.Decides.{nat_tests}
use Rattle.gno_items.specs.Adding.{charge_variables}

pub fits : (left : ℕ) → 1 ≤ left → nat_lt left 1 ≡ false
fits left h = grind (arith, nat_tests)

pub charged : (n left a b : ℕ) → 1 ≤ left → a ≡ left - 1 → 1 ≤ a → b ≡ a - 1 → charge_variables (suc n) left ≡ charge_variables n b
charged n left a b h e k f =
    let g : 1 ≤ left - 1 = omega (arith, e, k) in
    rw (fits left h, fits (left - 1) g) (ap (charge_variables n) (omega (arith, e, f)))

pub one_less : (count at : ℕ) → at < count → count - at ≡ suc (count - (at + 1))
one_less count at h = omega (arith, h)
