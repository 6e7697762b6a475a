-- The operators of a level, where no earlier case of the definition fits.
use Rattle.std.proofs.Common.{◌≡◌, ◌≢◌, refl, ℕ, zero, suc, [], ◌∷◌}
use Rattle.gno_scan.specs.declared.kind.TokenKind.TheVariants as k
use Rattle.gno_rules.specs.Shapes.{operators, operators_behind}
use Rattle.gno_rules.specs.declared.types.TypeEnd.TheVariants.{Open}

pub loosest : (n : ℕ) → n ≢ 0 → n ≢ 1 → n ≢ 2 → n ≢ 3 → operators n ≡ k.OneTrue ∷ []
loosest zero a b c d = absurd (a refl)
loosest (suc zero) a b c d = absurd (b refl)
loosest (suc (suc zero)) a b c d = absurd (c refl)
loosest (suc (suc (suc zero))) a b c d = absurd (d refl)
loosest (suc (suc (suc (suc n)))) a b c d = refl

pub looser_behind_open : (n : ℕ) → n ≢ 0 → operators_behind Open n ≡ operators n
looser_behind_open zero a = absurd (a refl)
looser_behind_open (suc n) a = refl
