-- The variables stay ints, and each function of a lawful file is lawful.
use Rattle.std.proofs.Common.{◌≡◌, ℕ, zero, suc, ◌<◌, List, [], ◌∷◌, arith, length, refl, set, subst}
use Rattle.std.specs.Prelude.{Some, slice_get}
use Rattle.gno_first.specs.declared.tree.FirstFunc.{FirstFunc}
use Rattle.gno_first.specs.Lawful.{AreFuncsIn, IsBodyIn}
use Rattle.std.proofs.lemmas.Int.{ints}
use Rattle.gno_base.specs.Number.{Number}
use Rattle.gno_base.specs.declared.kind.Kind.TheVariants.{Int}
use Rattle.gno_machine.specs.Meaning.{int_of, value_at}
use Rattle.gno_machine.specs.Ints.{AreInts, IsInt}

pub AreInts-set : (values : List Number) (n : ℕ) (x : Number) → AreInts values → IsInt x → AreInts (set values n x)
AreInts-set [] n x p e = p
AreInts-set (v ∷ vs) zero x p e = (e, p.1)
AreInts-set (v ∷ vs) (suc n) x p e = (p.0, AreInts-set vs n x p.1 e)

pub zero_int : IsInt (int_of 0)
zero_int = (refl, (omega (arith, ints), omega (arith, ints)))

pub IsInt-value_at : (values : List Number) (n : ℕ) → AreInts values → IsInt (value_at values n)
IsInt-value_at [] n p = zero_int
IsInt-value_at (v ∷ vs) zero p = p.0
IsInt-value_at (v ∷ vs) (suc n) p = IsInt-value_at vs n p.1

pub body-at : (count : ℕ) (fs : List FirstFunc) (at : ℕ) (f : FirstFunc) → AreFuncsIn count fs → slice_get fs at ≡ Some f → IsBodyIn count f.has_int f.body
body-at count [] at f l e = cc
body-at count (g ∷ fs) zero f l e = let same : g ≡ f = cc in subst (λ (h : FirstFunc). IsBodyIn count h.has_int h.body) same l.0
body-at count (g ∷ fs) (suc n) f l e = body-at count fs n f l.1 e
