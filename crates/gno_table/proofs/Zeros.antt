-- What stands before the first byte 0.
use Rattle.std.proofs.Common.{◌≡◌, ℕ, List, [], ◌∷◌, ◌++◌, refl, subst}
use Rattle.std.specs.Prelude.{Bool, true, false, Some, ◌&&◌}
use Rattle.gno_base.specs.Number.{Number}
use Rattle.gno_machine.specs.Ints.{AreInts, IsInt}
use Rattle.gno_base.specs.Paths.{kind_of}
use Rattle.gno_base.specs.declared.path.PathKind.TheVariants.{Realm}
use Rattle.gno_base.proofs.PathBytes.{kind_no_zero}
use Rattle.gno_items.specs.Well.{has_no_zero}

and_true : (a b : Bool) → a && b ≡ true → (a ≡ true) × (b ≡ true)
and_true true b e = (refl, e)
and_true false b e = cc

zero_first : (bs : List ℕ) → has_no_zero (0 ∷ bs) ≡ true → ⊥
zero_first bs e = cc

at_zero : (b : ℕ) (bs : List ℕ) → b ≡ 0 → has_no_zero (b ∷ bs) ≡ true → ⊥
at_zero b bs z e = zero_first bs (subst (λ (n : ℕ). has_no_zero (n ∷ bs) ≡ true) z e)

pub no_zero_same : (a b x y : List ℕ) → has_no_zero a ≡ true → has_no_zero b ≡ true → a ++ 0 ∷ x ≡ b ++ 0 ∷ y → a ≡ b
no_zero_same [] [] x y p q e = refl
no_zero_same [] (b ∷ bs) x y p q e = absurd (at_zero b bs (cc) q)
no_zero_same (a ∷ as') [] x y p q e = absurd (at_zero a as' (cc) p)
no_zero_same (a ∷ as') (b ∷ bs) x y p q e =
    let t = no_zero_same as' bs x y (and_true _ _ p).1 (and_true _ _ q).1 cc in cc

pub realm_no_zero : (path : List ℕ) → kind_of path ≡ Some Realm → has_no_zero path ≡ true
realm_no_zero path e = kind_no_zero path Realm e

pub AreInts-push : (values : List Number) (value : Number) → AreInts values → IsInt value → AreInts (values ++ value ∷ [])
AreInts-push [] value p q = (q, tt)
AreInts-push (v ∷ vs) value p q = (p.0, AreInts-push vs value p.1 q)

pub ruleset ints_push = (AreInts-push)
