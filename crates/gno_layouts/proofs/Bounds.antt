-- The bound of layouts may be taken at each step or in the end.
use Rattle.std.proofs.Common.{◌≡◌, refl, sym, ap, ◌∙◌, ℕ, zero, suc, ◌+◌, ◌*◌, ◌-◌, ◌^◌, ◌≤◌, min, ◌&&◌, inl, inr, arith}
use Rattle.std.specs.Prelude.{◌⊎◌}
use Rattle.std.proofs.Math.Bool.{and_comm, and_assoc}
use native.Mathlib.Nat.{suc-mul}
use Rattle.gno_layouts.specs.declared.row.Layout.{Layout}
use Rattle.gno_layouts.specs.declared.row.Row.{Row}
use Rattle.gno_layouts.specs.declared.row.Row.TheVariants as r
use Rattle.gno_layouts.specs.Layouts.{together, whole, saturated}

with_slots : Layout → ℕ → Layout
with_slots a n = record { slots = n; comparable = a.comparable }

pub together_comm : (a b : Layout) → together a b ≡ together b a
together_comm a b =
    let s : a.slots + b.slots ≡ b.slots + a.slots = omega arith in
    let c = and_comm a.comparable b.comparable in
    λ i. record { slots = s i; comparable = c i }

pub together_assoc : (a b c : Layout) → together (together a b) c ≡ together a (together b c)
together_assoc a b c =
    let s : a.slots + b.slots + c.slots ≡ a.slots + (b.slots + c.slots) = omega arith in
    let t = and_assoc a.comparable b.comparable c.comparable in
    λ i. record { slots = s i; comparable = t i }

sum_bound : (a b m : ℕ) → min (min a m + b) m ≡ min (a + b) m
sum_bound a b m = omega arith

pub saturated_left : (a b : Layout) → saturated (together (saturated a) b) ≡ saturated (together a b)
saturated_left a b = let s = sum_bound a.slots b.slots (2 ^ 64 - 1) in λ i. record { slots = s i; comparable = a.comparable && b.comparable }

pub saturated_right : (a b : Layout) → saturated (together a (saturated b)) ≡ saturated (together a b)
saturated_right a b = ap saturated (together_comm a (saturated b)) ∙ saturated_left b a ∙ ap saturated (together_comm b a)

pub saturated_twice : (a : Layout) → saturated (saturated a) ≡ saturated a
saturated_twice a = let s : min (min a.slots (2 ^ 64 - 1)) (2 ^ 64 - 1) ≡ min a.slots (2 ^ 64 - 1) = omega arith in λ i. record { slots = s i; comparable = a.comparable }

-- the lesser is the one, or the other is no more
which : (a m : ℕ) → (min a m ≡ a) ⊎ (m ≤ a)
which zero m = inl (omega arith)
which (suc a) zero = inr (omega arith)
which (suc a) (suc m) = further (which a m)
  where
    further : (min a m ≡ a) ⊎ (m ≤ a) → (min (suc a) (suc m) ≡ suc a) ⊎ (suc m ≤ suc a)
    further (inl e) = inl (omega (arith, e))
    further (inr h) = inr (omega (arith, h))

no_less : (n a : ℕ) → a ≤ suc n * a
no_less n a = let e = suc-mul n a in omega (arith, e)

times_past : (n a m : ℕ) → m ≤ a → min (1 + suc n * m) m ≡ min (1 + suc n * a) m
times_past n a m h = let p = no_less n m in let q = no_less n a in omega (arith, p, q, h)

times_bound : (n a m : ℕ) → min (1 + n * min a m) m ≡ min (1 + n * a) m
times_bound zero a m = omega arith
times_bound (suc n) a m = by (which a m)
  where
    by : (min a m ≡ a) ⊎ (m ≤ a) → min (1 + suc n * min a m) m ≡ min (1 + suc n * a) m
    by (inl e) = ap (λ k. min (1 + suc n * k) m) e
    by (inr h) = let k : min a m ≡ m = omega (arith, h) in ap (λ p. min (1 + suc n * p) m) k ∙ times_past n a m h

one_bound : (a m : ℕ) → min (1 + min a m) m ≡ min (1 + a) m
one_bound a m = omega arith

pub saturated_whole : (row : Row) (a : Layout) → saturated (whole row (saturated a)) ≡ saturated (whole row a)
saturated_whole (r.Single comparable) a = refl
saturated_whole (r.Array length of) a = let s = times_bound length a.slots (2 ^ 64 - 1) in λ i. record { slots = s i; comparable = a.comparable }
saturated_whole (r.Struct fields) a = let s = one_bound a.slots (2 ^ 64 - 1) in λ i. record { slots = s i; comparable = a.comparable }
saturated_whole (r.Defined of) a = saturated_twice a

-- what is alike up to the bound stays so
pub alike_together : (a b c d : Layout) → saturated a ≡ saturated b → saturated c ≡ saturated d → saturated (together a c) ≡ saturated (together b d)
alike_together a b c d e f =
    sym (saturated_left a c) ∙ ap (λ x. saturated (together x c)) e ∙ saturated_left b c
    ∙ sym (saturated_right b c) ∙ ap (λ x. saturated (together b x)) f ∙ saturated_right b d

pub alike_whole : (row : Row) (a b : Layout) → saturated a ≡ saturated b → saturated (whole row a) ≡ saturated (whole row b)
alike_whole row a b e = sym (saturated_whole row a) ∙ ap (λ x. saturated (whole row x)) e ∙ saturated_whole row b
