-- Products with powers of two, and what is left of a number that is shifted far.
use Rattle.std.proofs.Common.{◌≡◌, ℕ, zero, suc, ◌+◌, ◌*◌, ◌<◌, ◌≤◌, ◌^◌, ◌/◌, ◌%◌, ℤ, pos, negsuc, ◌*ℤ◌, ◌≤ℤ◌, ◌<ℤ◌, arith, to_z, of_z, ap, sym, refl, ◌∙◌, inl, inr, neg_ℤ}
use Rattle.std.specs.Prelude.{FitsSigned, nat_abs}
use Rattle.std.specs.Int.{w128, int_min}
use Rattle.std.specs.Int.Signed.{mag, mag_shr, shr_z}
use Rattle.std.proofs.Math.Nat.{mul-le-mul_left, mul_assoc, pow-le-pow_right, div-eq_of_lt}
use Rattle.std.proofs.lemmas.Int.{clamps, ints, to_z-of_z}
use Rattle.std.proofs.lemmas.Bool.{cases_lt}
use Rattle.std.proofs.Math.Logic.{⊎_elim}
use Rattle.std.proofs.lemmas.Nat.{one_shl, mul-le, pow-add, pow_below}
use Rattle.gno_constants.specs.Exact.{IsTooWide, shifted_left, shifted_right, whole}
use Rattle.gno_constants.proofs.Complements.{read_pos}

pub power : (n : ℕ) → n < 127 → to_z w128 (1 * 2 ^ n % 2 ^ 128) ≡ pos (2 ^ n)
power n h = read_pos _ (2 ^ n) (one_shl n 128 (omega arith)) (pow_below n 127 h)

powers : (n a b m : ℕ) → a + b ≡ m → (n * 2 ^ a) * 2 ^ b ≡ n * 2 ^ m
powers n a b m e = mul_assoc n (2 ^ a) (2 ^ b) ∙ ap (λ p. n * p) (sym (pow-add 2 a b) ∙ ap (λ k. 2 ^ k) e)

negated : (n m : ℕ) → neg_ℤ (pos n) *ℤ pos m ≡ neg_ℤ (pos (n * m))
negated zero m = omega (arith, ints)
negated (suc n) m = refl

-- a product in two steps
pub in_two : (x : ℤ) (a b m : ℕ) → a + b ≡ m → (x *ℤ pos (2 ^ a)) *ℤ pos (2 ^ b) ≡ x *ℤ pos (2 ^ m)
in_two (pos n) a b m e = ap pos (powers n a b m e)
in_two (negsuc n) a b m e = negated (suc n * 2 ^ a) (2 ^ b) ∙ ap (λ p. neg_ℤ (pos p)) (powers (suc n) a b m e)

grows : (n a b m : ℕ) → a + b ≡ m → n * 2 ^ a ≤ n * 2 ^ m
grows n a b m e = mul-le-mul_left n (pow-le-pow_right (omega arith) (omega arith))

-- what does not fit does not fit when it is doubled further
pub still_wide : (x : ℤ) (a b m : ℕ) → a + b ≡ m → ¬ FitsSigned w128 (x *ℤ pos (2 ^ a)) → ¬ FitsSigned w128 (x *ℤ pos (2 ^ m))
still_wide (pos n) a b m e h f = h (omega (arith, ints, grows n a b m e))
still_wide (negsuc n) a b m e h f = h (omega (arith, ints, grows (suc n) a b m e))

-- 2 ^ 128 and more
least_far : (n k : ℕ) → 127 < n → 2 ^ 128 ≤ suc k * 2 ^ n
least_far n k h =
    let far : 2 ^ 128 ≤ 2 ^ n = pow-le-pow_right {n = 2} (omega arith) {i = 128} {j = n} (omega arith) in
    let many : 1 * 2 ^ 128 ≤ suc k * 2 ^ n = mul-le 1 (2 ^ 128) (suc k) (2 ^ n) (omega arith) far in
    omega arith

pub too_far : (x count : ℤ) → ¬ (of_z w128 x ≡ 0) → pos 127 <ℤ count → IsTooWide (shifted_left x count)
too_far (pos zero) (pos n) s h = absurd (s refl)
too_far (pos (suc k)) (pos n) s h = inr (omega (arith, ints, least_far n k (omega (arith, ints))))
too_far (negsuc k) (pos n) s h = inl (omega (arith, ints, least_far n k (omega (arith, ints))))
too_far x (negsuc n) s h = absurd (omega (arith, ints))

-- a product as the code works it out
pub product : (x y p : ℤ) → FitsSigned w128 x → FitsSigned w128 y → y ≡ p → to_z w128 (of_z w128 x) *ℤ to_z w128 (of_z w128 y) ≡ x *ℤ p
product x y p f g e =
    let first = to_z-of_z w128 x f in
    let second = to_z-of_z w128 y g in
    cc

near : (n : ℕ) → n ≤ 127 → int_min (pos n) (pos 127) ≡ pos n
near n h = omega (arith, ints, clamps)

far : (n : ℕ) → 127 < n → int_min (pos n) (pos 127) ≡ pos 127
far n h = omega (arith, ints, clamps)

-- what is below 2 ^ 127 leaves nothing at 127 places and at more
same_left : (a n : ℕ) → a < 2 ^ 127 → a / 2 ^ n ≡ a / 2 ^ nat_abs (int_min (pos n) (pos 127))
same_left a n h =
    ⊎_elim
    (λ (more : 127 < n).
    let wide : 2 ^ 127 < 2 ^ n = pow_below 127 n more in
    div-eq_of_lt {n = a} {m = 2 ^ n} (omega arith) ∙ sym (div-eq_of_lt {n = a} {m = 2 ^ 127} h) ∙ ap (λ z. a / 2 ^ nat_abs z) (sym (far n more)))
    (λ (few : n ≤ 127). ap (λ z. a / 2 ^ nat_abs z) (sym (near n few)))
    (cases_lt 127 n)

shifted : (x count : ℤ) → FitsSigned w128 x → pos 0 ≤ℤ count → shifted_right x count ≡ whole (shr_z x (2 ^ nat_abs (int_min count (pos 127))))
shifted (pos a) (pos n) f h = ap (λ k. whole (pos k)) (same_left a n f.sfits)
shifted (negsuc a) (pos n) f h = ap (λ k. whole (negsuc k)) (same_left a n f.sfits)
shifted x (negsuc n) f h = absurd (omega (arith, ints))

-- a number that is shifted, as the code works it out
read : (x r : ℤ) → FitsSigned w128 x → FitsSigned w128 r → shr_z x (2 ^ nat_abs r) ≡ to_z w128 (of_z w128 (shr_z (to_z w128 (of_z w128 x)) (2 ^ nat_abs (to_z w128 (of_z w128 r)))))
read x r f g =
    let small : mag (shr_z x (2 ^ nat_abs r)) ≤ mag x = mag_shr x (2 ^ nat_abs r) in
    let fits : FitsSigned w128 (shr_z x (2 ^ nat_abs r)) = record { sfits = omega arith } in
    sym (ap (λ z. to_z w128 (of_z w128 (shr_z z (2 ^ nat_abs (to_z w128 (of_z w128 r)))))) (to_z-of_z w128 x f) ∙ ap (λ z. to_z w128 (of_z w128 (shr_z x (2 ^ nat_abs z)))) (to_z-of_z w128 r g) ∙ to_z-of_z w128 (shr_z x (2 ^ nat_abs r)) fits)

pub right : (x count c r : ℤ) → FitsSigned w128 x → FitsSigned w128 r → pos 0 ≤ℤ count → c ≡ count → r ≡ int_min c (pos 127) → shifted_right x count ≡ whole (to_z w128 (of_z w128 (shr_z (to_z w128 (of_z w128 x)) (2 ^ nat_abs (to_z w128 (of_z w128 r))))))
right x count c r f g h same e =
    shifted x count f h ∙ ap (λ z. whole (shr_z x (2 ^ nat_abs z))) (sym (e ∙ ap (λ z. int_min z (pos 127)) same)) ∙ ap whole (read x r f g)
