-- Each bit of what the bit operators give, and that the bits make the number. Bit k of a natural number is 0 or 1, and that of -(n + 1) is what is left to 1.
use Rattle.std.proofs.Common.{◌≡◌, ℕ, zero, suc, ◌+◌, ◌-◌, ◌<◌, ◌≤◌, ◌^◌, ◌/◌, ◌%◌, min, max, ℤ, pos, negsuc, Bool, true, false, arith, bit_and, ap, sym, refl, ◌∙◌}
use Rattle.std.specs.Prelude.{bit_xor, ◌&&◌, ◌||◌, not, if◌then◌else◌}
use Rattle.std.specs.Int.{bit_at}
use Rattle.std.specs.Int.Bits.{and_self, xor_add_and}
use Rattle.std.specs.Ordering.{int_eq}
use Rattle.std.proofs.Math.Nat.{div-eq_of_lt, pow-le-pow_right, two-pow-succ}
use Rattle.std.proofs.lemmas.Nat.{and_assoc}
use Rattle.std.proofs.lemmas.Nat.Bits.{bit_at-lt, bit_at_and, bit_at_or, bit_at_xor, same_from_bits}
use Rattle.gno_constants.specs.Bits.{bits_left, complement, has_bit, with_both, with_either, with_one}

-- the bit is 1
abbrev set : ℕ → Bool
set b = int_eq (pos b) (pos 1)

-- two functions of a bit are the same
one_bit : (f g : ℕ → Bool) → f 0 ≡ g 0 → f 1 ≡ g 1 → (p : ℕ) → p < 2 → f p ≡ g p
one_bit f g a b zero h = a
one_bit f g a b (suc zero) h = b
one_bit f g a b (suc (suc p)) h = absurd (omega arith)

-- two functions of two bits are the same
two_bits : (f g : ℕ → ℕ → Bool) → f 0 0 ≡ g 0 0 → f 0 1 ≡ g 0 1 → f 1 0 ≡ g 1 0 → f 1 1 ≡ g 1 1 → (p q : ℕ) → p < 2 → q < 2 → f p q ≡ g p q
two_bits f g a b c d zero q h k = one_bit (f 0) (g 0) a b q k
two_bits f g a b c d (suc zero) q h k = one_bit (f 1) (g 1) c d q k
two_bits f g a b c d (suc (suc p)) q h k = absurd (omega arith)

-- at bit k of a and of b
at : (f g : ℕ → ℕ → Bool) → f 0 0 ≡ g 0 0 → f 0 1 ≡ g 0 1 → f 1 0 ≡ g 1 0 → f 1 1 ≡ g 1 1 → (a b k : ℕ) → f (bit_at a k) (bit_at b k) ≡ g (bit_at a k) (bit_at b k)
at f g w x y z a b k = two_bits f g w x y z _ _ (bit_at-lt a k) (bit_at-lt b k)

-- what a has and b has not
bit_left : (a b k : ℕ) → bit_at (bits_left a b) k ≡ (bit_at a k + min (bit_at a k) (bit_at b k)) % 2
bit_left a b k =
    let again : bit_and a (bit_and a b) ≡ bit_and a b = sym (and_assoc b a a) ∙ ap (λ n. bit_and n b) (and_self a) in
    let same : bits_left a b ≡ bit_xor a (bit_and a b) = omega (arith, xor_add_and a (bit_and a b)) in
    ap (λ n. bit_at n k) same ∙ bit_at_xor a (bit_and a b) k ∙ ap (λ n. (bit_at a k + n) % 2) (bit_at_and a b k)

pub complemented : (x : ℤ) (k : ℕ) → has_bit (complement x) k ≡ not (has_bit x k)
complemented (pos n) k = one_bit (λ p. set (1 - p)) (λ p. not (set p)) refl refl (bit_at n k) (bit_at-lt n k)
complemented (negsuc n) k = one_bit (λ p. set p) (λ p. not (set (1 - p))) refl refl (bit_at n k) (bit_at-lt n k)

pub in_both : (x y : ℤ) (k : ℕ) → has_bit (with_both x y) k ≡ (has_bit x k && has_bit y k)
in_both (pos a) (pos b) k = ap set (bit_at_and a b k) ∙ at (λ p q. set (min p q)) (λ p q. set p && set q) refl refl refl refl a b k
in_both (pos a) (negsuc b) k = ap set (bit_left a b k) ∙ at (λ p q. set ((p + min p q) % 2)) (λ p q. set p && set (1 - q)) refl refl refl refl a b k
in_both (negsuc a) (pos b) k = ap set (bit_left b a k) ∙ at (λ p q. set ((q + min q p) % 2)) (λ p q. set (1 - p) && set q) refl refl refl refl a b k
in_both (negsuc a) (negsuc b) k = ap (λ n. set (1 - n)) (bit_at_or a b k) ∙ at (λ p q. set (1 - max p q)) (λ p q. set (1 - p) && set (1 - q)) refl refl refl refl a b k

pub in_either : (x y : ℤ) (k : ℕ) → has_bit (with_either x y) k ≡ (has_bit x k || has_bit y k)
in_either (pos a) (pos b) k = ap set (bit_at_or a b k) ∙ at (λ p q. set (max p q)) (λ p q. set p || set q) refl refl refl refl a b k
in_either (pos a) (negsuc b) k = ap (λ n. set (1 - n)) (bit_left b a k) ∙ at (λ p q. set (1 - (q + min q p) % 2)) (λ p q. set p || set (1 - q)) refl refl refl refl a b k
in_either (negsuc a) (pos b) k = ap (λ n. set (1 - n)) (bit_left a b k) ∙ at (λ p q. set (1 - (p + min p q) % 2)) (λ p q. set (1 - p) || set q) refl refl refl refl a b k
in_either (negsuc a) (negsuc b) k = ap (λ n. set (1 - n)) (bit_at_and a b k) ∙ at (λ p q. set (1 - min p q)) (λ p q. set (1 - p) || set (1 - q)) refl refl refl refl a b k

-- just one of the two tests holds
abbrev differ : Bool → Bool → Bool
differ s t = if s then not t else t

pub in_one : (x y : ℤ) (k : ℕ) → has_bit (with_one x y) k ≡ (if has_bit x k then not (has_bit y k) else has_bit y k)
in_one (pos a) (pos b) k = ap set (bit_at_xor a b k) ∙ at (λ p q. set ((p + q) % 2)) (λ p q. differ (set p) (set q)) refl refl refl refl a b k
in_one (pos a) (negsuc b) k = ap (λ n. set (1 - n)) (bit_at_xor a b k) ∙ at (λ p q. set (1 - (p + q) % 2)) (λ p q. differ (set p) (set (1 - q))) refl refl refl refl a b k
in_one (negsuc a) (pos b) k = ap (λ n. set (1 - n)) (bit_at_xor a b k) ∙ at (λ p q. set (1 - (p + q) % 2)) (λ p q. differ (set (1 - p)) (set q)) refl refl refl refl a b k
in_one (negsuc a) (negsuc b) k = ap set (bit_at_xor a b k) ∙ at (λ p q. set ((p + q) % 2)) (λ p q. differ (set (1 - p)) (set (1 - q))) refl refl refl refl a b k

-- bits that are set alike are the same
same_bit : (p q : ℕ) → p < 2 → q < 2 → set p ≡ set q → p ≡ q
same_bit zero zero h k e = refl
same_bit zero (suc zero) h k e = cc
same_bit (suc zero) zero h k e = cc
same_bit (suc zero) (suc zero) h k e = refl
same_bit (suc (suc p)) q h k e = absurd (omega arith)
same_bit p (suc (suc q)) h k e = absurd (omega arith)

same_rest : (p q : ℕ) → p < 2 → q < 2 → set (1 - p) ≡ set (1 - q) → p ≡ q
same_rest p q h k e = let r = same_bit (1 - p) (1 - q) (omega arith) (omega arith) e in omega arith

below_power : (n : ℕ) → n < 2 ^ n
below_power zero = omega arith
below_power (suc n) = omega (arith, below_power n, two-pow-succ n)

-- nothing stands at place n or further on
nothing_far : (n k : ℕ) → n ≤ k → n / 2 ^ k ≡ 0
nothing_far n k h =
    let near = below_power n in
    let more : 2 ^ n ≤ 2 ^ k = pow-le-pow_right {n = 2} (omega arith) {i = n} {j = k} h in
    div-eq_of_lt {n = n} {m = 2 ^ k} (omega arith)

-- a number from 0 up has zeros from some place on, and a negative number ones
apart : (a b : ℕ) → ((k : ℕ) → has_bit (pos a) k ≡ has_bit (negsuc b) k) → ⊥
apart a b same =
    let zero_there : has_bit (pos a) (a + b) ≡ false = ap (λ n. set (n % 2)) (nothing_far a (a + b) (omega arith)) in
    let one_there : has_bit (negsuc b) (a + b) ≡ true = ap (λ n. set (1 - n % 2)) (nothing_far b (a + b) (omega arith)) in
    let both = same (a + b) in
    cc

pub same_number : (x y : ℤ) → ((k : ℕ) → has_bit x k ≡ has_bit y k) → x ≡ y
same_number (pos a) (pos b) same = ap pos (same_from_bits a b (λ k. same_bit _ _ (bit_at-lt a k) (bit_at-lt b k) (same k)))
same_number (pos a) (negsuc b) same = absurd (apart a b same)
same_number (negsuc a) (pos b) same = absurd (apart b a (λ k. sym (same k)))
same_number (negsuc a) (negsuc b) same = ap negsuc (same_from_bits a b (λ k. same_rest _ _ (bit_at-lt a k) (bit_at-lt b k) (same k)))
