-- The bits of 128-bit numbers, of which some are negative. Where all + 1 is 2 ^ k, `all - n` has the low k bits that n has not.
use Rattle.std.proofs.Common.{◌≡◌, ℕ, ◌+◌, ◌-◌, ◌<◌, ◌^◌, ℤ, pos, negsuc, arith, to_z, of_z, bit_and, bit_or, ap, subst, refl, suc, ◌∙◌}
use Rattle.std.specs.Prelude.{bit_xor, FitsSigned}
use Rattle.std.specs.Int.{w128}
use Rattle.std.specs.Int.Bits.{or_add_and, xor_add_and}
use Rattle.std.proofs.lemmas.Int.{ints, to_z-of_z}
use Rattle.std.proofs.lemmas.Nat.{and-not, and_comm, and_le_l, and_le_r, or_lt, xor_lt}
use Rattle.gno_constants.specs.Bits.{with_both, with_either, with_one, bits_left}

-- the 128 bits of -(n + 1)
abbrev pub flipped : ℕ → ℕ
flipped n = 2 ^ 128 - suc n

flipped_below : (a : ℕ) → flipped a < 2 ^ 128
flipped_below a = omega arith

-- each bit of b is in just one of the two
parted : (a b : ℕ) → a < 2 ^ 128 → b < 2 ^ 128 → bit_and (flipped a) b + bit_and a b ≡ b
parted a b p q =
    let same : 2 ^ 128 - 1 - a ≡ flipped a = omega arith in
    subst (λ n. bit_and n b + bit_and a b ≡ b) same (and-not 128 a b p q)

pub and_right : (a b : ℕ) → a < 2 ^ 128 → b < 2 ^ 128 → bit_and a (flipped b) ≡ a - bit_and a b
and_right a b p q = omega (arith, and_comm a (flipped b), and_comm a b, parted b a q p)

pub and_left : (a b : ℕ) → a < 2 ^ 128 → b < 2 ^ 128 → bit_and (flipped a) b ≡ b - bit_and b a
and_left a b p q = omega (arith, and_comm b a, parted a b p q)

pub and_flipped : (a b : ℕ) → a < 2 ^ 128 → b < 2 ^ 128 → bit_and (flipped a) (flipped b) ≡ flipped (bit_or a b)
and_flipped a b p q = omega (arith, parted a (flipped b) p (flipped_below b), and_right a b p q, or_add_and a b, and_le_l a b)

pub or_right : (a b : ℕ) → a < 2 ^ 128 → b < 2 ^ 128 → bit_or a (flipped b) ≡ flipped (b - bit_and b a)
or_right a b p q = omega (arith, or_add_and a (flipped b), and_right a b p q, and_comm a b, and_le_l a b, and_le_r a b)

pub or_left : (a b : ℕ) → a < 2 ^ 128 → b < 2 ^ 128 → bit_or (flipped a) b ≡ flipped (a - bit_and a b)
or_left a b p q = omega (arith, or_add_and (flipped a) b, and_left a b p q, and_comm a b, and_le_l a b, and_le_r a b)

pub or_flipped : (a b : ℕ) → a < 2 ^ 128 → b < 2 ^ 128 → bit_or (flipped a) (flipped b) ≡ flipped (bit_and a b)
or_flipped a b p q = omega (arith, or_add_and (flipped a) (flipped b), and_flipped a b p q, or_add_and a b, or_lt 128 a b p q, and_le_l a b, and_le_r a b)

pub xor_right : (a b : ℕ) → a < 2 ^ 128 → b < 2 ^ 128 → bit_xor a (flipped b) ≡ flipped (bit_xor a b)
xor_right a b p q = omega (arith, xor_add_and a (flipped b), and_right a b p q, xor_add_and a b, and_le_l a b, and_le_r a b)

pub xor_left : (a b : ℕ) → a < 2 ^ 128 → b < 2 ^ 128 → bit_xor (flipped a) b ≡ flipped (bit_xor a b)
xor_left a b p q = omega (arith, xor_add_and (flipped a) b, and_left a b p q, xor_add_and a b, and_comm a b, and_le_l a b, and_le_r a b)

pub xor_flipped : (a b : ℕ) → a < 2 ^ 128 → b < 2 ^ 128 → bit_xor (flipped a) (flipped b) ≡ bit_xor a b
xor_flipped a b p q = omega (arith, xor_add_and (flipped a) (flipped b), and_flipped a b p q, xor_add_and a b, or_add_and a b, or_lt 128 a b p q, and_le_l a b, and_le_r a b)

-- what 128 bits stand for
pub read_pos : (n m : ℕ) → n ≡ m → m < 2 ^ 127 → to_z w128 n ≡ pos m
read_pos n m e h = omega (arith, ints)

pub read_negsuc : (n m : ℕ) → n ≡ flipped m → m < 2 ^ 127 → to_z w128 n ≡ negsuc m
read_negsuc n m e h = ap (to_z w128) e ∙ to_z-of_z w128 (negsuc m) (record { sfits = h })

pub both : (x y : ℤ) → FitsSigned w128 x → FitsSigned w128 y → to_z w128 (bit_and (of_z w128 x) (of_z w128 y)) ≡ with_both x y
both (pos a) (pos b) p q = read_pos _ (bit_and a b) refl (omega (arith, and_le_l a b))
both (pos a) (negsuc b) p q = read_pos _ (bits_left a b) (and_right a b (omega arith) (omega arith)) (omega arith)
both (negsuc a) (pos b) p q = read_pos _ (bits_left b a) (and_left a b (omega arith) (omega arith)) (omega arith)
both (negsuc a) (negsuc b) p q = read_negsuc _ (bit_or a b) (and_flipped a b (omega arith) (omega arith)) (or_lt 127 a b p.sfits q.sfits)

pub either : (x y : ℤ) → FitsSigned w128 x → FitsSigned w128 y → to_z w128 (bit_or (of_z w128 x) (of_z w128 y)) ≡ with_either x y
either (pos a) (pos b) p q = read_pos _ (bit_or a b) refl (or_lt 127 a b p.sfits q.sfits)
either (pos a) (negsuc b) p q = read_negsuc _ (bits_left b a) (or_right a b (omega arith) (omega arith)) (omega arith)
either (negsuc a) (pos b) p q = read_negsuc _ (bits_left a b) (or_left a b (omega arith) (omega arith)) (omega arith)
either (negsuc a) (negsuc b) p q = read_negsuc _ (bit_and a b) (or_flipped a b (omega arith) (omega arith)) (omega (arith, and_le_l a b))

pub one : (x y : ℤ) → FitsSigned w128 x → FitsSigned w128 y → to_z w128 (bit_xor (of_z w128 x) (of_z w128 y)) ≡ with_one x y
one (pos a) (pos b) p q = read_pos _ (bit_xor a b) refl (xor_lt 127 a b p.sfits q.sfits)
one (pos a) (negsuc b) p q = read_negsuc _ (bit_xor a b) (xor_right a b (omega arith) (omega arith)) (xor_lt 127 a b p.sfits q.sfits)
one (negsuc a) (pos b) p q = read_negsuc _ (bit_xor a b) (xor_left a b (omega arith) (omega arith)) (xor_lt 127 a b p.sfits q.sfits)
one (negsuc a) (negsuc b) p q = read_pos _ (bit_xor a b) (xor_flipped a b (omega arith) (omega arith)) (xor_lt 127 a b p.sfits q.sfits)
