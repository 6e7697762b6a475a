-- The bit operators on whole numbers of any size, in two's complement of unlimited width: before the highest bit that is written stand zeros without end in
-- a number from 0 up, and ones without end in a negative one. So `negsuc n`, which is -(n + 1), has exactly the bits that n has not.
-- Source: Go specification, "Arithmetic operators", "Integer operators".
use Rattle.std.specs.Prelude.{ℕ, ◌-◌, ◌^◌, ℤ, pos, negsuc, bit_and, bit_or, bit_xor, Bool}
use Rattle.std.specs.Int.{int_div_euclid, int_rem_euclid}
use Rattle.std.specs.Ordering.{int_eq}

-- bit k of z, where bit 0 is the lowest: z divided by 2 ^ k, rounded down, is odd
abbrev pub has_bit : ℤ → ℕ → Bool
has_bit z k = int_eq (int_rem_euclid (int_div_euclid z (pos (2 ^ k))) (pos 2)) (pos 1)

-- the number with the bits that z has not: -1 - z
abbrev pub complement : ℤ → ℤ
complement (pos n) = negsuc n
complement (negsuc n) = pos n

-- the bits that a has and b has not
abbrev pub bits_left : ℕ → ℕ → ℕ
bits_left a b = a - bit_and a b

-- `&`: the bits that both have
abbrev pub with_both : ℤ → ℤ → ℤ
with_both (pos a) (pos b) = pos (bit_and a b)
with_both (pos a) (negsuc b) = pos (bits_left a b)
with_both (negsuc a) (pos b) = pos (bits_left b a)
with_both (negsuc a) (negsuc b) = negsuc (bit_or a b)

-- `|`: the bits that either has
abbrev pub with_either : ℤ → ℤ → ℤ
with_either (pos a) (pos b) = pos (bit_or a b)
with_either (pos a) (negsuc b) = negsuc (bits_left b a)
with_either (negsuc a) (pos b) = negsuc (bits_left a b)
with_either (negsuc a) (negsuc b) = negsuc (bit_and a b)

-- `^`: the bits that exactly one has
abbrev pub with_one : ℤ → ℤ → ℤ
with_one (pos a) (pos b) = pos (bit_xor a b)
with_one (pos a) (negsuc b) = negsuc (bit_xor a b)
with_one (negsuc a) (pos b) = negsuc (bit_xor a b)
with_one (negsuc a) (negsuc b) = pos (bit_xor a b)
