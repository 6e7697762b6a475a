-- The bytes of names, of paths and of words.
use Rattle.std.proofs.Common.{◌≡◌, ℕ, Bool, true, ◌||◌, ◌==◌, nat_le, arith}
use Rattle.std.specs.Char.{is_ascii_alphabetic, is_ascii_digit}
use Rattle.std.proofs.lemmas.Bool.Decides.{nat_tests}
use Rattle.gno_base.specs.Callers.{is_small_letter, is_digit, is_caller_byte}
use Rattle.gno_base.specs.Paths.{is_name_byte}

-- of a name: ASCII letters and digits, `_`, and each byte of a wider character
abbrev pub in_name : ℕ → Bool
in_name b = nat_le 128 b || (is_ascii_alphabetic b || (is_ascii_digit b || b == 95))

-- of a path: small letters, digits, `_`, `.` and `/`
abbrev pub in_path : ℕ → Bool
in_path b = is_name_byte b || (b == 46 || b == 47)

-- of a name with or without its package
abbrev pub in_member : ℕ → Bool
in_member b = in_name b || (b == 46 || b == 47)

-- of what stands in front of the marks in a type's text
abbrev pub in_word : ℕ → Bool
in_word b = in_member b || b == 35

pub name-member : (b : ℕ) → in_name b ≡ true → in_member b ≡ true
name-member b e = grind (arith, nat_tests)

pub path-member : (b : ℕ) → in_path b ≡ true → in_member b ≡ true
path-member b e = grind (arith, nat_tests)

pub member-word : (b : ℕ) → in_member b ≡ true → in_word b ≡ true
member-word b e = grind (arith, nat_tests)

pub digit-word : (b : ℕ) → is_digit b ≡ true → in_word b ≡ true
digit-word b e = grind (arith, nat_tests)

pub small-member : (b : ℕ) → is_small_letter b ≡ true → in_member b ≡ true
small-member b e = grind (arith, nat_tests)

pub small-path : (b : ℕ) → is_small_letter b ≡ true → in_path b ≡ true
small-path b e = grind (arith, nat_tests)

pub caller-path : (b : ℕ) → is_caller_byte b ≡ true → in_path b ≡ true
caller-path b e = grind (arith, nat_tests)

pub part-path : (b : ℕ) → is_name_byte b ≡ true → in_path b ≡ true
part-path b e = grind (arith, nat_tests)
