-- No integer is a float or imaginary: a float has a point or the letter of an exponent.
use Rattle.std.proofs.Common.{◌≡◌, ℕ, ◌<◌, Bool, true, false, not, ◌||◌, ◌&&◌, List, [], ◌∷◌, ◌++◌, refl, sym, ap, ◌∙◌, arith, length, inl, inr, eqb-true}
use Rattle.std.specs.Prelude.{◌==◌, ◌⊎◌}
use Rattle.std.specs.List.{list_all, list_any}
use Rattle.std.proofs.lemmas.Bool.{and_parts}
use Rattle.gno_scan.specs.NumberLengths.{has_prefix, is_zero}
use Rattle.gno_scan.specs.Numbers.{AreDecimal, IsExponent, IsFloat, IsImaginary, IsInteger, is_decimal_digit, is_decimal_mark, is_hex_digit, is_hex_letter, is_hex_mark, is_other_base_letter}
use Rattle.gno_scan.specs.Numbers.IsInteger.{decimal, hex, other_base}
use Rattle.gno_scan.specs.Numbers.IsFloat.{pointed, scaled, part_only, hex_whole, hex_pointed, hex_part_only}
use Rattle.gno_scan.specs.Numbers.IsImaginary.{integer, float}
use Rattle.gno_scan.proofs.RealBytes.{integer_no_i, is_no_i}
use Rattle.gno_scan.proofs.Digits.{digit_bytes, is_digit_or_bar}
use Rattle.gno_scan.proofs.Exponents.{exponent_from}
use Rattle.gno_scan.proofs.Integers.{behind_prefix_bytes, digits_some}

abbrev is_in : List ℕ → ℕ → Bool
is_in bytes b = list_any (λ x. b == x) bytes

abbrev has_any : List ℕ → List ℕ → Bool
has_any bytes word = list_any (is_in bytes) word

-- a point and the letters of an exponent, of a hexadecimal float or of another one
abbrev marks : Bool → List ℕ
marks true = 46 ∷ 112 ∷ 80 ∷ []
marks false = 46 ∷ 101 ∷ 69 ∷ []

abbrev has_marks : List ℕ → Bool
has_marks word = has_any (marks (has_prefix is_hex_letter word)) word

-- a byte that passes a test is none of those that fail it
not_in : (test : ℕ → Bool) (bytes : List ℕ) → list_all (λ x. not (test x)) bytes ≡ true → (b : ℕ) → test b ≡ true → is_in bytes b ≡ false
not_in test [] off b h = refl
not_in test (x ∷ bytes) off b h =
    let parts = and_parts (not (test x)) (list_all (λ y. not (test y)) bytes) off in
    at_first (b == x) refl parts.0 (not_in test bytes parts.1 b h)
  where
    at_first : (t : Bool) → (b == x) ≡ t → not (test x) ≡ true → is_in bytes b ≡ false → (t || is_in bytes b) ≡ false
    at_first true e fails none = absurd (let f : false ≡ true = ap not (sym (ap test (sym (eqb-true b x e)) ∙ h)) ∙ fails in cc)
    at_first false e fails none = none

no_marks : (test : ℕ → Bool) (bytes : List ℕ) → list_all (λ x. not (test x)) bytes ≡ true → (word : List ℕ) → list_all test word ≡ true → has_any bytes word ≡ false
no_marks test bytes off [] all = refl
no_marks test bytes off (b ∷ rest) all =
    let parts = and_parts (test b) (list_all test rest) all in
    rw (not_in test bytes off b parts.0, no_marks test bytes off rest parts.1) refl

-- of two bytes one, at each of which the test gives the same
one_of : (test : ℕ → Bool) (result : Bool) (a b m : ℕ) → (m == a || m == b) ≡ true → test a ≡ result → test b ≡ result → test m ≡ result
one_of test result a b m h p q = elim (m == a) as (λ t. (m == a) ≡ t → (t || m == b) ≡ true → test m ≡ result) [
  | true ↦ λ e f. ap test (eqb-true m a e) ∙ p
  | false ↦ λ e f. ap test (eqb-true m b f) ∙ q
] refl h

no_hex_letter : (test : ℕ → Bool) (b : ℕ) → test 120 ≡ false → test 88 ≡ false → test b ≡ true → is_hex_letter b ≡ false
no_hex_letter test b off off' h = elim (is_hex_letter b) as (λ t. is_hex_letter b ≡ t → t ≡ false) [
  | true ↦ λ e. absurd (let f : true ≡ false = sym h ∙ one_of test false 120 88 b e off off' in cc)
  | false ↦ λ e. refl
] refl

with_second : (b c : ℕ) (rest : List ℕ) → is_hex_letter c ≡ false → has_prefix is_hex_letter (b ∷ c ∷ rest) ≡ false
with_second b c rest h = rw h (elim (is_zero b) as (λ t. (t && false) ≡ false) [ true ↦ refl | false ↦ refl ])

no_prefix : (digits : List ℕ) → list_all (is_digit_or_bar is_decimal_digit) digits ≡ true → has_prefix is_hex_letter digits ≡ false
no_prefix [] all = refl
no_prefix (b ∷ []) all = refl
no_prefix (b ∷ c ∷ rest) all =
    let test = is_digit_or_bar is_decimal_digit in
    let behind = and_parts (test b) (list_all test (c ∷ rest)) all in
    let second = and_parts (test c) (list_all test rest) behind.1 in
    with_second b c rest (no_hex_letter test c refl refl second.0)

led_none : (bytes : List ℕ) (a b : ℕ) (rest : List ℕ) → is_in bytes a ≡ false → is_in bytes b ≡ false → has_any bytes rest ≡ false → has_any bytes (a ∷ b ∷ rest) ≡ false
led_none bytes a b rest h k none = rw (h, k, none) refl

integer_marks : (word : List ℕ) → IsInteger word → has_marks word ≡ false
integer_marks _ (decimal digits h) =
    let test = is_digit_or_bar is_decimal_digit in
    let all = digit_bytes is_decimal_digit digits h in
    ap (λ (t : Bool). has_any (marks t) digits) (no_prefix digits all) ∙ no_marks test (marks false) refl digits all
integer_marks _ (hex letter digits h k) =
    let none = no_marks (is_digit_or_bar is_hex_digit) (marks true) refl digits (behind_prefix_bytes is_hex_digit digits k) in
    ap (λ (t : Bool). has_any (marks t) (48 ∷ letter ∷ digits)) h ∙ led_none (marks true) 48 letter digits refl (not_in is_hex_letter (marks true) refl letter h) none
integer_marks _ (other_base letter digits h k) =
    let none = no_marks (is_digit_or_bar is_decimal_digit) (marks false) refl digits (behind_prefix_bytes is_decimal_digit digits k) in
    let off = no_hex_letter is_other_base_letter letter refl refl h in
    ap (λ (t : Bool). has_any (marks t) (48 ∷ letter ∷ digits)) off ∙ led_none (marks false) 48 letter digits refl (not_in is_other_base_letter (marks false) refl letter h) none

has_inside : (bytes front : List ℕ) (b : ℕ) (rest : List ℕ) → is_in bytes b ≡ true → has_any bytes (front ++ b ∷ rest) ≡ true
has_inside bytes [] b rest h = rw h refl
has_inside bytes (a ∷ front) b rest h = elim (is_in bytes a) as (λ t. (t || has_any bytes (front ++ b ∷ rest)) ≡ true) [ true ↦ refl | false ↦ has_inside bytes front b rest h ]

point_in : (t : Bool) → is_in (marks t) 46 ≡ true
point_in true = refl
point_in false = refl

has_point : (front rest : List ℕ) → has_marks (front ++ 46 ∷ rest) ≡ true
has_point front rest = let t = has_prefix is_hex_letter (front ++ 46 ∷ rest) in has_inside (marks t) front 46 rest (point_in t)

-- digits and an exponent begin with no prefix
no_prefix_scaled : (whole : List ℕ) (mark : ℕ) (rest : List ℕ) → list_all (is_digit_or_bar is_decimal_digit) whole ≡ true → 0 < length whole → is_decimal_mark mark ≡ true → has_prefix is_hex_letter (whole ++ mark ∷ rest) ≡ false
no_prefix_scaled [] mark rest all some h = absurd (omega (arith, some))
no_prefix_scaled (b ∷ []) mark rest all some h = with_second b mark rest (one_of is_hex_letter false 101 69 mark h refl refl)
no_prefix_scaled (b ∷ c ∷ more) mark rest all some h =
    let test = is_digit_or_bar is_decimal_digit in
    let behind = and_parts (test b) (list_all test (c ∷ more)) all in
    let second = and_parts (test c) (list_all test more) behind.1 in
    with_second b c (more ++ mark ∷ rest) (no_hex_letter test c refl refl second.0)

scaled_marks : (whole exponent : List ℕ) → AreDecimal whole → IsExponent is_decimal_mark exponent → has_marks (whole ++ exponent) ≡ true
scaled_marks whole exponent h e =
    let l = exponent_from is_decimal_mark exponent e in
    let off = no_prefix_scaled whole l.first l.rest (digit_bytes is_decimal_digit whole h) (digits_some is_decimal_digit whole h) l.leads in
    let inside = has_inside (marks false) whole l.first l.rest (one_of (is_in (marks false)) true 101 69 l.first l.leads refl refl) in
    ap (λ (w : List ℕ). has_marks (whole ++ w)) l.parts ∙ ap (λ (t : Bool). has_any (marks t) (whole ++ l.first ∷ l.rest)) off ∙ inside

hex_marks : (letter : ℕ) (whole exponent : List ℕ) → is_hex_letter letter ≡ true → IsExponent is_hex_mark exponent → has_marks (48 ∷ letter ∷ (whole ++ exponent)) ≡ true
hex_marks letter whole exponent h e =
    let l = exponent_from is_hex_mark exponent e in
    let inside = has_inside (marks true) (48 ∷ letter ∷ whole) l.first l.rest (one_of (is_in (marks true)) true 112 80 l.first l.leads refl refl) in
    ap (λ (w : List ℕ). has_marks (48 ∷ letter ∷ (whole ++ w))) l.parts ∙ ap (λ (t : Bool). has_any (marks t) (48 ∷ letter ∷ (whole ++ l.first ∷ l.rest))) h ∙ inside

float_marks : (word : List ℕ) → IsFloat word → has_marks word ≡ true
float_marks _ (pointed whole part exponent h p e) = has_point whole (part ++ exponent)
float_marks _ (scaled whole exponent h e) = scaled_marks whole exponent h e
float_marks _ (part_only part exponent p e) = has_point [] (part ++ exponent)
float_marks _ (hex_whole letter whole exponent h w e) = hex_marks letter whole exponent h e
float_marks _ (hex_pointed letter whole part exponent h w p e) = has_point (48 ∷ letter ∷ whole) (part ++ exponent)
float_marks _ (hex_part_only letter part exponent h p e) = has_point (48 ∷ letter ∷ []) (part ++ exponent)

ends_with_i : (number : List ℕ) → list_all is_no_i (number ++ 105 ∷ []) ≡ true → ⊥
ends_with_i [] h = let f : false ≡ true = h in cc
ends_with_i (b ∷ rest) h = ends_with_i rest (and_parts (is_no_i b) (list_all is_no_i (rest ++ 105 ∷ [])) h).1

no_imaginary : (word : List ℕ) → IsInteger word → IsImaginary word → ⊥
no_imaginary _ is (integer number h) = ends_with_i number (integer_no_i (number ++ 105 ∷ []) is)
no_imaginary _ is (float number h) = ends_with_i number (integer_no_i (number ++ 105 ∷ []) is)

pub not_both : (word : List ℕ) → IsInteger word → IsFloat word ⊎ IsImaginary word → ⊥
not_both word is (inl h) = let f : false ≡ true = sym (integer_marks word is) ∙ float_marks word h in cc
not_both word is (inr h) = no_imaginary word is h
