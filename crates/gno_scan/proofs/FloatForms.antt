-- The forms of floats, as a mantissa and an exponent.
use Rattle.std.proofs.Common.{◌≡◌, ℕ, List, [], ◌∷◌, ◌++◌, Bool, true, false, ◌||◌, refl, arith, ap, ◌∙◌, sym, length, inl, inr, subst, eqb-true, append_assoc, append-nil, length-append}
use Rattle.std.specs.Prelude.{◌==◌, ◌⊎◌}
use Rattle.gno_scan.specs.Numbers.{IsExponent, AreDecimal, AreHex, AreBehindPrefix, IsFloat, IsMaybeExponent, is_decimal_digit, is_decimal_mark, is_hex_mark, is_hex_digit, is_hex_letter}
use Rattle.gno_scan.specs.Numbers.IsFloat.{pointed, scaled, part_only, hex_whole, hex_pointed, hex_part_only}
use Rattle.gno_scan.specs.NumberLengths.{is_point, digits_length, behind_prefix_length, pointed_length, scaled_length, decimal_float_length, hex_float_length}
use Rattle.gno_scan.proofs.Digits.{digits_measure, digit_bytes}
use Rattle.gno_scan.proofs.Measuring.{Counts, AreNotEmpty, IsLed, either}
use Rattle.gno_scan.proofs.Integers.{digits_some, behind_prefix_measure, behind_prefix_some, behind_prefix_bytes, IsBehind, behind_letter, letters, lettered}
use Rattle.gno_scan.proofs.Floats.{AreMaybe, IsWhole, IsPointed, IsMantissa, IsScaled, is_mantissa_byte, pointed_measure, scaled_measure, mantissa_some}

decimal_whole : IsWhole is_decimal_digit AreDecimal (digits_length is_decimal_digit)
decimal_whole = record { some = digits_some is_decimal_digit; bytes = digit_bytes is_decimal_digit; counts = digits_measure is_decimal_digit }

hex_whole_of : IsWhole is_hex_digit (AreBehindPrefix is_hex_digit) (behind_prefix_length is_hex_digit)
hex_whole_of = record { some = behind_prefix_some is_hex_digit; bytes = behind_prefix_bytes is_hex_digit; counts = behind_prefix_measure is_hex_digit }

one_of_two : (test : ℕ → Bool) (a b m : ℕ) → (m == a || m == b) ≡ true → test a ≡ false → test b ≡ false → test m ≡ false
one_of_two test a b m h p q = elim (m == a) as (λ t. (m == a) ≡ t → (t || m == b) ≡ true → test m ≡ false) [
  | true ↦ λ e f. ap test (eqb-true m a e) ∙ p
  | false ↦ λ e f. ap test (eqb-true m b f) ∙ q
] refl h

decimal_apart : (mark : ℕ) → is_decimal_mark mark ≡ true → is_mantissa_byte is_decimal_digit mark ≡ false
decimal_apart mark h = one_of_two (is_mantissa_byte is_decimal_digit) 101 69 mark h refl refl

hex_apart : (mark : ℕ) → is_hex_mark mark ≡ true → is_mantissa_byte is_hex_digit mark ≡ false
hex_apart mark h = one_of_two (is_mantissa_byte is_hex_digit) 112 80 mark h refl refl

abbrev pub IsScaledDecimal : List ℕ → Type 0
IsScaledDecimal = IsScaled is_decimal_digit is_decimal_mark AreDecimal

abbrev pub IsPointedDecimal : List ℕ → Type 0
IsPointedDecimal = IsPointed is_decimal_digit AreDecimal

abbrev pub IsDecimalFloat : List ℕ → Type 0
IsDecimalFloat word = IsScaledDecimal word ⊎ IsPointedDecimal word

abbrev pub IsScaledHex : List ℕ → Type 0
IsScaledHex = IsScaled is_hex_digit is_hex_mark (AreBehindPrefix is_hex_digit)

abbrev pub IsHexFloat : List ℕ → Type 0
IsHexFloat = IsBehind is_hex_letter IsScaledHex

pub decimal_float_measure : Counts IsDecimalFloat decimal_float_length
unfolding decimal_float_length
decimal_float_measure =
    either IsScaledDecimal IsPointedDecimal (scaled_length is_decimal_digit is_decimal_mark (digits_length is_decimal_digit)) (pointed_length is_decimal_digit (digits_length is_decimal_digit))
    (scaled_measure is_decimal_digit is_decimal_mark AreDecimal (digits_length is_decimal_digit) refl decimal_apart decimal_whole)
    (pointed_measure is_decimal_digit AreDecimal (digits_length is_decimal_digit) refl decimal_whole)

scaled_some : AreNotEmpty IsScaledHex
scaled_some word j =
    let full = mantissa_some is_hex_digit (AreBehindPrefix is_hex_digit) (behind_prefix_some is_hex_digit) j.left j.on_left in
    let size = ap length j.parts in
    omega (arith, length-append j.left j.right)

pub hex_float_measure : Counts IsHexFloat hex_float_length
unfolding hex_float_length
hex_float_measure =
    behind_letter is_hex_letter IsScaledHex (scaled_length is_hex_digit is_hex_mark (behind_prefix_length is_hex_digit)) scaled_some
    (scaled_measure is_hex_digit is_hex_mark (AreBehindPrefix is_hex_digit) (behind_prefix_length is_hex_digit) refl hex_apart hex_whole_of)

-- a point and what stands behind it
at_point : (P : List ℕ → Type 0) (word : List ℕ) (l : IsLed is_point P word) → word ≡ 46 ∷ l.rest
at_point P word l = l.parts ∙ ap (λ (b : ℕ). b ∷ l.rest) (eqb-true l.first 46 l.leads)

-- a mantissa of two parts with an exponent behind it
two_parts : (word whole point_part part exponent : List ℕ) → word ≡ whole ++ point_part → point_part ≡ 46 ∷ part → word ++ exponent ≡ whole ++ 46 ∷ (part ++ exponent)
two_parts word whole point_part part exponent e f = ap (λ (w : List ℕ). w ++ exponent) (e ∙ ap (λ (w : List ℕ). whole ++ w) f) ∙ append_assoc whole (46 ∷ part) exponent

pointed_float : (word exponent : List ℕ) → IsPointedDecimal word → IsMaybeExponent exponent → IsFloat (word ++ exponent)
pointed_float word exponent (inl j) e =
    let l = j.on_right in
    subst IsFloat (sym (two_parts word j.left j.right l.rest exponent j.parts (at_point (AreMaybe is_decimal_digit) j.right l))) (pointed j.left l.rest exponent j.on_left l.behind_it e)
pointed_float word exponent (inr l) e =
    subst IsFloat (sym (ap (λ (w : List ℕ). w ++ exponent) (at_point AreDecimal word l))) (part_only l.rest exponent l.behind_it e)

scaled_float : (word exponent : List ℕ) → IsMantissa is_decimal_digit AreDecimal word → IsExponent is_decimal_mark exponent → IsFloat (word ++ exponent)
scaled_float word exponent (inl whole) e = scaled word exponent whole e
scaled_float word exponent (inr p) e = pointed_float word exponent p (inr e)

hex_float : (letter : ℕ) (word exponent : List ℕ) → is_hex_letter letter ≡ true → IsMantissa is_hex_digit (AreBehindPrefix is_hex_digit) word → IsExponent is_hex_mark exponent → IsFloat (48 ∷ letter ∷ (word ++ exponent))
hex_float letter word exponent h (inl whole) e = hex_whole letter word exponent h whole e
hex_float letter word exponent h (inr (inl j)) e =
    let l = j.on_right in
    subst (λ (w : List ℕ). IsFloat (48 ∷ letter ∷ w)) (sym (two_parts word j.left j.right l.rest exponent j.parts (at_point (AreMaybe is_hex_digit) j.right l)))
    (hex_pointed letter j.left l.rest exponent h j.on_left l.behind_it e)
hex_float letter word exponent h (inr (inr l)) e =
    subst (λ (w : List ℕ). IsFloat (48 ∷ letter ∷ w)) (sym (ap (λ (w : List ℕ). w ++ exponent) (at_point AreHex word l))) (hex_part_only letter l.rest exponent h l.behind_it e)

abbrev pub FloatForms : List ℕ → Type 0
FloatForms word = IsDecimalFloat word ⊎ IsHexFloat word

pub float_to : (word : List ℕ) → FloatForms word → IsFloat word
float_to word (inl (inl j)) = subst IsFloat (sym j.parts) (scaled_float j.left j.right j.on_left j.on_right)
float_to word (inl (inr p)) = subst IsFloat (append-nil word) (pointed_float word [] p (inl refl))
float_to word (inr b) =
    let l = letters is_hex_letter IsScaledHex word b in
    let j = l.behind_it in
    let whole : word ≡ 48 ∷ l.letter ∷ (j.left ++ j.right) = l.parts ∙ ap (λ (w : List ℕ). 48 ∷ l.letter ∷ w) j.parts in
    subst IsFloat (sym whole) (hex_float l.letter j.left j.right l.is_letter_of j.on_left j.on_right)

point_led : (P : List ℕ → Type 0) (rest : List ℕ) → P rest → IsLed is_point P (46 ∷ rest)
point_led P rest h = record { first = 46; rest = rest; parts = refl; leads = refl; behind_it = h }

both_parts : (is_one : ℕ → Bool) (P : List ℕ → Type 0) (whole part : List ℕ) → P whole → AreMaybe is_one part → IsPointed is_one P (whole ++ 46 ∷ part)
both_parts is_one P whole part h k = inl (record { left = whole; right = 46 ∷ part; parts = refl; on_left = h; on_right = point_led (AreMaybe is_one) part k })

with_exponent : (is_one is_mark : ℕ → Bool) (P : List ℕ → Type 0) (word mantissa exponent : List ℕ) → word ≡ mantissa ++ exponent → IsMantissa is_one P mantissa → IsExponent is_mark exponent → IsScaled is_one is_mark P word
with_exponent is_one is_mark P word mantissa exponent e m x = record { left = mantissa; right = exponent; parts = e; on_left = m; on_right = x }

maybe_with_exponent : (word mantissa exponent : List ℕ) → word ≡ mantissa ++ exponent → IsPointedDecimal mantissa → IsMaybeExponent exponent → IsDecimalFloat word
maybe_with_exponent word mantissa exponent e p (inl none) =
    let same : word ≡ mantissa = e ∙ ap (λ (w : List ℕ). mantissa ++ w) none ∙ append-nil mantissa in
    inr (subst IsPointedDecimal (sym same) p)
maybe_with_exponent word mantissa exponent e p (inr x) = inl (with_exponent is_decimal_digit is_decimal_mark AreDecimal word mantissa exponent e (inr p) x)

pub float_from : (word : List ℕ) → IsFloat word → FloatForms word
float_from word (pointed whole part exponent h p e) =
    inl (maybe_with_exponent (whole ++ 46 ∷ (part ++ exponent)) (whole ++ 46 ∷ part) exponent (sym (append_assoc whole (46 ∷ part) exponent)) (both_parts is_decimal_digit AreDecimal whole part h p) e)
float_from word (scaled whole exponent h e) = inl (inl (with_exponent is_decimal_digit is_decimal_mark AreDecimal (whole ++ exponent) whole exponent refl (inl h) e))
float_from word (part_only part exponent p e) = inl (maybe_with_exponent (46 ∷ (part ++ exponent)) (46 ∷ part) exponent refl (inr (point_led AreDecimal part p)) e)
float_from word (hex_whole letter whole exponent h w e) =
    inr (lettered is_hex_letter IsScaledHex letter (whole ++ exponent) h (with_exponent is_hex_digit is_hex_mark (AreBehindPrefix is_hex_digit) (whole ++ exponent) whole exponent refl (inl w) e))
float_from word (hex_pointed letter whole part exponent h w p e) =
    inr (lettered is_hex_letter IsScaledHex letter (whole ++ 46 ∷ (part ++ exponent)) h
    (with_exponent is_hex_digit is_hex_mark (AreBehindPrefix is_hex_digit) (whole ++ 46 ∷ (part ++ exponent)) (whole ++ 46 ∷ part) exponent (sym (append_assoc whole (46 ∷ part) exponent))
    (inr (both_parts is_hex_digit (AreBehindPrefix is_hex_digit) whole part w p)) e))
float_from word (hex_part_only letter part exponent h p e) =
    inr (lettered is_hex_letter IsScaledHex letter (46 ∷ (part ++ exponent)) h
    (with_exponent is_hex_digit is_hex_mark (AreBehindPrefix is_hex_digit) (46 ∷ (part ++ exponent)) (46 ∷ part) exponent refl (inr (inr (point_led AreHex part p))) e))
