-- No integer and no float has the letter `i`.
use Rattle.std.proofs.Common.{◌≡◌, ℕ, List, [], ◌∷◌, Bool, true, false, not, ◌&&◌, refl, ap, ◌∙◌, sym, inl, inr, eqb-true}
use Rattle.std.specs.Prelude.{◌==◌, ◌⊎◌}
use Rattle.std.specs.List.{list_all}
use Rattle.std.proofs.lemmas.List.Folds.{list_all-append}
use Rattle.gno_scan.specs.Numbers.{IsExponent, IsInteger, IsFloat, AreDecimal, AreBehindPrefix, is_sign, is_decimal_digit, is_decimal_mark, is_hex_mark, is_hex_digit, is_hex_letter, is_other_base_letter}
use Rattle.gno_scan.specs.NumberLengths.{is_zero}
use Rattle.gno_scan.proofs.Digits.{digit_bytes, is_digit_or_bar}
use Rattle.gno_scan.proofs.Measuring.{AreOf, IsLed, IsJoined}
use Rattle.gno_scan.proofs.Integers.{behind_prefix_bytes, IsBehind, Hex, OtherBase, forms_from}
use Rattle.gno_scan.proofs.Exponents.{Signed, exponent_from}
use Rattle.gno_scan.proofs.Floats.{IsMantissa, is_mantissa_byte, pointed_bytes, mantissa_bytes}
use Rattle.gno_scan.proofs.FloatForms.{IsScaledDecimal, IsPointedDecimal, IsScaledHex, IsHexFloat, float_from}

abbrev pub is_no_i : ℕ → Bool
is_no_i b = not (b == 105)

no_i : (test : ℕ → Bool) → test 105 ≡ false → (b : ℕ) → test b ≡ true → is_no_i b ≡ true
no_i test h b k = elim (b == 105) as (λ t. (b == 105) ≡ t → not t ≡ true) [
  | true ↦ λ e. absurd (let off : test b ≡ false = ap test (eqb-true b 105 e) ∙ h in let f : true ≡ false = sym k ∙ off in cc)
  | false ↦ λ e. refl
] refl

all_no_i : (test : ℕ → Bool) → test 105 ≡ false → (word : List ℕ) → list_all test word ≡ true → list_all is_no_i word ≡ true
all_no_i test h [] k = refl
all_no_i test h (b ∷ rest) k = elim (test b) as (λ t. test b ≡ t → (t && list_all test rest) ≡ true → list_all is_no_i (b ∷ rest) ≡ true) [
  | true ↦ λ e f. rw (no_i test h b e, all_no_i test h rest f) refl
  | false ↦ λ e f. absurd (let g : false ≡ true = f in cc)
] refl k

abbrev pub HaveNoI : (List ℕ → Type 0) → Type 0
HaveNoI P = AreOf is_no_i P

of_bytes : (test : ℕ → Bool) (P : List ℕ → Type 0) → test 105 ≡ false → AreOf test P → HaveNoI P
of_bytes test P h of word p = all_no_i test h word (of word p)

of_led : (is_first : ℕ → Bool) (P : List ℕ → Type 0) → is_first 105 ≡ false → HaveNoI P → HaveNoI (IsLed is_first P)
of_led is_first P h of word l = ap (list_all is_no_i) l.parts ∙ rw (no_i is_first h l.first l.leads, of l.rest l.behind_it) refl

of_joined : (P Q : List ℕ → Type 0) → HaveNoI P → HaveNoI Q → HaveNoI (IsJoined P Q)
of_joined P Q p q word j = ap (list_all is_no_i) j.parts ∙ list_all-append is_no_i j.left j.right ∙ rw (p j.left j.on_left, q j.right j.on_right) refl

of_either : (P Q : List ℕ → Type 0) → HaveNoI P → HaveNoI Q → HaveNoI (λ word. P word ⊎ Q word)
of_either P Q p q word (inl h) = p word h
of_either P Q p q word (inr h) = q word h

of_behind : (is_letter : ℕ → Bool) (P : List ℕ → Type 0) → is_letter 105 ≡ false → HaveNoI P → HaveNoI (IsBehind is_letter P)
of_behind is_letter P h of = of_led is_zero (IsLed is_letter P) refl (of_led is_letter P h of)

decimal_no_i : HaveNoI AreDecimal
decimal_no_i = of_bytes (is_digit_or_bar is_decimal_digit) AreDecimal refl (digit_bytes is_decimal_digit)

hex_no_i : HaveNoI Hex
hex_no_i = of_behind is_hex_letter (AreBehindPrefix is_hex_digit) refl (of_bytes (is_digit_or_bar is_hex_digit) (AreBehindPrefix is_hex_digit) refl (behind_prefix_bytes is_hex_digit))

other_base_no_i : HaveNoI OtherBase
other_base_no_i = of_behind is_other_base_letter (AreBehindPrefix is_decimal_digit) refl (of_bytes (is_digit_or_bar is_decimal_digit) (AreBehindPrefix is_decimal_digit) refl (behind_prefix_bytes is_decimal_digit))

pub integer_no_i : HaveNoI IsInteger
integer_no_i word h = of_either AreDecimal (λ w. Hex w ⊎ OtherBase w) decimal_no_i (of_either Hex OtherBase hex_no_i other_base_no_i) word (forms_from word h)

signed_no_i : HaveNoI Signed
signed_no_i = of_either AreDecimal (IsLed is_sign AreDecimal) decimal_no_i (of_led is_sign AreDecimal refl decimal_no_i)

exponent_no_i : (is_mark : ℕ → Bool) → is_mark 105 ≡ false → HaveNoI (IsExponent is_mark)
exponent_no_i is_mark h word e = of_led is_mark Signed h signed_no_i word (exponent_from is_mark word e)

scaled_decimal_no_i : HaveNoI IsScaledDecimal
scaled_decimal_no_i =
    of_joined (IsMantissa is_decimal_digit AreDecimal) (IsExponent is_decimal_mark)
    (of_bytes (is_mantissa_byte is_decimal_digit) (IsMantissa is_decimal_digit AreDecimal) refl (mantissa_bytes is_decimal_digit AreDecimal (digit_bytes is_decimal_digit)))
    (exponent_no_i is_decimal_mark refl)

pointed_decimal_no_i : HaveNoI IsPointedDecimal
pointed_decimal_no_i = of_bytes (is_mantissa_byte is_decimal_digit) IsPointedDecimal refl (pointed_bytes is_decimal_digit AreDecimal (digit_bytes is_decimal_digit))

scaled_hex_no_i : HaveNoI IsScaledHex
scaled_hex_no_i =
    of_joined (IsMantissa is_hex_digit (AreBehindPrefix is_hex_digit)) (IsExponent is_hex_mark)
    (of_bytes (is_mantissa_byte is_hex_digit) (IsMantissa is_hex_digit (AreBehindPrefix is_hex_digit)) refl (mantissa_bytes is_hex_digit (AreBehindPrefix is_hex_digit) (behind_prefix_bytes is_hex_digit)))
    (exponent_no_i is_hex_mark refl)

pub float_no_i : HaveNoI IsFloat
float_no_i word h =
    of_either (λ w. IsScaledDecimal w ⊎ IsPointedDecimal w) IsHexFloat
    (of_either IsScaledDecimal IsPointedDecimal scaled_decimal_no_i pointed_decimal_no_i)
    (of_behind is_hex_letter IsScaledHex refl scaled_hex_no_i) word (float_from word h)
