-- The exponents that a text begins with.
use Rattle.std.proofs.Common.{◌≡◌, ℕ, List, ◌∷◌, Bool, true, false, refl, sym, inl, inr, subst}
use Rattle.std.specs.Prelude.{◌⊎◌}
use Rattle.gno_scan.specs.Numbers.{IsExponent, AreDecimal, is_sign, is_decimal_digit}
use Rattle.gno_scan.specs.Numbers.IsExponent.{unsigned, signed}
use Rattle.gno_scan.specs.NumberLengths.{led_length, digits_length, signed_length, exponent_length}
use Rattle.gno_scan.proofs.Digits.{digits_measure}
use Rattle.gno_scan.proofs.Measuring.{Counts, AreNotEmpty, BeginsSo, IsLed, either, led, mapped}
use Rattle.gno_scan.proofs.Integers.{digits_some, led_some}

abbrev pub Signed : List ℕ → Type 0
Signed word = AreDecimal word ⊎ IsLed is_sign AreDecimal word

signed_some : AreNotEmpty Signed
signed_some word (inl h) = digits_some is_decimal_digit word h
signed_some word (inr h) = led_some is_sign AreDecimal word h

signed_measure : Counts Signed signed_length
unfolding signed_length
signed_measure =
    either AreDecimal (IsLed is_sign AreDecimal) (digits_length is_decimal_digit) (led_length is_sign (digits_length is_decimal_digit))
    (digits_measure is_decimal_digit)
    (led is_sign AreDecimal (digits_length is_decimal_digit) (digits_some is_decimal_digit) (digits_measure is_decimal_digit))

module _ (is_mark : ℕ → Bool) where
  with_sign : (mark : ℕ) (rest : List ℕ) → is_mark mark ≡ true → Signed rest → IsExponent is_mark (mark ∷ rest)
  with_sign mark rest h (inl digits) = unsigned mark rest h digits
  with_sign mark rest h (inr l) = subst (λ (w : List ℕ). IsExponent is_mark (mark ∷ w)) (sym l.parts) (signed mark l.first l.rest h l.leads l.behind_it)

  exponent_to : (word : List ℕ) → IsLed is_mark Signed word → IsExponent is_mark word
  exponent_to word l = subst (IsExponent is_mark) (sym l.parts) (with_sign l.first l.rest l.leads l.behind_it)

  pub exponent_from : (word : List ℕ) → IsExponent is_mark word → IsLed is_mark Signed word
  exponent_from word (unsigned mark digits h k) = record { first = mark; rest = digits; parts = refl; leads = h; behind_it = inl k }
  exponent_from word (signed mark sign digits h s k) =
      record { first = mark; rest = sign ∷ digits; parts = refl; leads = h; behind_it = inr (record { first = sign; rest = digits; parts = refl; leads = s; behind_it = k }) }

  pub exponent_measure : Counts (IsExponent is_mark) (exponent_length is_mark)
  unfolding exponent_length
  exponent_measure = mapped (IsLed is_mark Signed) (IsExponent is_mark) (exponent_length is_mark) exponent_to exponent_from (led is_mark Signed signed_length signed_some signed_measure)

  -- an exponent begins with a mark, which is no byte of what stands before it
  pub exponent_begins : (is_byte : ℕ → Bool) → ((mark : ℕ) → is_mark mark ≡ true → is_byte mark ≡ false) → (word : List ℕ) → IsExponent is_mark word → BeginsSo is_byte false word
  exponent_begins is_byte off word h = let l = exponent_from word h in record { first = l.first; rest = l.rest; parts = l.parts; is_so = off l.first l.leads }
