-- The integers that a text begins with.
use Rattle.std.proofs.Common.{◌≡◌, ℕ, List, [], ◌∷◌, Bool, true, false, ◌||◌, ◌&&◌, refl, arith, ap, ◌∙◌, sym, length, inl, inr, subst, max, cond, eqb-true}
use Rattle.std.proofs.lemmas.Bool.Decides.{nat_tests}
use Rattle.std.specs.Prelude.{◌⊎◌}
use Rattle.gno_scan.specs.Longest.{Measures}
use Rattle.gno_scan.specs.Numbers.{AreDigits, AreBehindPrefix, IsInteger, is_decimal_digit, is_hex_digit, is_hex_letter, is_other_base_letter, AreDecimal}
use Rattle.gno_scan.specs.Numbers.AreDigits.{last, digit, digit_and_bar}
use Rattle.gno_scan.specs.Numbers.AreBehindPrefix.{plain, barred}
use Rattle.gno_scan.specs.Numbers.IsInteger.{decimal, hex, other_base}
use Rattle.gno_scan.specs.NumberLengths.{is_bar, is_zero, digits_length, behind, behind_prefix_length, led_length, prefixed_length, hex_length, other_base_length, integer_length}
use Rattle.gno_scan.proofs.Digits.{digits_measure, digit_bytes, is_digit_or_bar}
use Rattle.gno_scan.proofs.Measuring.{Counts, AreNotEmpty, AreOf, IsLed, either, led, mapped}

pub digits_some : (is_one : ℕ → Bool) → AreNotEmpty (AreDigits is_one)
digits_some is_one word (last b h) = omega arith
digits_some is_one word (digit b more h k) = omega arith
digits_some is_one word (digit_and_bar b more h k) = omega arith

pub led_some : (is_first : ℕ → Bool) (P : List ℕ → Type 0) → AreNotEmpty (IsLed is_first P)
led_some is_first P word h = let e = ap length h.parts in omega arith

abbrev Prefixed : (ℕ → Bool) → List ℕ → Type 0
Prefixed is_one word = AreDigits is_one word ⊎ IsLed is_bar (AreDigits is_one) word

prefixed_to : (is_one : ℕ → Bool) (word : List ℕ) → Prefixed is_one word → AreBehindPrefix is_one word
prefixed_to is_one word (inl digits) = plain word digits
prefixed_to is_one word (inr l) =
    let bar : l.first ≡ 95 = eqb-true l.first 95 l.leads in
    let whole : word ≡ 95 ∷ l.rest = l.parts ∙ ap (λ (b : ℕ). b ∷ l.rest) bar in
    subst (AreBehindPrefix is_one) (sym whole) (barred l.rest l.behind_it)

prefixed_from : (is_one : ℕ → Bool) (word : List ℕ) → AreBehindPrefix is_one word → Prefixed is_one word
prefixed_from is_one word (plain digits h) = inl h
prefixed_from is_one word (barred digits h) = inr (record { first = 95; rest = digits; parts = refl; leads = refl; behind_it = h })

pub behind_prefix_measure : (is_one : ℕ → Bool) → Counts (AreBehindPrefix is_one) (behind_prefix_length is_one)
unfolding behind_prefix_length
behind_prefix_measure is_one =
    mapped (Prefixed is_one) (AreBehindPrefix is_one) (behind_prefix_length is_one) (prefixed_to is_one) (prefixed_from is_one)
    (either (AreDigits is_one) (IsLed is_bar (AreDigits is_one)) (digits_length is_one) (led_length is_bar (digits_length is_one))
    (digits_measure is_one)
    (led is_bar (AreDigits is_one) (digits_length is_one) (digits_some is_one) (digits_measure is_one)))

pub behind_prefix_some : (is_one : ℕ → Bool) → AreNotEmpty (AreBehindPrefix is_one)
behind_prefix_some is_one word (plain digits h) = digits_some is_one digits h
behind_prefix_some is_one word (barred digits h) = omega arith

pub behind_prefix_bytes : (is_one : ℕ → Bool) → AreOf (is_digit_or_bar is_one) (AreBehindPrefix is_one)
behind_prefix_bytes is_one word (plain digits h) = digit_bytes is_one digits h
behind_prefix_bytes is_one word (barred digits h) = rw (digit_bytes is_one digits h) (elim (is_one 95) as (λ t. ((t || true) && true) ≡ true) [ true ↦ refl | false ↦ refl ])

-- a `0`, a letter and a spelling behind them
abbrev pub IsBehind : (ℕ → Bool) → (List ℕ → Type 0) → List ℕ → Type 0
IsBehind is_letter P word = IsLed is_zero (IsLed is_letter P) word

behind_twice : (n : ℕ) → behind 1 (behind 1 n) ≡ behind 2 n
behind_twice n = grind (arith, nat_tests)

two_steps : (zero letter : Bool) (n : ℕ) → cond zero (behind 1 (cond letter (behind 1 n) 0)) 0 ≡ cond (zero && letter) (behind 2 n) 0
two_steps true true n = behind_twice n
two_steps true false n = refl
two_steps false letter n = refl

prefixed_steps : (is_letter : ℕ → Bool) (count : List ℕ → ℕ) (text : List ℕ) → led_length is_zero (led_length is_letter count) text ≡ prefixed_length is_letter count text
prefixed_steps is_letter count [] = refl
prefixed_steps is_letter count (b ∷ []) = elim (is_zero b) as (λ (t : Bool). ◌≡◌ {A = ℕ} (cond t 0 0) 0) [ true ↦ refl | false ↦ refl ]
prefixed_steps is_letter count (b ∷ letter ∷ rest) = two_steps (is_zero b) (is_letter letter) (count rest)

pub behind_letter : (is_letter : ℕ → Bool) (P : List ℕ → Type 0) (count : List ℕ → ℕ) → AreNotEmpty P → Counts P count → Counts (IsBehind is_letter P) (prefixed_length is_letter count)
behind_letter is_letter P count some h text =
    subst (λ (n : ℕ). Measures (IsBehind is_letter P) text n) (prefixed_steps is_letter count text)
    (led is_zero (IsLed is_letter P) (led_length is_letter count) (led_some is_letter P) (led is_letter P count some h) text)

-- its parts
pub record Letters (is_letter : ℕ → Bool) (P : List ℕ → Type 0) (word : List ℕ) : Type 0 where
  pub letter : ℕ
  pub rest : List ℕ
  pub parts : word ≡ 48 ∷ letter ∷ rest
  pub is_letter_of : is_letter letter ≡ true
  pub behind_it : P rest

pub letters : (is_letter : ℕ → Bool) (P : List ℕ → Type 0) (word : List ℕ) → IsBehind is_letter P word → Letters is_letter P word
letters is_letter P word l =
    let zero_is : l.first ≡ 48 = eqb-true l.first 48 l.leads in
    let inner = l.behind_it in
    let whole : word ≡ 48 ∷ inner.first ∷ inner.rest = l.parts ∙ ap (λ (b : ℕ). b ∷ l.rest) zero_is ∙ ap (λ (w : List ℕ). 48 ∷ w) inner.parts in
    record { letter = inner.first; rest = inner.rest; parts = whole; is_letter_of = inner.leads; behind_it = inner.behind_it }

pub lettered : (is_letter : ℕ → Bool) (P : List ℕ → Type 0) (letter : ℕ) (rest : List ℕ) → is_letter letter ≡ true → P rest → IsBehind is_letter P (48 ∷ letter ∷ rest)
lettered is_letter P letter rest h p =
    record { first = 48; rest = letter ∷ rest; parts = refl; leads = refl; behind_it = record { first = letter; rest = rest; parts = refl; leads = h; behind_it = p } }

abbrev pub Hex : List ℕ → Type 0
Hex = IsBehind is_hex_letter (AreBehindPrefix is_hex_digit)

abbrev pub OtherBase : List ℕ → Type 0
OtherBase = IsBehind is_other_base_letter (AreBehindPrefix is_decimal_digit)

abbrev pub IntegerForms : List ℕ → Type 0
IntegerForms word = AreDecimal word ⊎ (Hex word ⊎ OtherBase word)

forms_to : (word : List ℕ) → IntegerForms word → IsInteger word
forms_to word (inl digits) = decimal word digits
forms_to word (inr (inl h)) = let l = letters is_hex_letter (AreBehindPrefix is_hex_digit) word h in subst IsInteger (sym l.parts) (hex l.letter l.rest l.is_letter_of l.behind_it)
forms_to word (inr (inr h)) = let l = letters is_other_base_letter (AreBehindPrefix is_decimal_digit) word h in subst IsInteger (sym l.parts) (other_base l.letter l.rest l.is_letter_of l.behind_it)

pub forms_from : (word : List ℕ) → IsInteger word → IntegerForms word
forms_from word (decimal digits h) = inl h
forms_from word (hex letter digits h k) = inr (inl (lettered is_hex_letter (AreBehindPrefix is_hex_digit) letter digits h k))
forms_from word (other_base letter digits h k) = inr (inr (lettered is_other_base_letter (AreBehindPrefix is_decimal_digit) letter digits h k))

hex_measure : Counts Hex hex_length
unfolding hex_length
hex_measure = behind_letter is_hex_letter (AreBehindPrefix is_hex_digit) (behind_prefix_length is_hex_digit) (behind_prefix_some is_hex_digit) (behind_prefix_measure is_hex_digit)

other_base_measure : Counts OtherBase other_base_length
unfolding other_base_length
other_base_measure = behind_letter is_other_base_letter (AreBehindPrefix is_decimal_digit) (behind_prefix_length is_decimal_digit) (behind_prefix_some is_decimal_digit) (behind_prefix_measure is_decimal_digit)

pub integer_measure : Counts IsInteger integer_length
unfolding integer_length
integer_measure =
    mapped IntegerForms IsInteger integer_length forms_to forms_from
    (either AreDecimal (λ word. Hex word ⊎ OtherBase word) (digits_length is_decimal_digit) (λ text. max (hex_length text) (other_base_length text))
    (digits_measure is_decimal_digit)
    (either Hex OtherBase hex_length other_base_length hex_measure other_base_measure))
