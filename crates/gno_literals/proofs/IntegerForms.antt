-- The forms of an integer literal, by its base.
use Rattle.std.proofs.Common.{◌≡◌, ◌≤◌, ◌<◌, ℕ, ◌-◌, List, [], ◌∷◌, Bool, true, false, cond, ◌||◌, refl, arith, ap, ◌∙◌, sym, length, drop, subst, Option, Some, None, inl, inr, eqb-true, ltb-true, take}
use Rattle.std.specs.Prelude.{◌==◌, IfSome, nat_lt, not}
use Rattle.std.specs.Char.{digit_value}
use Rattle.std.specs.List.{list_any}
use Rattle.std.proofs.lemmas.Bool.Decides.{nat_tests}
use Rattle.std.proofs.lemmas.List.{take_rest}
use Rattle.gno_scan.specs.Numbers.{AreBehindPrefix, AreDecimal, AreDigits, IsInteger, base_behind_zero, is_decimal_digit, is_hex_digit, is_hex_letter, is_other_base_letter}
use Rattle.gno_scan.specs.Numbers.AreDigits.{last, digit, digit_and_bar}
use Rattle.gno_scan.specs.Numbers.AreBehindPrefix.{plain, barred}
use Rattle.gno_scan.specs.Numbers.IsInteger.{decimal, hex, other_base}
use Rattle.gno_scan.specs.NumberValues.{base_of, is_no_bar, prefix_length, value_from}
use Rattle.gno_scan.proofs.Values.{digits_in, is_value, no_digits, no_value}
use Rattle.gno_literals.specs.Literals.{IntegerValue}
use Rattle.gno_literals.proofs.Reading.{Follows, is_digit_of, is_read, number_read, read_as}

-- digits of one class are digits of a wider one
wider : (p q : ℕ → Bool) (digits : List ℕ) → ((b : ℕ) → p b ≡ true → q b ≡ true) → AreDigits p digits → AreDigits q digits
wider p q _ to (last b h) = last b (to b h)
wider p q _ to (digit b more h k) = digit b more (to b h) (wider p q more to k)
wider p q _ to (digit_and_bar b more h k) = digit_and_bar b more (to b h) (wider p q more to k)

wider_behind : (p q : ℕ → Bool) (digits : List ℕ) → ((b : ℕ) → p b ≡ true → q b ≡ true) → AreBehindPrefix p digits → AreBehindPrefix q digits
wider_behind p q _ to (plain digits h) = plain digits (wider p q digits to h)
wider_behind p q _ to (barred digits h) = barred digits (wider p q digits to h)

decimal_of : (base b : ℕ) → base ≤ 10 → is_digit_of base b ≡ true → is_decimal_digit b ≡ true
decimal_of base b few h =
    let small = ltb-true (digit_value b) base h in
    let ten : digit_value b < 10 = omega (arith, small) in
    grind (arith, nat_tests, ten)

hex_of : (b : ℕ) → is_digit_of 16 b ≡ true → is_hex_digit b ≡ true
hex_of b h =
    let small = ltb-true (digit_value b) 16 h in
    grind (arith, nat_tests, small)

-- whether a prefix stands before the digits
abbrev pub has_prefix : List ℕ → Bool
has_prefix word = nat_lt 0 (prefix_length word)

-- the digits follow their prefix as the literal's form says
record FollowsSo (word : List ℕ) : Type 0 where
  is_one : ℕ → Bool
  no_bar : is_one 95 ≡ false
  follows : Follows is_one (has_prefix word) (digits_in word)

-- what stands behind a zero, where no letter of a base does
record IsPlain (b letter : ℕ) (rest : List ℕ) : Type 0 where
  no_hex : is_hex_letter letter ≡ false
  no_other : is_other_base_letter letter ≡ false
  behind_zero : AreBehindPrefix is_decimal_digit (letter ∷ rest)

digit_no_letter : (b : ℕ) → is_decimal_digit b ≡ true → (is_hex_letter b ≡ false) × (is_other_base_letter b ≡ false)
digit_no_letter b h = (grind (arith, nat_tests, h), grind (arith, nat_tests, h))

first_digit : (is_one : ℕ → Bool) (b : ℕ) (word rest : List ℕ) → word ≡ b ∷ rest → AreDigits is_one word → is_one b ≡ true
first_digit is_one b _ rest e (last d h) = let same : d ≡ b = cc in ap is_one (sym same) ∙ h
first_digit is_one b _ rest e (digit d more h k) = let same : d ≡ b = cc in ap is_one (sym same) ∙ h
first_digit is_one b _ rest e (digit_and_bar d more h k) = let same : d ≡ b = cc in ap is_one (sym same) ∙ h

is_plain : (b letter : ℕ) (word rest : List ℕ) → word ≡ b ∷ letter ∷ rest → AreDecimal word → IsPlain b letter rest
is_plain b letter _ rest e (last d h) = absurd (cc)
is_plain b letter _ rest e (digit d more h k) =
    let tail : more ≡ letter ∷ rest = cc in
    let no = digit_no_letter letter (first_digit is_decimal_digit letter more rest tail k) in
    record { no_hex = no.0; no_other = no.1; behind_zero = plain (letter ∷ rest) (subst AreDecimal tail k) }
is_plain b letter _ rest e (digit_and_bar d more h k) =
    let bar : 95 ≡ letter = cc in
    let tail : more ≡ rest = cc in
    record {
      no_hex = ap is_hex_letter (sym bar) ∙ refl;
      no_other = ap is_other_base_letter (sym bar) ∙ refl;
      behind_zero = subst (λ (x : ℕ). AreBehindPrefix is_decimal_digit (x ∷ rest)) bar (barred rest (subst AreDecimal tail k));
    }

decimal_so : (word : List ℕ) → AreDecimal word → FollowsSo word
decimal_so [] h = record { is_one = is_decimal_digit; no_bar = refl; follows = h }
decimal_so (b ∷ []) h = record { is_one = is_decimal_digit; no_bar = refl; follows = h }
decimal_so (b ∷ letter ∷ rest) h = on_zero (b == 48) refl
  where
    on_zero : (t : Bool) → (b == 48) ≡ t → FollowsSo (b ∷ letter ∷ rest)
    on_zero false e = record { is_one = is_decimal_digit; no_bar = refl; follows = rw e h }
    on_zero true e =
        let p = is_plain b letter (b ∷ letter ∷ rest) rest refl h in
        record { is_one = is_decimal_digit; no_bar = refl; follows = rw (e, p.no_hex, p.no_other) (inr p.behind_zero) }

hex_so : (letter : ℕ) (digits : List ℕ) → is_hex_letter letter ≡ true → AreBehindPrefix is_hex_digit digits → FollowsSo (48 ∷ letter ∷ digits)
hex_so letter digits h k = record { is_one = is_hex_digit; no_bar = refl; follows = rw h (inr k) }

or_true : (a b : Bool) → b ≡ true → (a || b) ≡ true
or_true true b h = refl
or_true false b h = h

other_so : (letter : ℕ) (digits : List ℕ) → is_other_base_letter letter ≡ true → AreBehindPrefix is_decimal_digit digits → FollowsSo (48 ∷ letter ∷ digits)
other_so letter digits h k =
    let some : (is_hex_letter letter || is_other_base_letter letter) ≡ true = or_true (is_hex_letter letter) (is_other_base_letter letter) h in
    record { is_one = is_decimal_digit; no_bar = refl; follows = rw some (inr k) }

follows_so : (word : List ℕ) → IsInteger word → FollowsSo word
follows_so _ (decimal word h) = decimal_so word h
follows_so _ (hex letter digits h k) = hex_so letter digits h k
follows_so _ (other_base letter digits h k) = other_so letter digits h k

-- what follows a prefix, where something does
behind_is : (is_one : ℕ → Bool) (digits : List ℕ) → (digits ≡ [] → ⊥) → Follows is_one true digits → AreBehindPrefix is_one digits
behind_is is_one digits some (inl none) = absurd (some none)
behind_is is_one digits some (inr h) = h

behind_zero : (b letter : ℕ) (whole rest : List ℕ) → is_decimal_digit b ≡ true → whole ≡ letter ∷ rest → AreBehindPrefix is_decimal_digit whole → AreDecimal (b ∷ whole)
behind_zero b letter _ rest h e (plain digits k) = digit b digits h k
behind_zero b letter _ rest h e (barred digits k) = digit_and_bar b digits h k

letter_base : (letter : ℕ) → is_hex_letter letter ≡ false → base_behind_zero letter ≤ 10
letter_base letter h = rw h (elim (letter == 98 || letter == 66) as (λ t. cond t 2 8 ≤ 10) [ true ↦ omega arith | false ↦ omega arith ])

integer_at : (letter : ℕ) (rest : List ℕ) → (drop (cond (is_hex_letter letter || is_other_base_letter letter) 2 1) (48 ∷ letter ∷ rest) ≡ [] → ⊥) →
    Follows (is_digit_of (base_behind_zero letter)) (nat_lt 0 (cond (is_hex_letter letter || is_other_base_letter letter) 2 1)) (drop (cond (is_hex_letter letter || is_other_base_letter letter) 2 1) (48 ∷ letter ∷ rest)) →
    IsInteger (48 ∷ letter ∷ rest)
integer_at letter rest = on_letter (is_hex_letter letter) (is_other_base_letter letter) refl refl
  where
    on_letter : (h o : Bool) → is_hex_letter letter ≡ h → is_other_base_letter letter ≡ o → (drop (cond (h || o) 2 1) (48 ∷ letter ∷ rest) ≡ [] → ⊥) →
        Follows (is_digit_of (base_behind_zero letter)) (nat_lt 0 (cond (h || o) 2 1)) (drop (cond (h || o) 2 1) (48 ∷ letter ∷ rest)) → IsInteger (48 ∷ letter ∷ rest)
    on_letter true o e f some follows =
        let sixteen : base_behind_zero letter ≡ 16 = rw e refl in
        let digits = subst (λ (base : ℕ). AreBehindPrefix (is_digit_of base) rest) sixteen (behind_is (is_digit_of (base_behind_zero letter)) rest some follows) in
        hex letter rest e (wider_behind (is_digit_of 16) is_hex_digit rest hex_of digits)
    on_letter false true e f some follows =
        let digits = behind_is (is_digit_of (base_behind_zero letter)) rest some follows in
        other_base letter rest f (wider_behind (is_digit_of (base_behind_zero letter)) is_decimal_digit rest (λ b. decimal_of (base_behind_zero letter) b (letter_base letter e)) digits)
    on_letter false false e f some follows =
        let digits = behind_is (is_digit_of (base_behind_zero letter)) (letter ∷ rest) some follows in
        decimal (48 ∷ letter ∷ rest) (behind_zero 48 letter (letter ∷ rest) rest refl refl (wider_behind (is_digit_of (base_behind_zero letter)) is_decimal_digit (letter ∷ rest) (λ b. decimal_of (base_behind_zero letter) b (letter_base letter e)) digits))

-- digits that follow a prefix as they may are an integer literal with it
is_integer : (word : List ℕ) → (digits_in word ≡ [] → ⊥) → Follows (is_digit_of (base_of word)) (has_prefix word) (digits_in word) → IsInteger word
is_integer [] some h = absurd (some refl)
is_integer (b ∷ []) some h = decimal (b ∷ []) (wider (is_digit_of 10) is_decimal_digit (b ∷ []) (λ d. decimal_of 10 d (omega arith)) h)
is_integer (b ∷ letter ∷ rest) some h = on_zero (b == 48) refl some h
  where
    on_zero : (t : Bool) → (b == 48) ≡ t → (drop (cond t (cond (is_hex_letter letter || is_other_base_letter letter) 2 1) 0) (b ∷ letter ∷ rest) ≡ [] → ⊥) →
        Follows (is_digit_of (cond t (base_behind_zero letter) 10)) (nat_lt 0 (cond t (cond (is_hex_letter letter || is_other_base_letter letter) 2 1) 0)) (drop (cond t (cond (is_hex_letter letter || is_other_base_letter letter) 2 1) 0) (b ∷ letter ∷ rest)) →
        IsInteger (b ∷ letter ∷ rest)
    on_zero false e some h = decimal (b ∷ letter ∷ rest) (wider (is_digit_of 10) is_decimal_digit (b ∷ letter ∷ rest) (λ d. decimal_of 10 d (omega arith)) h)
    on_zero true e some h = subst (λ (x : ℕ). (drop (cond (is_hex_letter letter || is_other_base_letter letter) 2 1) (x ∷ letter ∷ rest) ≡ [] → ⊥) →
        Follows (is_digit_of (base_behind_zero letter)) (nat_lt 0 (cond (is_hex_letter letter || is_other_base_letter letter) 2 1)) (drop (cond (is_hex_letter letter || is_other_base_letter letter) 2 1) (x ∷ letter ∷ rest)) →
        IsInteger (x ∷ letter ∷ rest)) (sym (eqb-true b 48 e)) (integer_at letter rest) some h

-- a digit stands among them
digit_no_bar : (base b : ℕ) → base ≤ 16 → is_digit_of base b ≡ true → is_no_bar b ≡ true
digit_no_bar base b few h = elim (b == 95) as (λ t. (b == 95) ≡ t → not t ≡ true) [
  | true ↦ λ e.
      let small = ltb-true (digit_value b) base h in
      let value : digit_value b ≡ 36 = ap digit_value (eqb-true b 95 e) in
      absurd (omega (arith, small, value, few))
  | false ↦ λ e. refl
] refl

any_first : (b : ℕ) (rest : List ℕ) → is_no_bar b ≡ true → list_any is_no_bar (b ∷ rest) ≡ true
any_first b rest h = rw h refl

any_digit : (base : ℕ) (digits : List ℕ) → base ≤ 16 → AreDigits (is_digit_of base) digits → list_any is_no_bar digits ≡ true
any_digit base _ few (last b h) = any_first b [] (digit_no_bar base b few h)
any_digit base _ few (digit b more h k) = any_first b more (digit_no_bar base b few h)
any_digit base _ few (digit_and_bar b more h k) = any_first b (95 ∷ more) (digit_no_bar base b few h)

any_behind : (base : ℕ) (digits : List ℕ) → base ≤ 16 → AreBehindPrefix (is_digit_of base) digits → list_any is_no_bar digits ≡ true
any_behind base _ few (plain digits h) = any_digit base digits few h
any_behind base _ few (barred digits h) = any_digit base digits few h

any_follows : (base : ℕ) (may_bar : Bool) (digits : List ℕ) → base ≤ 16 → (digits ≡ [] → ⊥) → Follows (is_digit_of base) may_bar digits → list_any is_no_bar digits ≡ true
any_follows base true digits few some h = any_behind base digits few (behind_is (is_digit_of base) digits some h)
any_follows base false digits few some h = any_digit base digits few h

-- what the reading of a word gives
abbrev pub word_read : List ℕ → Option ℕ
word_read word = number_read (base_of word) 0 (has_prefix word) (digits_in word)

pub integer_value : (word : List ℕ) (value : ℕ) → base_of word ≤ 16 → (digits_in word ≡ [] → ⊥) → word_read word ≡ Some value → IntegerValue word value
integer_value word value few some e =
    let r = read_as (base_of word) (digits_in word) 0 (has_prefix word) value e in
    record {
      literal = is_integer word some r.follows;
      value_is = is_value word value (any_follows (base_of word) (has_prefix word) (digits_in word) few some r.follows) r.value_is;
    }

pub no_integer : (word : List ℕ) → 2 ≤ base_of word → word_read word ≡ None → (value : ℕ) → IntegerValue word value → ⊥
no_integer word least e value v = on_value (value_from (base_of word) 0 (digits_in word)) refl
  where
    on_value : (o : Option ℕ) → value_from (base_of word) 0 (digits_in word) ≡ o → ⊥
    on_value None k = no_value word least k value v.value_is
    on_value (Some n) k =
        let so = follows_so word v.literal in
        let read = is_read (base_of word) so.is_one so.no_bar (digits_in word) 0 (has_prefix word) n k so.follows in
        let f : None ≡ Some n = sym e ∙ read in
        cc

pub no_integer_empty : (word : List ℕ) → digits_in word ≡ [] → (value : ℕ) → IntegerValue word value → ⊥
no_integer_empty word e value v = no_digits word (ap (list_any is_no_bar) e) value v.value_is

-- the slice behind the prefix
pub same_digits : (word : List ℕ) (n : ℕ) → n ≡ prefix_length word → take (length word - n) (drop n word) ≡ digits_in word
same_digits word n e = take_rest word n ∙ ap (λ (k : ℕ). drop k word) e

pub now_empty : (word : List ℕ) (n : ℕ) → n ≡ prefix_length word → (length (take (length word - n) (drop n word)) == 0) ≡ true → digits_in word ≡ []
now_empty word n e none = nothing (digits_in word) (sym (ap length (same_digits word n e)) ∙ eqb-true (length (take (length word - n) (drop n word))) 0 none)
  where
    nothing : (digits : List ℕ) → length digits ≡ 0 → digits ≡ []
    nothing [] h = refl
    nothing (b ∷ rest) h = absurd (omega (arith, h))

pub not_empty : (word : List ℕ) (n : ℕ) → n ≡ prefix_length word → (length (take (length word - n) (drop n word)) == 0) ≡ false → digits_in word ≡ [] → ⊥
not_empty word n e some none =
    let f : true ≡ false = ap (λ d. length d == 0) (sym (same_digits word n e ∙ none)) ∙ some in
    cc

pub same_read : (word : List ℕ) (base n : ℕ) → base ≡ base_of word → n ≡ prefix_length word → number_read base 0 (nat_lt 0 n) (take (length word - n) (drop n word)) ≡ word_read word
same_read word base n e f =
    ap (number_read base 0 (nat_lt 0 n)) (same_digits word n f) ∙ ap (λ k. number_read base 0 (nat_lt 0 k) (digits_in word)) f
    ∙ ap (λ b. number_read b 0 (has_prefix word) (digits_in word)) e

pub if_value : (word : List ℕ) (found : Option ℕ) {base : ℕ} → base ≤ 16 → base ≡ base_of word → (digits_in word ≡ [] → ⊥) → found ≡ word_read word → IfSome found (λ value. IntegerValue word value)
if_value word None few e some is = tt
if_value word (Some value) few e some is = integer_value word value (omega (arith, few, e)) some (sym is)
