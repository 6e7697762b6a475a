-- The class of a digit, of a letter and of a byte that is not ASCII.
use Rattle.std.proofs.Common.{[], ◌∷◌, drop, subst, ◌≡◌, ℕ, ◌<◌, ◌≤◌, Bool, true, false, not, ◌||◌, List, ◌++◌, refl, sym, ap, ◌∙◌, arith, length, get_or, inl, inr}
use Rattle.std.proofs.lemmas.Bool.{and_parts, leb-true, cases_lt}
use Rattle.std.proofs.lemmas.Bool.Decides.{nat_tests}
use Rattle.std.proofs.lemmas.Str.{char_from_byte}
use Rattle.std.specs.Prelude.{◌==◌, nat_le}
use Rattle.std.specs.Char.{encode_utf8}
use Rattle.ucd_category.specs.GeneralCategory.{general_category}
use Rattle.ucd_category.proofs.Computing.{ucd_category}
use Rattle.gno_scan.specs.declared.class.Class.{Class}
use Rattle.gno_scan.specs.declared.class.Class.TheVariants.{Space, LineFeed, Quote, DoubleQuote, BackQuote, Digit, Point, Solidus, Other}
use Rattle.gno_scan.specs.Classes.{class_at, class_of, is_mark}
use Rattle.gno_scan.specs.Names.{is_letter}
use Rattle.gno_scan.specs.Numbers.{is_decimal_digit}
use Rattle.gno_scan.specs.Pieces.{is_blank}
use Rattle.gno_scan.proofs.Letters.{below}

abbrev is_digit_class : Class → Bool
is_digit_class Digit = true
is_digit_class class = false

abbrev pub is_other_class : Class → Bool
is_other_class Other = true
is_other_class class = false

is_digit : (class : Class) → is_digit_class class ≡ true → class ≡ Digit
is_digit Digit e = refl
is_digit class e = cc

is_other : (class : Class) → is_other_class class ≡ true → class ≡ Other
is_other Other e = refl
is_other class e = cc

implied : (p q : Bool) → (not p || q) ≡ true → p ≡ true → q ≡ true
implied true q e h = e
implied false q e h = cc

pub digit_class : (b : ℕ) → is_decimal_digit b ≡ true → class_of b ≡ Digit
unfolding class_of is_mark
digit_class b h =
    let most = leb-true b 57 (and_parts (nat_le 48 b) (nat_le b 57) h).1 in
    is_digit (class_of b) (implied (is_decimal_digit b) (is_digit_class (class_of b)) (below (λ x. not (is_decimal_digit x) || is_digit_class (class_of x)) 58 b refl (omega (arith, most))) h)

letter_class : (c : ℕ) → c < 128 → is_letter c ≡ true → class_of c ≡ Other
unfolding ucd_category general_category is_letter class_of is_mark
letter_class c small h = is_other (class_of c) (implied (is_letter c) (is_other_class (class_of c)) (below (λ x. not (is_letter x) || is_other_class (class_of x)) 128 c refl small) h)

wide_class : (b : ℕ) → 128 ≤ b → class_of b ≡ Other
unfolding class_of is_mark
wide_class b h = grind (arith, nat_tests)

-- a text that begins with a letter
pub letter_first : (c : ℕ) (text rest : List ℕ) → is_letter c ≡ true → 0 < length text → text ≡ encode_utf8 c ++ rest → class_of (get_or text 0 0) ≡ Other
letter_first c text rest letter some e = elim (cases_lt (get_or text 0 0) 128) [
  | inl small ↦
      let same : c ≡ get_or text 0 0 = char_from_byte text rest c e small some in
      letter_class (get_or text 0 0) small (ap is_letter (sym same) ∙ letter)
  | inr wide ↦ wide_class (get_or text 0 0) wide
]

-- what the class tells of the byte
abbrev pub agrees : Class → ℕ → Bool
agrees Space b = is_blank b
agrees LineFeed b = b == 10
agrees Quote b = b == 39
agrees DoubleQuote b = b == 34
agrees BackQuote b = b == 96
agrees Digit b = is_decimal_digit b
agrees Point b = b == 46
agrees Solidus b = b == 47
agrees class b = true

tells : (b : ℕ) → agrees (class_of b) b ≡ true
unfolding class_of is_mark
tells b = elim (cases_lt b 128) [
  | inl small ↦ below (λ x. agrees (class_of x) x) 128 b refl small
  | inr wide ↦ ap (λ (class : Class). agrees class b) (wide_class b wide)
]

-- a text has a first byte of its class, unless the class tells nothing
pub led_by : (text : List ℕ) (class : Class) → is_other_class class ≡ false → class_at text ≡ class → (b : ℕ) × (text ≡ b ∷ drop 1 text) × (agrees class b ≡ true)
led_by [] class other at = absurd (let h : true ≡ false = ap is_other_class at ∙ other in cc)
led_by (b ∷ rest) class other at = (b, refl, subst (λ (class : Class). agrees class b ≡ true) at (tells b))
