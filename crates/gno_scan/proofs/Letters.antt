-- Letters and digits of ASCII, by a computation over the table of categories.
use Rattle.std.proofs.Common.{◌≡◌, ◌≢◌, ℕ, zero, suc, ◌<◌, ◌≤◌, Bool, refl, arith, ap, sym, ◌∙◌, ⊎_elim}
use Rattle.std.specs.Prelude.{◌&&◌, ◌||◌, ◌==◌, true, false}
use Rattle.std.proofs.lemmas.Bool.{and_parts, cases_lt, eqb-true, ltb-false, ltb-true}
use Rattle.std.specs.Bool.{beq}
use Rattle.std.specs.Char.{is_ascii, is_ascii_alphabetic, is_ascii_digit}
use Rattle.ucd_category.specs.GeneralCategory.{general_category, general_category_eq, general_category_from_number, general_category_number}
use Rattle.ucd_category.specs.GeneralCategoryGroup.{in_group}
use Rattle.ucd_category.specs.declared.GeneralCategory.TheVariants.{DecimalNumber}
use Rattle.ucd_category.specs.declared.GeneralCategoryGroup.TheVariants.{Letter}
use Rattle.ucd_category.proofs.GeneralCategoryLemmas.{general_category_from_number-general_category_number}
use Rattle.ucd_category.specs.declared.GeneralCategory.{GeneralCategory}
use Rattle.ucd_category.proofs.Computing.{ucd_category}
use Rattle.gno_scan.specs.Names.{is_digit, is_letter}

-- the test passes at each number below n
abbrev pub passes_below : (ℕ → Bool) → ℕ → Bool
passes_below p zero = true
passes_below p (suc n) = p n && passes_below p n

pub below : (p : ℕ → Bool) (n c : ℕ) → passes_below p n ≡ true → c < n → p c ≡ true
below p zero c e h = absurd (omega (arith, h))
below p (suc n) c e h =
    let parts = and_parts (p n) (passes_below p n) e in
    ⊎_elim (λ least. below p n c parts.1 least) (λ most. let last : c ≡ n = omega (arith, h, most) in ap p last ∙ parts.0) (cases_lt c n)

same : (x y : Bool) → beq x y ≡ true → x ≡ y
same true true e = refl
same true false e = sym e
same false true e = e
same false false e = refl

pub is_letter-ascii : (c : ℕ) → c < 128 → is_letter c ≡ (is_ascii_alphabetic c || (c == 95))
unfolding ucd_category general_category is_letter
is_letter-ascii c h = same _ _ (below (λ x. beq (is_letter x) (is_ascii_alphabetic x || (x == 95))) 128 c refl h)

pub is_digit-ascii : (c : ℕ) → c < 128 → is_digit c ≡ is_ascii_digit c
unfolding ucd_category general_category is_digit
is_digit-ascii c h = same _ _ (below (λ x. beq (is_digit x) (is_ascii_digit x)) 128 c refl h)

pub is_letter-wide : (c : ℕ) → 128 ≤ c → is_letter c ≡ in_group Letter (general_category c)
unfolding is_letter
is_letter-wide c h = at_bar (c == 95) refl
  where
    at_bar : (t : Bool) → (c == 95) ≡ t → (t || in_group Letter (general_category c)) ≡ in_group Letter (general_category c)
    at_bar true e = absurd (omega (arith, eqb-true c 95 e, h))
    at_bar false e = refl

pub is_letter-alphabetic : (c : ℕ) (alphabetic : Bool) → c < 128 → alphabetic ≡ is_ascii_alphabetic c → alphabetic ≡ true → alphabetic ≡ is_letter c
is_letter-alphabetic c alphabetic h e is = is ∙ sym (is_letter-ascii c h ∙ ap (λ t. t || (c == 95)) (sym e ∙ is))

pub is_letter-other : (c : ℕ) (alphabetic : Bool) → c < 128 → alphabetic ≡ is_ascii_alphabetic c → alphabetic ≡ false → (c == 95) ≡ is_letter c
is_letter-other c alphabetic h e is = sym (is_letter-ascii c h ∙ ap (λ t. t || (c == 95)) (sym e ∙ is))

pub from_ascii : (c : ℕ) (ascii : Bool) → ascii ≡ is_ascii c → ascii ≡ true → c < 128
from_ascii c ascii e is = let test = sym e ∙ is in ltb-true c 128 test

pub from_wide : (c : ℕ) (ascii : Bool) → ascii ≡ is_ascii c → ascii ≡ false → 128 ≤ c
from_wide c ascii e is = let test = sym e ∙ is in ltb-false c 128 test

-- whether a character that has the category is a digit
pub is_digit-decimal : (c : ℕ) (category : GeneralCategory) → category ≡ general_category c → category ≡ DecimalNumber → is_digit c ≡ true
unfolding is_digit
is_digit-decimal c category of_c e = ap (λ v. general_category_eq v DecimalNumber) (sym of_c ∙ e)

pub is_digit-other : (c : ℕ) (category : GeneralCategory) → category ≡ general_category c → category ≢ DecimalNumber → is_digit c ≡ false
unfolding is_digit
is_digit-other c category of_c h = ap (λ v. general_category_eq v DecimalNumber) (sym of_c) ∙ by_number (general_category_number category == 8) refl
  where
    by_number : (t : Bool) → (general_category_number category == 8) ≡ t → t ≡ false
    by_number true e = absurd (h (sym (general_category_from_number-general_category_number category) ∙ ap general_category_from_number (eqb-true (general_category_number category) 8 e)))
    by_number false e = refl
