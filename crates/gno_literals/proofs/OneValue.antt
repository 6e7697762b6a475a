-- An escape has one value, and so have parts one behind the other.
use Rattle.std.proofs.Common.{◌≡◌, ◌≢◌, ◌∙◌, ◌<◌, ℕ, List, [], ◌∷◌, ◌++◌, ap, refl, sym, subst, arith, true, false, Option, Some, None, lt-ltb}
use Rattle.std.specs.Prelude.{◌==◌, if◌then◌else◌, nat_lt}
use Rattle.std.specs.Char.{digit_value}
use Rattle.std.specs.Str.Parse.{digits_value}
use Rattle.std.proofs.lemmas.Bool.{eqb-true}
use Rattle.std.proofs.lemmas.Bool.Decides.{nat_tests}
use Rattle.gno_scan.specs.Escapes.{AreDigitsIn}
use Rattle.gno_scan.proofs.Fronts.{same_head, same_tail}
use Rattle.gno_scan.proofs.OneEscape.{first_is_backslash, one_escape, size_of, sized}
use Rattle.gno_literals.specs.declared.escape.Escaped.{Escaped}
use Rattle.gno_literals.specs.declared.escape.Escaped.TheVariants.{Byte, Character}
use Rattle.gno_literals.specs.EscapeValues.{EscapeValue, escaped_bytes, letter_value, letter, quote_itself, octal, hex, little, big}
use Rattle.gno_literals.specs.Parts.{PartsValue}
use Rattle.gno_literals.specs.Parts.{PartsValue as parts}
use Rattle.gno_literals.proofs.Escaping.{is_escape}

-- a byte that may stand as the quote: no letter, no digit, no backslash, no line feed
pub record IsQuote (quote : ℕ) : Type 0 where
  pub no_letter : letter_value quote ≡ None
  pub no_digit : nat_lt (digit_value quote) 16 ≡ false
  pub no_x : (120 == quote) ≡ false
  pub no_u : (117 == quote) ≡ false
  pub no_U : (85 == quote) ≡ false
  pub no_backslash : (quote == 92) ≡ false
  pub no_line_feed : (quote == 10) ≡ false
  pub two : size_of quote ≡ 2

pub single : IsQuote 39
single = record { no_letter = refl; no_digit = refl; no_x = refl; no_u = refl; no_U = refl; no_backslash = refl; no_line_feed = refl; two = refl }

pub double : IsQuote 34
double = record { no_letter = refl; no_digit = refl; no_x = refl; no_u = refl; no_U = refl; no_backslash = refl; no_line_feed = refl; two = refl }

-- what an escape stands for, by the byte behind its backslash
abbrev number_of : ℕ → List ℕ → Escaped
number_of b rest = if nat_lt (digit_value b) 8 then Byte (digits_value 8 (b ∷ rest)) else if b == 120 then Byte (digits_value 16 rest) else Character (digits_value 16 rest)

abbrev by_letter : Option ℕ → Escaped → Escaped
by_letter (Some value) other = Byte value
by_letter None other = other

abbrev value_of : ℕ → List ℕ → Escaped
value_of quote [] = Byte 0
value_of quote (a ∷ []) = Byte 0
value_of quote (a ∷ b ∷ rest) = if b == quote then Byte quote else by_letter (letter_value b) (number_of b rest)

not_quote : (quote b value : ℕ) → letter_value quote ≡ None → letter_value b ≡ Some value → (b == quote) ≡ false
not_quote quote b value none some = elim (b == quote) as (λ t. (b == quote) ≡ t → t ≡ false) [
  | true ↦ λ e. absurd (let f : Some value ≡ None = sym some ∙ ap letter_value (eqb-true b quote e) ∙ none in cc)
  | false ↦ λ e. refl
] refl

digit_not_quote : (quote b : ℕ) → nat_lt (digit_value quote) 16 ≡ false → digit_value b < 16 → (b == quote) ≡ false
digit_not_quote quote b none small = elim (b == quote) as (λ t. (b == quote) ≡ t → t ≡ false) [
  | true ↦ λ e. absurd (let f : false ≡ true = sym none ∙ ap (λ x. nat_lt (digit_value x) 16) (sym (eqb-true b quote e)) ∙ lt-ltb (digit_value b) 16 small in cc)
  | false ↦ λ e. refl
] refl

octal_no_letter : (b : ℕ) → digit_value b < 8 → letter_value b ≡ None
octal_no_letter b small = grind (arith, nat_tests, small)

octal_value : (quote : ℕ) (digits : List ℕ) → IsQuote quote → AreDigitsIn 8 3 digits → Byte (digits_value 8 digits) ≡ value_of quote (92 ∷ digits)
octal_value quote [] q are = absurd (omega (arith, are.size))
octal_value quote (b ∷ rest) q are =
    let small : digit_value b < 8 = are.each.0 in
    rw (digit_not_quote quote b q.no_digit (omega (arith, small)), octal_no_letter b small, lt-ltb (digit_value b) 8 small) refl

-- an escape has the value that its second byte tells
value_is : (quote : ℕ) (word : List ℕ) (value : Escaped) → IsQuote quote → EscapeValue quote word value → value ≡ value_of quote word
value_is quote _ _ q (letter b value e) = rw (not_quote quote b value q.no_letter e, e) refl
value_is quote _ _ q quote_itself = let same : (quote == quote) ≡ true = grind (arith, nat_tests) in rw same refl
value_is quote _ _ q (octal digits are small) = octal_value quote digits q are
value_is quote _ _ q (hex digits are) = rw q.no_x refl
value_is quote _ _ q (little digits are scalar) = rw q.no_u refl
value_is quote _ _ q (big digits are scalar) = rw q.no_U refl

pub one_value : (quote : ℕ) (word word' : List ℕ) (value value' : Escaped) → IsQuote quote → word ≡ word' → EscapeValue quote word value → EscapeValue quote word' value' → value ≡ value'
one_value quote word word' value value' q same e e' = value_is quote word value q e ∙ ap (value_of quote) same ∙ sym (value_is quote word' value' q e')

-- bytes behind a part, which are the value of the parts behind it
pub record Behind (quote : ℕ) (value rest bytes : List ℕ) : Type 0 where
  pub more : List ℕ
  pub bytes_are : bytes ≡ value ++ more
  pub parts_are : PartsValue quote rest more

first_of_escape : (quote : ℕ) (word : List ℕ) (value : Escaped) (rest : List ℕ) → IsQuote quote → EscapeValue quote word value → [] ≡ word ++ rest → ⊥
first_of_escape quote word value rest q e none =
    let s = sized quote word q.two (is_escape quote word value e) in
    let f : [] ≡ 92 ∷ s.second ∷ (s.rest ++ rest) = none ∙ ap (λ w. w ++ rest) s.parts in
    cc

pub behind_escape : (quote : ℕ) (word : List ℕ) (value : Escaped) (text rest bytes : List ℕ) → IsQuote quote → EscapeValue quote word value → PartsValue quote text bytes → text ≡ word ++ rest →
    Behind quote (escaped_bytes value) rest bytes
behind_escape quote word value _ rest _ q e parts.nothing same = absurd (first_of_escape quote word value rest q e same)
behind_escape quote word value _ rest _ q e (parts.plain b more bytes other ps) same = absurd (other (first_is_backslash quote b word more rest q.two (is_escape quote word value e) same))
behind_escape quote word value _ rest _ q e (parts.escape word' rest' bytes value' e' ps) same =
    let one = one_escape quote word' word rest' rest q.two (is_escape quote word' value' e') (is_escape quote word value e) same in
    let v : value' ≡ value = one_value quote word' word value' value q one.0 e' e in
    record { more = bytes; bytes_are = ap (λ x. escaped_bytes x ++ bytes) v; parts_are = subst (λ (t : List ℕ). PartsValue quote t bytes) one.1 ps }

pub behind_plain : (quote b : ℕ) (text rest bytes : List ℕ) → IsQuote quote → b ≢ 92 → PartsValue quote text bytes → text ≡ b ∷ rest → Behind quote (b ∷ []) rest bytes
behind_plain quote b _ rest _ q other parts.nothing same = absurd (cc)
behind_plain quote b _ rest _ q other (parts.plain b' more bytes other' ps) same =
    record { more = bytes; bytes_are = ap (λ x. x ∷ bytes) (same_head b' b more rest same); parts_are = subst (λ (t : List ℕ). PartsValue quote t bytes) (same_tail b' b more rest same) ps }
behind_plain quote b _ rest _ q other (parts.escape word' rest' bytes value' e' ps) same =
    absurd (other (first_is_backslash quote b word' rest rest' q.two (is_escape quote word' value' e') (sym same)))

nothing_behind : (quote : ℕ) (text bytes : List ℕ) → IsQuote quote → PartsValue quote text bytes → text ≡ [] → bytes ≡ []
nothing_behind quote _ _ q parts.nothing e = refl
nothing_behind quote _ _ q (parts.plain b more bytes other ps) e = absurd (cc)
nothing_behind quote _ _ q (parts.escape word rest bytes value x ps) e = absurd (first_of_escape quote word value rest q x (sym e))

-- parts have one value
pub one_parts : (quote : ℕ) (text text' bytes bytes' : List ℕ) → IsQuote quote → PartsValue quote text bytes → PartsValue quote text' bytes' → text' ≡ text → bytes ≡ bytes'
one_parts quote _ text' _ bytes' q parts.nothing ps' same = sym (nothing_behind quote text' bytes' q ps' same)
one_parts quote _ text' _ bytes' q (parts.plain b rest bytes other ps) ps' same =
    let behind = behind_plain quote b text' rest bytes' q other ps' same in
    ap (λ more. b ∷ more) (one_parts quote rest rest bytes behind.more q ps behind.parts_are refl) ∙ sym behind.bytes_are
one_parts quote _ text' _ bytes' q (parts.escape word rest bytes value e ps) ps' same =
    let behind = behind_escape quote word value text' rest bytes' q e ps' same in
    ap (λ more. escaped_bytes value ++ more) (one_parts quote rest rest bytes behind.more q ps behind.parts_are refl) ∙ sym behind.bytes_are
