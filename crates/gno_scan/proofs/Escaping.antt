-- The escape that a text begins with.
use Rattle.std.proofs.Common.{◌≡◌, ◌∙◌, ◌≤◌, ◌<◌, ◌-◌, inl, inr, ℕ, List, [], ◌∷◌, ◌++◌, ap, refl, sym, subst, arith, length, take, drop, get_or}
use Rattle.std.specs.Char.{IsScalar}
use Rattle.std.specs.Str.Parse.{digits_value}
use Rattle.gno_scan.specs.EscapeForms.{BeginsHex, BeginsOctal, BeginsScalar, IsShort}
use Rattle.gno_scan.specs.Escapes.{AreDigitsIn, IsEscape, letter, quote_itself, octal, hex, little, big}
use Rattle.gno_scan.specs.Longest.{BeginsWithNone}
use Rattle.gno_scan.proofs.Fronts.{behind_at, same_head, same_tail, take_front}

-- what stands behind the first byte of a text
abbrev pub behind : List ℕ → List ℕ
behind text = take (length text - 1) (drop 1 text)

-- a text of two bytes or more, of which the first is a backslash
pub record HasTwo (text : List ℕ) : Type 0 where
  pub second : ℕ
  pub rest : List ℕ
  pub parts : text ≡ 92 ∷ second ∷ rest
  pub behind_it : behind text ≡ second ∷ rest

pub has_two : (text : List ℕ) → 2 ≤ length text → get_or text 0 0 ≡ 92 → HasTwo text
has_two [] size first = absurd (omega (arith, size))
has_two (a ∷ []) size first = absurd (omega (arith, size))
has_two (a ∷ b ∷ rest) size first = record { second = b; rest = rest; parts = ap (λ x. x ∷ b ∷ rest) first; behind_it = behind_at 1 (a ∷ b ∷ rest) }

pub short_found : (quote : ℕ) (text : List ℕ) → HasTwo text → IsShort quote (get_or (behind text) 0 0) → IsEscape quote (take 2 text)
short_found quote text two short =
    let b = two.second in
    let here : IsShort quote b = subst (λ (t : List ℕ). IsShort quote (get_or t 0 0)) two.behind_it short in
    rw two.parts (elim here [
      | inl same ↦ subst (λ (x : ℕ). IsEscape quote (92 ∷ x ∷ [])) (sym same) quote_itself
      | inr is_letter ↦ letter b is_letter
    ])

pub octal_found : (quote : ℕ) (text : List ℕ) → HasTwo text → BeginsOctal (behind text) → IsEscape quote (take 4 text)
octal_found quote text two begins =
    let here : BeginsOctal (two.second ∷ two.rest) = subst BeginsOctal two.behind_it begins in
    rw two.parts (octal (take 3 (two.second ∷ two.rest)) here.0 here.1)

hex_is : (mark count : ℕ) (text : List ℕ) (two : HasTwo text) → BeginsHex mark count (behind text) → (two.second ≡ mark) × AreDigitsIn 16 count (take count two.rest)
hex_is mark count text two begins =
    let here : BeginsHex mark count (two.second ∷ two.rest) = subst (λ (t : List ℕ). BeginsHex mark count t) two.behind_it begins in
    (same_head two.second mark two.rest two.rest here.0, here.1)

pub hex_found : (quote : ℕ) (text : List ℕ) → HasTwo text → BeginsHex 120 2 (behind text) → IsEscape quote (take 4 text)
hex_found quote text two begins =
    let here = hex_is 120 2 text two begins in
    rw (two.parts, here.0) (hex (take 2 two.rest) here.1)

scalar_is : (mark count : ℕ) (text : List ℕ) (two : HasTwo text) → BeginsScalar mark count (behind text) → IsScalar (digits_value 16 (take count two.rest))
scalar_is mark count text two begins = subst (λ (t : List ℕ). IsScalar (digits_value 16 (take count (drop 1 t)))) two.behind_it begins.1

pub little_found : (quote : ℕ) (text : List ℕ) → HasTwo text → BeginsScalar 117 4 (behind text) → IsEscape quote (take 6 text)
little_found quote text two begins =
    let here = hex_is 117 4 text two begins.0 in
    rw (two.parts, here.0) (little (take 4 two.rest) here.1 (scalar_is 117 4 text two begins))

pub big_found : (quote : ℕ) (text : List ℕ) → HasTwo text → BeginsScalar 85 8 (behind text) → IsEscape quote (take 10 text)
big_found quote text two begins =
    let here = hex_is 85 8 text two begins.0 in
    rw (two.parts, here.0) (big (take 8 two.rest) here.1 (scalar_is 85 8 text two begins))

front_is : (n : ℕ) (text front rest : List ℕ) → text ≡ front ++ rest → length front ≡ n → take n text ≡ front
front_is n text front rest parts size = rw (sym size, parts) (take_front front rest)

-- what stands behind the backslash of an escape that the text begins with
follows : (text word more : List ℕ) (two : HasTwo text) → text ≡ 92 ∷ word ++ more → behind text ≡ word ++ more
follows text word more two begins = two.behind_it ∙ same_tail 92 92 (two.second ∷ two.rest) (word ++ more) (sym two.parts ∙ begins)

begins_hex : (mark count : ℕ) (text digits more : List ℕ) → text ≡ mark ∷ digits ++ more → AreDigitsIn 16 count digits → BeginsHex mark count text
begins_hex mark count text digits more parts are =
    let tail : drop 1 text ≡ digits ++ more = ap (drop 1) parts in
    (parts ∙ ap (λ t. mark ∷ t) (sym tail), subst (λ (d : List ℕ). AreDigitsIn 16 count d) (sym (front_is count (drop 1 text) digits more tail are.size)) are)

begins_scalar : (mark count : ℕ) (text digits more : List ℕ) → text ≡ mark ∷ digits ++ more → AreDigitsIn 16 count digits → IsScalar (digits_value 16 digits) → BeginsScalar mark count text
begins_scalar mark count text digits more parts are scalar =
    (begins_hex mark count text digits more parts are, subst (λ (d : List ℕ). IsScalar (digits_value 16 d)) (sym (front_is count (drop 1 text) digits more (ap (drop 1) parts) are.size)) scalar)

is_short : (quote b : ℕ) (text more : List ℕ) → text ≡ b ∷ more → IsShort quote b → IsShort quote (get_or text 0 0)
is_short quote b text more parts short = subst (λ (x : ℕ). IsShort quote x) (sym (ap (λ t. get_or t 0 0) parts)) short

-- the bytes behind a backslash are none of the forms, so no escape begins
pub none_found : (quote : ℕ) (text : List ℕ) (two : HasTwo text) → (IsShort quote (get_or (behind text) 0 0) → ⊥) → (BeginsOctal (behind text) → ⊥) → (BeginsHex 120 2 (behind text) → ⊥) →
    (BeginsScalar 117 4 (behind text) → ⊥) → (BeginsScalar 85 8 (behind text) → ⊥) → BeginsWithNone (IsEscape quote) text
none_found quote text two no_short no_octal no_hex no_little no_big word (letter b is_letter) begins =
    no_short (is_short quote b (behind text) begins.0 (follows text (b ∷ []) begins.0 two begins.1) (inr is_letter))
none_found quote text two no_short no_octal no_hex no_little no_big word quote_itself begins =
    no_short (is_short quote quote (behind text) begins.0 (follows text (quote ∷ []) begins.0 two begins.1) (inl refl))
none_found quote text two no_short no_octal no_hex no_little no_big word (octal digits are small) begins =
    let front = front_is 3 (behind text) digits begins.0 (follows text digits begins.0 two begins.1) are.size in
    no_octal (subst (λ (d : List ℕ). AreDigitsIn 8 3 d × (digits_value 8 d < 256)) (sym front) (are, small))
none_found quote text two no_short no_octal no_hex no_little no_big word (hex digits are) begins =
    no_hex (begins_hex 120 2 (behind text) digits begins.0 (follows text (120 ∷ digits) begins.0 two begins.1) are)
none_found quote text two no_short no_octal no_hex no_little no_big word (little digits are scalar) begins =
    no_little (begins_scalar 117 4 (behind text) digits begins.0 (follows text (117 ∷ digits) begins.0 two begins.1) are scalar)
none_found quote text two no_short no_octal no_hex no_little no_big word (big digits are scalar) begins =
    no_big (begins_scalar 85 8 (behind text) digits begins.0 (follows text (85 ∷ digits) begins.0 two begins.1) are scalar)
