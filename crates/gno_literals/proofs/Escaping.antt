-- The escape that a text begins with, and what it stands for.
use Rattle.std.proofs.Common.{◌≡◌, ◌∙◌, inl, inr, ℕ, List, [], ◌∷◌, ◌++◌, ap, refl, sym, subst, take, drop, get_or, Bool, true, false, cond, Some, None}
use Rattle.std.specs.Prelude.{◌==◌, ◌||◌}
use Rattle.std.specs.Char.{IsScalar}
use Rattle.std.specs.Str.Parse.{digits_value}
use Rattle.gno_scan.specs.EscapeForms.{BeginsHex, BeginsOctal, BeginsScalar}
use Rattle.gno_scan.specs.Escapes.{AreDigitsIn, AreParts, IsEscape, is_escape_letter}
use Rattle.gno_scan.specs.Escapes.{IsEscape as is}
use Rattle.gno_scan.specs.Escapes.{AreParts as are}
use Rattle.gno_scan.proofs.Escaping.{HasTwo, behind}
use Rattle.gno_scan.proofs.Fronts.{same_head}
use Rattle.gno_literals.specs.declared.escape.Escaped.{Escaped}
use Rattle.gno_literals.specs.declared.escape.Escaped.TheVariants.{Byte, Character}
use Rattle.gno_literals.specs.declared.escape.Part.{Part}
use Rattle.gno_literals.specs.EscapeValues.{EscapeValue, ShortValue, escaped_bytes, letter_value, letter, quote_itself, octal, hex, little, big}
use Rattle.gno_literals.specs.Parts.{PartsValue}
use Rattle.gno_literals.specs.Parts.{PartsValue as parts}

-- a part as it is built
pub part_as : (quote : ℕ) (text : List ℕ) (part other : Part) → part ≡ other → EscapeValue quote (take other.length text) other.value → EscapeValue quote (take part.length text) part.value
part_as quote text part other same is = subst (λ (p : Part). EscapeValue quote (take p.length text) p.value) (sym same) is

pub short_found : (quote value : ℕ) (text : List ℕ) → HasTwo text → ShortValue quote (get_or (behind text) 0 0) value → EscapeValue quote (take 2 text) (Byte value)
short_found quote value text two short =
    let b = two.second in
    let here : ShortValue quote b value = subst (λ (t : List ℕ). ShortValue quote (get_or t 0 0) value) two.behind_it short in
    rw two.parts (elim here [
      | inl same ↦ rw (same.0, same.1) quote_itself
      | inr is_letter ↦ letter b value is_letter
    ])

pub octal_found : (quote value : ℕ) (text : List ℕ) → HasTwo text → BeginsOctal (behind text) → value ≡ digits_value 8 (take 3 (behind text)) → EscapeValue quote (take 4 text) (Byte value)
octal_found quote value text two begins is =
    let here : BeginsOctal (two.second ∷ two.rest) = subst BeginsOctal two.behind_it begins in
    let same : value ≡ digits_value 8 (take 3 (two.second ∷ two.rest)) = is ∙ ap (λ t. digits_value 8 (take 3 t)) two.behind_it in
    rw (two.parts, same) (octal (take 3 (two.second ∷ two.rest)) here.0 here.1)

hex_is : (mark count : ℕ) (text : List ℕ) (two : HasTwo text) → BeginsHex mark count (behind text) → (two.second ≡ mark) × AreDigitsIn 16 count (take count two.rest)
hex_is mark count text two begins =
    let here : BeginsHex mark count (two.second ∷ two.rest) = subst (λ (t : List ℕ). BeginsHex mark count t) two.behind_it begins in
    (same_head two.second mark two.rest two.rest here.0, here.1)

number_is : (count value : ℕ) (text : List ℕ) (two : HasTwo text) → value ≡ digits_value 16 (take count (drop 1 (behind text))) → value ≡ digits_value 16 (take count two.rest)
number_is count value text two is = is ∙ ap (λ t. digits_value 16 (take count (drop 1 t))) two.behind_it

scalar_is : (mark count : ℕ) (text : List ℕ) (two : HasTwo text) → BeginsScalar mark count (behind text) → IsScalar (digits_value 16 (take count two.rest))
scalar_is mark count text two begins = subst (λ (t : List ℕ). IsScalar (digits_value 16 (take count (drop 1 t)))) two.behind_it begins.1

pub hex_found : (quote value : ℕ) (text : List ℕ) → HasTwo text → BeginsHex 120 2 (behind text) → value ≡ digits_value 16 (take 2 (drop 1 (behind text))) → EscapeValue quote (take 4 text) (Byte value)
hex_found quote value text two begins is =
    let here = hex_is 120 2 text two begins in
    rw (two.parts, here.0, number_is 2 value text two is) (hex (take 2 two.rest) here.1)

pub little_found : (quote value : ℕ) (text : List ℕ) → HasTwo text → BeginsScalar 117 4 (behind text) → value ≡ digits_value 16 (take 4 (drop 1 (behind text))) → EscapeValue quote (take 6 text) (Character value)
little_found quote value text two begins is =
    let here = hex_is 117 4 text two begins.0 in
    rw (two.parts, here.0, number_is 4 value text two is) (little (take 4 two.rest) here.1 (scalar_is 117 4 text two begins))

pub big_found : (quote value : ℕ) (text : List ℕ) → HasTwo text → BeginsScalar 85 8 (behind text) → value ≡ digits_value 16 (take 8 (drop 1 (behind text))) → EscapeValue quote (take 10 text) (Character value)
big_found quote value text two begins is =
    let here = hex_is 85 8 text two begins.0 in
    rw (two.parts, here.0, number_is 8 value text two is) (big (take 8 two.rest) here.1 (scalar_is 85 8 text two begins))

-- the letters that have a value are those of escapes
one_letter : (a b f n r t v s : Bool) (value : ℕ)
    → cond a (Some 7) (cond b (Some 8) (cond f (Some 12) (cond n (Some 10) (cond r (Some 13) (cond t (Some 9) (cond v (Some 11) (cond s (Some 92) None))))))) ≡ Some value
    → (a || (b || (f || (n || (r || (t || (v || (s || false)))))))) ≡ true
one_letter true b f n r t v s value e = refl
one_letter false true f n r t v s value e = refl
one_letter false false true n r t v s value e = refl
one_letter false false false true r t v s value e = refl
one_letter false false false false true t v s value e = refl
one_letter false false false false false true v s value e = refl
one_letter false false false false false false true s value e = refl
one_letter false false false false false false false true value e = refl
one_letter false false false false false false false false value e = absurd (cc)

some_value : (a b f n r t v s : Bool) → (a || (b || (f || (n || (r || (t || (v || (s || false)))))))) ≡ true
    → (value : ℕ) × (cond a (Some 7) (cond b (Some 8) (cond f (Some 12) (cond n (Some 10) (cond r (Some 13) (cond t (Some 9) (cond v (Some 11) (cond s (Some 92) None))))))) ≡ Some value)
some_value true b f n r t v s e = (7, refl)
some_value false true f n r t v s e = (8, refl)
some_value false false true n r t v s e = (12, refl)
some_value false false false true r t v s e = (10, refl)
some_value false false false false true t v s e = (13, refl)
some_value false false false false false true v s e = (9, refl)
some_value false false false false false false true s e = (11, refl)
some_value false false false false false false false true e = (92, refl)
some_value false false false false false false false false e = absurd (cc)

pub is_letter : (b value : ℕ) → letter_value b ≡ Some value → is_escape_letter b ≡ true
is_letter b value e = one_letter (b == 97) (b == 98) (b == 102) (b == 110) (b == 114) (b == 116) (b == 118) (b == 92) value e

has_value : (b : ℕ) → is_escape_letter b ≡ true → (value : ℕ) × (letter_value b ≡ Some value)
has_value b e = some_value (b == 97) (b == 98) (b == 102) (b == 110) (b == 114) (b == 116) (b == 118) (b == 92) e

-- what has a value is an escape
pub is_escape : (quote : ℕ) (word : List ℕ) (value : Escaped) → EscapeValue quote word value → IsEscape quote word
is_escape quote _ _ (letter b value e) = is.letter b (is_letter b value e)
is_escape quote _ _ quote_itself = is.quote_itself
is_escape quote _ _ (octal digits are small) = is.octal digits are small
is_escape quote _ _ (hex digits are) = is.hex digits are
is_escape quote _ _ (little digits are scalar) = is.little digits are scalar
is_escape quote _ _ (big digits are scalar) = is.big digits are scalar

pub escape_has_value : (quote : ℕ) (word : List ℕ) → IsEscape quote word → (value : Escaped) × EscapeValue quote word value
escape_has_value quote _ (is.letter b e) = let v = has_value b e in (Byte v.0, letter b v.0 v.1)
escape_has_value quote _ is.quote_itself = (Byte quote, quote_itself)
escape_has_value quote _ (is.octal digits are small) = (Byte (digits_value 8 digits), octal digits are small)
escape_has_value quote _ (is.hex digits are) = (Byte (digits_value 16 digits), hex digits are)
escape_has_value quote _ (is.little digits are scalar) = (Character (digits_value 16 digits), little digits are scalar)
escape_has_value quote _ (is.big digits are scalar) = (Character (digits_value 16 digits), big digits are scalar)

pub are_parts : (quote : ℕ) (word bytes : List ℕ) → PartsValue quote word bytes → AreParts quote word
are_parts quote _ _ parts.nothing = are.nothing
are_parts quote _ _ (parts.plain b rest bytes other more) = are.plain b rest other (are_parts quote rest bytes more)
are_parts quote _ _ (parts.escape word rest bytes value e more) = are.escape word rest (is_escape quote word value e) (are_parts quote rest bytes more)

pub parts_have_value : (quote : ℕ) (word : List ℕ) → AreParts quote word → (bytes : List ℕ) × PartsValue quote word bytes
parts_have_value quote _ are.nothing = ([], parts.nothing)
parts_have_value quote _ (are.plain b rest other more) = let v = parts_have_value quote rest more in (b ∷ v.0, parts.plain b rest v.0 other v.1)
parts_have_value quote _ (are.escape word rest e more) =
    let v = parts_have_value quote rest more in
    let x = escape_has_value quote word e in
    (escaped_bytes x.0 ++ v.0, parts.escape word rest v.0 x.0 x.1 v.1)
