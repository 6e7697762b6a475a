-- What may stand on one line between quotes, part by part.
use Rattle.std.proofs.Common.{◌≡◌, ◌≢◌, ◌∙◌, ◌≤◌, ◌<◌, ◌+◌, inl, inr, ℕ, List, [], ◌∷◌, ◌++◌, append_assoc, ap, refl, sym, subst, arith, length, take, drop, get_or, true, false, Some, None, lt-ltb, length-drop}
use Rattle.std.specs.Prelude.{◌==◌, ◌||◌, ◌⊎◌, nat_lt, Option, IfSome}
use Rattle.std.specs.Char.{digit_value}
use Rattle.std.specs.Str.Parse.{AllDigits}
use Rattle.std.proofs.lemmas.Bool.{eq-eqb, eqb-true}
use Rattle.std.proofs.lemmas.List.{append-nil, drop_all, drop-drop, take-append-drop}
use Rattle.gno_scan.specs.Escapes.{AreDigitsIn, IsEscape}
use Rattle.gno_scan.specs.Longest.{BeginsWithNone}
use Rattle.gno_scan.specs.Quoted.{IsInside, nothing, plain, escaped}
use Rattle.gno_scan.proofs.Fronts.{same_head, same_tail}
use Rattle.gno_literals.specs.declared.escape.Escaped.{Escaped}
use Rattle.gno_literals.specs.declared.escape.Escaped.TheVariants.{Byte}
use Rattle.gno_literals.specs.declared.escape.Part.{Part}
use Rattle.gno_literals.specs.EscapeValues.{EscapeValue, escaped_bytes, letter_value, letter, quote_itself, octal, hex, little, big}
use Rattle.gno_literals.specs.Parts.{IsPart, PartsValue}
use Rattle.gno_literals.specs.Parts.{IsPart as part}
use Rattle.gno_literals.specs.Parts.{PartsValue as parts}
use Rattle.gno_literals.proofs.Escaping.{is_escape}
use Rattle.gno_literals.proofs.OneValue.{Behind, IsQuote, behind_escape, behind_plain}

pub differ : (a b : ℕ) → (a == b) ≡ false → a ≢ b
differ a b off e = let f : false ≡ true = sym off ∙ eq-eqb a b e in cc

-- a byte that is neither a backslash nor behind one
pub plain_inside : (quote b : ℕ) (text rest : List ℕ) → b ≢ 92 → IsInside quote text → text ≡ b ∷ rest → (b ≢ quote) × (b ≢ 10) × IsInside quote rest
plain_inside quote b _ rest other nothing e = absurd (cc)
plain_inside quote b _ rest other (plain c more nq nb nl inside) e =
    let same : c ≡ b = same_head c b more rest e in
    (λ f. nq (same ∙ f), λ f. nl (same ∙ f), subst (λ (t : List ℕ). IsInside quote t) (same_tail c b more rest e) inside)
plain_inside quote b _ rest other (escaped c more nl inside) e = absurd (other (sym (same_head 92 b (c ∷ more) rest e)))

escaped_inside : (quote b : ℕ) (text rest : List ℕ) → IsInside quote text → text ≡ 92 ∷ b ∷ rest → IsInside quote rest
escaped_inside quote b _ rest nothing e = absurd (cc)
escaped_inside quote b _ rest (plain c more nq nb nl inside) e = absurd (nb (same_head c 92 more (b ∷ rest) e))
escaped_inside quote b _ rest (escaped c more nl inside) e = subst (λ (t : List ℕ). IsInside quote t) (same_tail c b more rest (same_tail 92 92 (c ∷ more) (b ∷ rest) e)) inside

inside_append : (quote : ℕ) (front rest : List ℕ) → IsInside quote front → IsInside quote rest → IsInside quote (front ++ rest)
inside_append quote _ rest nothing more = more
inside_append quote _ rest (plain b front nq nb nl inside) more = plain b (front ++ rest) nq nb nl (inside_append quote front rest inside more)
inside_append quote _ rest (escaped b front nl inside) more = escaped b (front ++ rest) nl (inside_append quote front rest inside more)

inside_behind : (quote : ℕ) (front rest : List ℕ) → IsInside quote front → IsInside quote (front ++ rest) → IsInside quote rest
inside_behind quote _ rest nothing all = all
inside_behind quote _ rest (plain b front nq nb nl inside) all = inside_behind quote front rest inside (plain_inside quote b (b ∷ front ++ rest) (front ++ rest) nb all refl).2
inside_behind quote _ rest (escaped b front nl inside) all = inside_behind quote front rest inside (escaped_inside quote b (92 ∷ b ∷ front ++ rest) (front ++ rest) all refl)

-- digits are no quotes
no_digit : (base b c : ℕ) → base ≤ 16 → nat_lt (digit_value c) 16 ≡ false → digit_value b < base → b ≢ c
no_digit base b c few none small e =
    let value : digit_value c < 16 = subst (λ (x : ℕ). digit_value x < 16) e (omega (arith, small, few)) in
    let f : false ≡ true = sym none ∙ lt-ltb (digit_value c) 16 value in
    cc

digits_inside : (quote base : ℕ) (digits : List ℕ) → IsQuote quote → base ≤ 16 → AllDigits base digits → IsInside quote digits
digits_inside quote base [] q few all = nothing
digits_inside quote base (b ∷ rest) q few all =
    plain b rest (no_digit base b quote few q.no_digit all.0) (no_digit base b 92 few refl all.0) (no_digit base b 10 few refl all.0) (digits_inside quote base rest q few all.1)

letter_no_line_feed : (b value : ℕ) → letter_value b ≡ Some value → b ≢ 10
letter_no_line_feed b value some e = let f : Some value ≡ None = sym some ∙ ap letter_value e in cc

octal_inside : (quote : ℕ) (digits : List ℕ) → IsQuote quote → AreDigitsIn 8 3 digits → IsInside quote (92 ∷ digits)
octal_inside quote [] q are = absurd (omega (arith, are.size))
octal_inside quote (b ∷ rest) q are = escaped b rest (no_digit 8 b 10 (omega arith) refl are.each.0) (digits_inside quote 8 rest q (omega arith) are.each.1)

hex_inside : (quote b count : ℕ) (digits : List ℕ) → IsQuote quote → b ≢ 10 → AreDigitsIn 16 count digits → IsInside quote (92 ∷ b ∷ digits)
hex_inside quote b count digits q other are = escaped b digits other (digits_inside quote 16 digits q (omega arith) are.each)

pub escape_inside : (quote : ℕ) (word : List ℕ) (value : Escaped) → IsQuote quote → EscapeValue quote word value → IsInside quote word
escape_inside quote _ _ q (letter b value e) = escaped b [] (letter_no_line_feed b value e) nothing
escape_inside quote _ _ q quote_itself = escaped quote [] (differ quote 10 q.no_line_feed) nothing
escape_inside quote _ _ q (octal digits are small) = octal_inside quote digits q are
escape_inside quote _ _ q (hex digits are) = hex_inside quote 120 2 digits q (differ 120 10 refl) are
escape_inside quote _ _ q (little digits are scalar) = hex_inside quote 117 4 digits q (differ 117 10 refl) are
escape_inside quote _ _ q (big digits are scalar) = hex_inside quote 85 8 digits q (differ 85 10 refl) are

-- the part that a text begins with
pub if_escape : (quote : ℕ) (text : List ℕ) (found : Option Part) → IfSome found (λ it. EscapeValue quote (take it.length text) it.value) → IfSome found (λ it. IsPart quote (take it.length text) it.value)
if_escape quote text None is = is
if_escape quote text (Some it) is = part.escape (take it.length text) it.value is

pub plain_part : (quote : ℕ) (text : List ℕ) → 0 < length text → get_or text 0 0 ≢ quote → get_or text 0 0 ≢ 92 → get_or text 0 0 ≢ 10 → IsPart quote (take 1 text) (Byte (get_or text 0 0))
plain_part quote [] some nq nb nl = absurd (omega (arith, some))
plain_part quote (b ∷ rest) some nq nb nl = part.plain b nq nb nl

-- a text that begins with no part
pub no_escape_part : (quote : ℕ) (text : List ℕ) → IsQuote quote → 0 < length text → get_or text 0 0 ≡ 92 → BeginsWithNone (IsEscape quote) text → (bytes : List ℕ) → PartsValue quote text bytes → ⊥
no_escape_part quote _ q some first none _ parts.nothing = omega (arith, some)
no_escape_part quote _ q some first none _ (parts.plain b rest bytes other ps) = other first
no_escape_part quote _ q some first none _ (parts.escape word rest bytes value x ps) = none word (is_escape quote word value x) (rest, refl)

pub no_line_part : (quote b : ℕ) (text : List ℕ) → 0 < length text → get_or text 0 0 ≡ b → b ≢ 92 → (b ≡ quote) ⊎ (b ≡ 10) → IsInside quote text → ⊥
no_line_part quote b [] some first other bad line = omega (arith, some)
no_line_part quote b (d ∷ rest) some first other bad line =
    let it = plain_inside quote d (d ∷ rest) rest (λ e. other (sym first ∙ e)) line refl in
    elim bad [ inl quoted ↦ it.0 (first ∙ quoted) | inr line_feed ↦ it.1 (first ∙ line_feed) ]

-- the bytes that end a string or its line
pub is_end : (b : ℕ) → (b == 34 || b == 10) ≡ true → (b ≡ 34) ⊎ (b ≡ 10)
is_end b e = elim (b == 34) as (λ t. (b == 34) ≡ t → (t || b == 10) ≡ true → (b ≡ 34) ⊎ (b ≡ 10)) [
  | true ↦ λ f _. inl (eqb-true b 34 f)
  | false ↦ λ _ f. inr (eqb-true b 10 f)
] refl e

pub is_no_end : (b : ℕ) → (b == 34 || b == 10) ≡ false → (b ≢ 34) × (b ≢ 10)
is_no_end b e = elim (b == 34) as (λ t. (b == 34) ≡ t → (t || b == 10) ≡ false → (b ≢ 34) × (b ≢ 10)) [
  | true ↦ λ _ f. absurd (let g : true ≡ false = f in cc)
  | false ↦ λ f g. (differ b 34 f, differ b 10 g)
] refl e

-- bytes on one line, and what their parts stand for
pub record AreRead (quote : ℕ) (text bytes : List ℕ) : Type 0 where
  pub line : IsInside quote text
  pub parts : PartsValue quote text bytes

pub part_before : (quote : ℕ) (word : List ℕ) (value : Escaped) (rest bytes : List ℕ) → IsQuote quote → IsPart quote word value → AreRead quote rest bytes → AreRead quote (word ++ rest) (escaped_bytes value ++ bytes)
part_before quote _ _ rest bytes q (part.plain b nq nb nl) are = record { line = plain b rest nq nb nl are.line; parts = parts.plain b rest bytes nb are.parts }
part_before quote word value rest bytes q (part.escape w v e) are = record {
  line = inside_append quote word rest (escape_inside quote word value q e) are.line;
  parts = parts.escape word rest bytes value e are.parts;
}

-- bytes on one line that have a value, whatever it is
pub record Readable (quote : ℕ) (text : List ℕ) : Type 0 where
  pub bytes : List ℕ
  pub are : AreRead quote text bytes

readable : (quote : ℕ) (value rest bytes : List ℕ) → IsInside quote rest → Behind quote value rest bytes → Readable quote rest
readable quote value rest bytes line behind = record { bytes = behind.more; are = record { line = line; parts = behind.parts_are } }

pub part_off : (quote : ℕ) (word : List ℕ) (value : Escaped) (rest : List ℕ) → IsQuote quote → IsPart quote word value → Readable quote (word ++ rest) → Readable quote rest
part_off quote _ _ rest q (part.plain b nq nb nl) all =
    readable quote (b ∷ []) rest all.bytes (plain_inside quote b (b ∷ rest) rest nb all.are.line refl).2 (behind_plain quote b (b ∷ rest) rest all.bytes q nb all.are.parts refl)
part_off quote word value rest q (part.escape w v e) all =
    readable quote (escaped_bytes value) rest all.bytes (inside_behind quote word rest (escape_inside quote word value q e) all.are.line) (behind_escape quote word value (word ++ rest) rest all.bytes q e all.are.parts refl)

-- how far the parts of an interpreted string are read, and their bytes
pub record HasRead (quote : ℕ) (inside bytes : List ℕ) (at : ℕ) : Type 0 where
  pub within : at ≤ length inside
  pub goes_on : (more : List ℕ) → AreRead quote (drop at inside) more → AreRead quote inside (bytes ++ more)
  pub comes_here : Readable quote inside → Readable quote (drop at inside)

pub none_read : (quote : ℕ) (inside : List ℕ) → HasRead quote inside [] 0
none_read quote inside = record { within = omega arith; goes_on = λ more are. are; comes_here = λ all. all }

pub one_more : (quote : ℕ) (inside bytes more : List ℕ) (at n : ℕ) (value : Escaped) → IsQuote quote → HasRead quote inside bytes at → n ≤ length (drop at inside) → IsPart quote (take n (drop at inside)) value →
    more ≡ bytes ++ escaped_bytes value → HasRead quote inside more (at + n)
one_more quote inside bytes more at n value q has few is e =
    let rest = drop at inside in
    let whole : take n rest ++ drop n rest ≡ rest = take-append-drop n rest in
    let behind : drop n rest ≡ drop (at + n) inside = drop-drop n at inside in
    record {
      within = omega (arith, few, length-drop at inside, has.within);
      goes_on = λ last are.
          let here = subst (λ (t : List ℕ). AreRead quote t last) (sym behind) are in
          let step = subst (λ (t : List ℕ). AreRead quote t (escaped_bytes value ++ last)) whole (part_before quote (take n rest) value (drop n rest) last q is here) in
          subst (λ (t : List ℕ). AreRead quote inside t) (sym (append_assoc bytes (escaped_bytes value) last) ∙ ap (λ t. t ++ last) (sym e)) (has.goes_on (escaped_bytes value ++ last) step);
      comes_here = λ all.
          let here = subst (λ (t : List ℕ). Readable quote t) (sym whole) (has.comes_here all) in
          subst (λ (t : List ℕ). Readable quote t) behind (part_off quote (take n rest) value (drop n rest) q is here);
    }

pub all_read : (quote : ℕ) (inside bytes : List ℕ) (at : ℕ) → HasRead quote inside bytes at → length inside ≤ at → AreRead quote inside bytes
all_read quote inside bytes at has end =
    let none : drop at inside ≡ [] = drop_all at inside end in
    let empty : AreRead quote (drop at inside) [] = subst (λ (t : List ℕ). AreRead quote t []) (sym none) (record { line = nothing; parts = parts.nothing }) in
    subst (λ (t : List ℕ). AreRead quote inside t) (append-nil bytes) (has.goes_on [] empty)
