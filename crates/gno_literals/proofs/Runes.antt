-- The one character or escape of a rune literal.
use Rattle.std.proofs.Common.{◌≡◌, ◌≢◌, ◌∙◌, ◌≤◌, ◌<◌, inl, inr, ℕ, suc, List, [], ◌∷◌, ◌++◌, ap, refl, sym, subst, arith, length, take, get_or}
use Rattle.std.specs.Prelude.{◌⊎◌}
use Rattle.std.specs.Char.{encode_utf8, IsScalar}
use Rattle.std.proofs.lemmas.List.{append-nil, take_all}
use Rattle.std.proofs.lemmas.Str.{char_from_byte, encode_ascii, encode_same, inside_one}
use Rattle.gno_scan.specs.Escapes.{IsEscape, IsOneCharacter}
use Rattle.gno_scan.specs.Escapes.{IsOneCharacter as one}
use Rattle.gno_scan.specs.Longest.{BeginsWithNone}
use Rattle.gno_scan.specs.Quoted.{IsInside, nothing, plain}
use Rattle.gno_scan.proofs.Characters.{not_empty}
use Rattle.gno_scan.proofs.Judging.{escape_only}
use Rattle.gno_scan.proofs.OneEscape.{sized}
use Rattle.gno_literals.specs.declared.escape.Escaped.{Escaped}
use Rattle.gno_literals.specs.EscapeValues.{EscapeValue, escaped_number}
use Rattle.gno_literals.specs.Parts.{CharacterValue}
use Rattle.gno_literals.specs.Parts.{CharacterValue as character}
use Rattle.gno_literals.proofs.Escaping.{is_escape}
use Rattle.gno_literals.proofs.Lines.{escape_inside, plain_inside}
use Rattle.gno_literals.proofs.OneValue.{one_value, single}

-- a byte that may stand in a rune literal, and is no backslash
record IsPlain (b : ℕ) : Type 0 where
  no_quote : b ≢ 39
  no_backslash : b ≢ 92
  no_line_feed : b ≢ 10

all_plain : (bytes : List ℕ) → ((k : ℕ) → k < length bytes → IsPlain (get_or bytes k 0)) → IsInside 39 bytes
all_plain [] each = nothing
all_plain (b ∷ rest) each =
    let here = each 0 (omega arith) in
    plain b rest here.no_quote here.no_backslash here.no_line_feed (all_plain rest (λ k h. each (suc k) (omega (arith, h))))

same_character : (c d : ℕ) → encode_utf8 c ≡ encode_utf8 d → c ≡ d
same_character c d e = (encode_same c d [] [] (ap (λ t. t ++ []) e)).0

other_byte : (c b k : ℕ) → b < 128 → c ≢ b → k < length (encode_utf8 c) → get_or (encode_utf8 c) k 0 ≢ b
other_byte c b k ascii other within e = other (inside_one c [] (encode_utf8 c) k (sym (append-nil (encode_utf8 c))) within (omega (arith, e, ascii)) ∙ e)

pub plain_line : (inside : List ℕ) (c : ℕ) → inside ≡ encode_utf8 c → c ≢ 39 → c ≢ 92 → c ≢ 10 → IsInside 39 inside
plain_line inside c e nq nb nl =
    subst (λ (t : List ℕ). IsInside 39 t) (sym e) (all_plain (encode_utf8 c) (λ k within. record {
      no_quote = other_byte c 39 k (omega arith) nq within;
      no_backslash = other_byte c 92 k (omega arith) nb within;
      no_line_feed = other_byte c 10 k (omega arith) nl within;
    }))

pub plain_character : (inside : List ℕ) (c : ℕ) → IsScalar c → inside ≡ encode_utf8 c → c ≢ 92 → CharacterValue 39 inside c
plain_character inside c scalar e other = subst (λ (t : List ℕ). CharacterValue 39 t c) (sym e) (character.character c scalar other)

whole_escape : (text : List ℕ) → BeginsWithNone (IsEscape 39) text → IsEscape 39 text → ⊥
whole_escape text none is = none text is ([], sym (append-nil text))

none_of : (d : ℕ) (text : List ℕ) → text ≡ d ∷ [] → d ≢ 92 → IsInside 39 text → (d ≢ 39) × (d ≢ 10)
none_of d text e other line = let it = plain_inside 39 d text [] other line e in (it.0, it.1)

none_in : (d : ℕ) → (d ≡ 39) ⊎ ((d ≡ 92) ⊎ (d ≡ 10)) → d ≢ 92 → IsInside 39 (encode_utf8 d) → ⊥
none_in d (inl quote) other line = (none_of d (encode_utf8 d) (encode_ascii d (omega (arith, quote))) other line).0 quote
none_in d (inr (inl backslash)) other line = other backslash
none_in d (inr (inr line_feed)) other line = (none_of d (encode_utf8 d) (encode_ascii d (omega (arith, line_feed))) other line).1 line_feed

pub no_plain : (inside : List ℕ) (c : ℕ) → inside ≡ encode_utf8 c → (c ≡ 39) ⊎ ((c ≡ 92) ⊎ (c ≡ 10)) → BeginsWithNone (IsEscape 39) inside → IsInside 39 inside → (value : ℕ) → CharacterValue 39 inside value → ⊥
no_plain _ c e bad none line _ (character.character d scalar other) =
    let same : d ≡ c = same_character d c e in
    none_in d (subst (λ (x : ℕ). (x ≡ 39) ⊎ ((x ≡ 92) ⊎ (x ≡ 10))) (sym same) bad) other line
no_plain _ c e bad none line _ (character.escape word value x) = whole_escape word none (is_escape 39 word value x)

pub no_character : (inside : List ℕ) → ((c : ℕ) → IsScalar c → inside ≢ encode_utf8 c) → BeginsWithNone (IsEscape 39) inside → (value : ℕ) → CharacterValue 39 inside value → ⊥
no_character _ off none _ (character.character d scalar other) = off d scalar refl
no_character _ off none _ (character.escape word value x) = whole_escape word none (is_escape 39 word value x)

-- one escape
one_of : (text : List ℕ) (value : ℕ) → CharacterValue 39 text value → IsOneCharacter 39 text
one_of _ _ (character.character c scalar other) = one.character c scalar other
one_of _ _ (character.escape word value x) = one.escape word (is_escape 39 word value x)

pub whole_line : (size : ℕ) (inside : List ℕ) (value : Escaped) → EscapeValue 39 (take size inside) value → size ≡ length inside → IsInside 39 inside
whole_line size inside value x e = subst (λ (t : List ℕ). IsInside 39 t) (take_all size inside (omega (arith, e))) (escape_inside 39 (take size inside) value single x)

pub whole_value : (size number : ℕ) (inside : List ℕ) (value : Escaped) → EscapeValue 39 (take size inside) value → size ≡ length inside → number ≡ escaped_number value → CharacterValue 39 inside number
whole_value size number inside value x e is =
    rw is (subst (λ (t : List ℕ). CharacterValue 39 t (escaped_number value)) (take_all size inside (omega (arith, e))) (character.escape (take size inside) value x))

pub not_whole : (size : ℕ) (inside : List ℕ) (value : Escaped) → 2 ≤ size → size ≤ length inside → EscapeValue 39 (take size inside) value → size ≢ length inside → (number : ℕ) → CharacterValue 39 inside number → ⊥
not_whole size inside value some within x other number is = other (escape_only size inside some within (is_escape 39 (take size inside) value x) (one_of inside number is))

-- no escape is a character
escape_no_character : (c : ℕ) (word : List ℕ) → c ≢ 92 → IsEscape 39 word → encode_utf8 c ≡ word → ⊥
escape_no_character c word other is e =
    let s = sized 39 word refl is in
    let first : get_or (encode_utf8 c) 0 0 ≡ 92 = ap (λ t. get_or t 0 0) (e ∙ s.parts) in
    other (char_from_byte (encode_utf8 c) [] c (sym (append-nil (encode_utf8 c))) (omega (arith, first)) (not_empty c) ∙ first)

pub one_character : (text text' : List ℕ) (value value' : ℕ) → CharacterValue 39 text value → CharacterValue 39 text' value' → text ≡ text' → value ≡ value'
one_character _ _ _ _ (character.character c scalar other) (character.character d scalar' other') e = same_character c d e
one_character _ _ _ _ (character.character c scalar other) (character.escape word value x) e = absurd (escape_no_character c word other (is_escape 39 word value x) e)
one_character _ _ _ _ (character.escape word value x) (character.character c scalar other) e = absurd (escape_no_character c word other (is_escape 39 word value x) (sym e))
one_character _ _ _ _ (character.escape word value x) (character.escape word' value' x') e = ap escaped_number (one_value 39 word word' value value' single e x x')
