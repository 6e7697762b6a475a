-- Names by tests.
use Rattle.std.proofs.Common.{◌≡◌, refl, ap, sym, ◌∙◌, true≢false, ℕ, Bool, true, false, cond, List, [], ◌∷◌, ◌++◌, length, flat_map, Option, Some, None, ◌==◌, nat_le}
use Rattle.std.specs.Prelude.{◌↔◌, All}
use Rattle.std.specs.List.{list_all}
use Rattle.std.specs.Char.{encode_utf8, IsScalar}
use Rattle.std.specs.Str.{chars, IsUtf8}
use Rattle.std.proofs.Math.Utf8.{encodes, scalars}
use Rattle.std.proofs.lemmas.Bool.{and_parts, and_from}
use Rattle.std.proofs.lemmas.List.Elements.{All-nil, All-cons, All-head, All-tail}
use Rattle.std.proofs.lemmas.Str.{encodes-chars, scalars-chars, chars_from_encodes}
use Rattle.gno_scan.specs.declared.kind.TokenKind.{TokenKind}
use Rattle.gno_scan.specs.Fixed.{keyword_spelling}
use Rattle.gno_scan.specs.Kinds.{kind_of, keywords_by_length, keywords_up_to_three, keywords_of_four, keywords_of_five, keywords_of_six, keywords_from_seven}
use Rattle.gno_scan.specs.Names.{IsIdentifier, IsKeyword, IsName, begins_with_letter, is_letter_or_digit}
use Rattle.gno_scan.proofs.Spelled.{AreSpelled}
use Rattle.gno_scan.proofs.Keywords.{exact, keywords_up_to_three-spelled, keywords_of_four-spelled, keywords_of_five-spelled, keywords_of_six-spelled, keywords_from_seven-spelled}
use Rattle.gno_type_reading.specs.Spellings.{are_letters, is_keyword, is_there}

-- ---- keywords

pick : (b : Bool) (x y : List (List ℕ × TokenKind)) → AreSpelled keyword_spelling x → AreSpelled keyword_spelling y → AreSpelled keyword_spelling (cond b x y)
pick true x y h k = h
pick false x y h k = k

spelled_by : (n : ℕ) → AreSpelled keyword_spelling (keywords_by_length n)
spelled_by n =
    pick (nat_le n 3) keywords_up_to_three _ keywords_up_to_three-spelled (pick (n == 4) keywords_of_four _ keywords_of_four-spelled
    (pick (n == 5) keywords_of_five _ keywords_of_five-spelled (pick (n == 6) keywords_of_six keywords_from_seven keywords_of_six-spelled keywords_from_seven-spelled)))

found : (o : Option TokenKind) → is_there o ≡ true → (kind : TokenKind) × (o ≡ Some kind)
found None e = absurd (true≢false (sym e))
found (Some kind) e = (kind, refl)

kinds : (word : List ℕ) (kind : TokenKind) → (kind_of (keywords_by_length (length word)) word ≡ Some kind) ↔ (keyword_spelling kind ≡ Some word)
kinds word = exact word (keywords_by_length (length word)) (kind_of (keywords_by_length (length word)) word) refl (spelled_by (length word)) refl

pub keyword_is : (word : List ℕ) → is_keyword word ≡ true → IsKeyword word
keyword_is word e = let k = found (kind_of (keywords_by_length (length word)) word) e in (k.0, (kinds word k.0).0 k.1)

pub keyword_seen : (word : List ℕ) → IsKeyword word → is_keyword word ≡ true
keyword_seen word k = ap is_there ((kinds word k.0).1 k.1)

-- ---- identifiers

same_encoding : (cs : List ℕ) → encodes cs ≡ flat_map encode_utf8 cs
same_encoding [] = refl
same_encoding (c ∷ cs) = ap (λ l. encode_utf8 c ++ l) (same_encoding cs)

all_scalars : (cs : List ℕ) → scalars cs ≡ true → All IsScalar cs
all_scalars [] e = All-nil IsScalar
all_scalars (c ∷ cs) e = let t = and_parts _ (scalars cs) e in All-cons IsScalar c cs t.0 (all_scalars cs t.1)

are_scalars : (cs : List ℕ) → All IsScalar cs → scalars cs ≡ true
are_scalars [] h = refl
are_scalars (c ∷ cs) h = and_from _ (scalars cs) (All-head IsScalar c cs h) (are_scalars cs (All-tail IsScalar c cs h))

pub utf8_of : (word : List ℕ) → IsIdentifier word → IsUtf8 word
utf8_of word i = (i.characters, (are_scalars i.characters i.scalars, same_encoding i.characters ∙ sym i.spelled))

pub identifier_is : (word : List ℕ) → IsUtf8 word → are_letters (chars word) ≡ true → IsIdentifier word
identifier_is word u e =
    let t = and_parts (begins_with_letter (chars word)) (list_all is_letter_or_digit (chars word)) e in
    record {
      characters = chars word;
      scalars = all_scalars (chars word) (scalars-chars word u);
      spelled = sym (encodes-chars word u) ∙ same_encoding (chars word);
      first = t.0;
      each = t.1;
    }

pub identifier_seen : (word : List ℕ) → IsIdentifier word → are_letters (chars word) ≡ true
identifier_seen word i =
    let same = chars_from_encodes i.characters word (utf8_of word i) (same_encoding i.characters ∙ sym i.spelled) in
    ap are_letters (sym same) ∙ and_from (begins_with_letter i.characters) (list_all is_letter_or_digit i.characters) i.first i.each

-- ---- names

pub name_is : (word : List ℕ) → IsIdentifier word → is_keyword word ≡ false → IsName word
name_is word i e = record { identifier = i; no_keyword = λ k. true≢false (sym (keyword_seen word k) ∙ e) }

pub name_no_keyword : (word : List ℕ) → IsName word → is_keyword word ≡ false
name_no_keyword word n = at (is_keyword word) refl
  where
    at : (b : Bool) → is_keyword word ≡ b → is_keyword word ≡ false
    at true e = absurd (n.no_keyword (keyword_is word e))
    at false e = e
