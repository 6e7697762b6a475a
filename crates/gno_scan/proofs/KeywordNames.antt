-- Each keyword is an identifier.
use Rattle.std.proofs.Common.{◌≡◌, ℕ, ◌<◌, Bool, true, false, ◌&&◌, List, [], ◌∷◌, ◌++◌, refl, sym, ap, ◌∙◌, arith}
use Rattle.std.specs.Prelude.{All, Option, Some, None, flat_map, nat_lt}
use Rattle.std.specs.List.{list_all}
use Rattle.std.specs.Char.{encode_utf8, IsScalar, is_ascii_alphabetic}
use Rattle.std.proofs.lemmas.Bool.{and_parts, ltb-true}
use Rattle.std.proofs.lemmas.List.Elements.{All-cons, All-nil}
use Rattle.std.proofs.lemmas.Str.{encode_ascii}
use Rattle.gno_scan.specs.declared.kind.TokenKind.{TokenKind}
use Rattle.gno_scan.specs.declared.kind.TokenKind.TheVariants.{Break}
use Rattle.gno_scan.specs.Fixed.{keyword_spelling}
use Rattle.gno_scan.specs.Names.{IsIdentifier, begins_with_letter, is_letter, is_letter_or_digit}
use Rattle.gno_scan.proofs.Letters.{is_letter-ascii}

-- a letter of ASCII
abbrev is_plain : ℕ → Bool
is_plain b = nat_lt b 128 && is_ascii_alphabetic b

abbrev is_plain_word : List ℕ → Bool
is_plain_word [] = false
is_plain_word (b ∷ rest) = list_all is_plain (b ∷ rest)

plain_small : (b : ℕ) → is_plain b ≡ true → b < 128
plain_small b h = ltb-true b 128 (and_parts (nat_lt b 128) (is_ascii_alphabetic b) h).0

plain_letter : (b : ℕ) → is_plain b ≡ true → is_letter b ≡ true
plain_letter b h = is_letter-ascii b (plain_small b h) ∙ rw ((and_parts (nat_lt b 128) (is_ascii_alphabetic b) h).1) refl

plain_scalar : (b : ℕ) → is_plain b ≡ true → IsScalar b
plain_scalar b h = let small = plain_small b h in grind (arith, small)

plain_scalars : (word : List ℕ) → list_all is_plain word ≡ true → All IsScalar word
plain_scalars [] h = All-nil IsScalar
plain_scalars (b ∷ rest) h = let parts = and_parts (is_plain b) (list_all is_plain rest) h in All-cons IsScalar b rest (plain_scalar b parts.0) (plain_scalars rest parts.1)

plain_spelled : (word : List ℕ) → list_all is_plain word ≡ true → word ≡ flat_map encode_utf8 word
plain_spelled [] h = refl
plain_spelled (b ∷ rest) h =
    let parts = and_parts (is_plain b) (list_all is_plain rest) h in
    ap (λ (l : List ℕ). b ∷ l) (plain_spelled rest parts.1) ∙ ap (λ (l : List ℕ). l ++ flat_map encode_utf8 rest) (sym (encode_ascii b (plain_small b parts.0)))

plain_each : (word : List ℕ) → list_all is_plain word ≡ true → list_all is_letter_or_digit word ≡ true
plain_each [] h = refl
plain_each (b ∷ rest) h = let parts = and_parts (is_plain b) (list_all is_plain rest) h in rw (plain_letter b parts.0, plain_each rest parts.1) refl

plain_first : (word : List ℕ) → is_plain_word word ≡ true → begins_with_letter word ≡ true
plain_first [] h = cc
plain_first (b ∷ rest) h = plain_letter b (and_parts (is_plain b) (list_all is_plain rest) h).0

plain_all : (word : List ℕ) → is_plain_word word ≡ true → list_all is_plain word ≡ true
plain_all [] h = refl
plain_all (b ∷ rest) h = h

abbrev is_plain_spelling : Option (List ℕ) → Bool
is_plain_spelling None = true
is_plain_spelling (Some word) = is_plain_word word

each_plain : (kind : TokenKind) → is_plain_spelling (keyword_spelling kind) ≡ true
unfolding keyword_spelling
each_plain Break = refl
each_plain kind = refl

pub keyword_identifier : (kind : TokenKind) (word : List ℕ) → keyword_spelling kind ≡ Some word → IsIdentifier word
keyword_identifier kind word e =
    let plain : is_plain_word word ≡ true = ap is_plain_spelling (sym e) ∙ each_plain kind in
    record {
      characters = word;
      scalars = plain_scalars word (plain_all word plain);
      spelled = plain_spelled word (plain_all word plain);
      first = plain_first word plain;
      each = plain_each word (plain_all word plain);
    }
