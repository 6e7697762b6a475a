-- Words that are names.
use Rattle.std.proofs.Common.{◌≡◌, refl, sym, ap, ◌∙◌, true≢false, ℕ, ◌<◌, Bool, true, not, List, [], ◌∷◌, ◌++◌, Option, Some, None, Ok, Err, subst, arith, rules}
use Rattle.std.specs.Prelude.{All, IfOk, flat_map, nat_lt, option_map}
use Rattle.std.specs.List.{list_all}
use Rattle.std.specs.declared.result.Result.{Result}
use Rattle.std.specs.declared.alloc.AllocError.{AllocError}
use Rattle.std.specs.Char.{encode_utf8, IsScalar, is_ascii_alphabetic}
use Rattle.std.proofs.lemmas.Bool.{and_parts, ltb-true}
use Rattle.std.proofs.lemmas.List.Elements.{All-cons, All-nil}
use Rattle.std.proofs.lemmas.Str.{encode_ascii}
use Rattle.gno_base.specs.Callers.{is_small_letter}
use Rattle.gno_base.specs.Paths.{kind_of, path_of}
use Rattle.gno_base.specs.declared.path.Path.{Path}
use Rattle.gno_base.specs.declared.path.PathKind.{PathKind}
use Rattle.gno_scan.specs.declared.kind.TokenKind.{TokenKind}
use Rattle.gno_scan.specs.declared.kind.TokenKind.TheVariants.{Break}
use Rattle.gno_scan.specs.Fixed.{keyword_spelling}
use Rattle.gno_scan.specs.Names.{IsName, begins_with_letter, is_letter, is_letter_or_digit}
use Rattle.gno_scan.proofs.Letters.{is_letter-ascii}
use Rattle.gno_terms.specs.Lawful.{IsPath}
use Rattle.gno_type_texts.specs.Shelves.{is_camel, is_plain}

small : (b : ℕ) → is_plain b ≡ true → b < 128
small b h = ltb-true b 128 (and_parts (nat_lt b 128) (is_ascii_alphabetic b) h).0

letter : (b : ℕ) → is_plain b ≡ true → is_letter b ≡ true
letter b h = is_letter-ascii b (small b h) ∙ rw ((and_parts (nat_lt b 128) (is_ascii_alphabetic b) h).1) refl

scalar : (b : ℕ) → is_plain b ≡ true → IsScalar b
scalar b h = let least = small b h in grind (arith, least)

scalars : (word : List ℕ) → list_all is_plain word ≡ true → All IsScalar word
scalars [] h = All-nil IsScalar
scalars (b ∷ rest) h = let parts = and_parts (is_plain b) (list_all is_plain rest) h in All-cons IsScalar b rest (scalar b parts.0) (scalars rest parts.1)

spelled : (word : List ℕ) → list_all is_plain word ≡ true → word ≡ flat_map encode_utf8 word
spelled [] h = refl
spelled (b ∷ rest) h =
    let parts = and_parts (is_plain b) (list_all is_plain rest) h in
    ap (λ (l : List ℕ). b ∷ l) (spelled rest parts.1) ∙ ap (λ (l : List ℕ). l ++ flat_map encode_utf8 rest) (sym (encode_ascii b (small b parts.0)))

letters : (word : List ℕ) → list_all is_plain word ≡ true → list_all is_letter_or_digit word ≡ true
letters [] h = refl
letters (b ∷ rest) h = let parts = and_parts (is_plain b) (list_all is_plain rest) h in rw (letter b parts.0, letters rest parts.1) refl

first_letter : (word : List ℕ) → list_all is_plain word ≡ true → not (list_all is_small_letter word) ≡ true → begins_with_letter word ≡ true
first_letter [] h k = absurd (true≢false (sym k))
first_letter (b ∷ rest) h k = letter b (and_parts (is_plain b) (list_all is_plain rest) h).0

abbrev is_small_spelling : Option (List ℕ) → Bool
is_small_spelling None = true
is_small_spelling (Some word) = list_all is_small_letter word

-- a keyword has small letters alone
small_keyword : (kind : TokenKind) → is_small_spelling (keyword_spelling kind) ≡ true
unfolding keyword_spelling
small_keyword Break = refl
small_keyword kind = refl

pub camel_is_name : (word : List ℕ) → is_camel word ≡ true → IsName word
camel_is_name word h =
    let parts = and_parts (list_all is_plain word) (not (list_all is_small_letter word)) h in
    record {
      identifier = record {
        characters = word;
        scalars = scalars word parts.0;
        spelled = spelled word parts.0;
        first = first_letter word parts.0 parts.1;
        each = letters word parts.0;
      };
      no_keyword = λ k. true≢false (sym parts.1 ∙ ap not (ap is_small_spelling (sym k.1) ∙ small_keyword k.0));
    }

abbrev path_with : List ℕ → PathKind → Path
path_with text kind = record { kind = kind; text = text }

abbrev text_in : List ℕ → Option Path → List ℕ
text_in text None = text
text_in text (Some path) = path.text

at_kind : (text : List ℕ) (path : Path) (o : Option PathKind) → kind_of text ≡ o → option_map (path_with text) o ≡ Some path → IsPath path.text
at_kind text path None is given = absurd (search (rules, given))
at_kind text path (Some kind) is given = (kind, ap kind_of (sym (ap (text_in text) given)) ∙ is)

pub path_is : (text : List ℕ) (path : Path) → path_of text ≡ Some path → IsPath path.text
path_is text path e = at_kind text path (kind_of text) refl e

pub copied_name : (word : List ℕ) (r : Result (List ℕ) AllocError) → is_camel word ≡ true → IfOk r (λ it. it ≡ word) → IfOk r IsName
copied_name word (Ok it) h e = subst IsName (sym e) (camel_is_name word h)
copied_name word (Err _) h e = tt
