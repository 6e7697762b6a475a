-- The bytes of a name.
use Rattle.std.proofs.Common.{◌≡◌, refl, ap, sym, ◌∙◌, true≢false, ℕ, ◌+◌, ◌/◌, ◌%◌, ◌<◌, ◌≤◌, Bool, true, false, ◌&&◌, ◌||◌, ◌==◌, nat_le, arith, List, [], ◌∷◌, cond, flat_map, ltb, ltb-true}
use Rattle.std.specs.List.{list_all}
use Rattle.std.specs.Char.{encode_utf8, is_ascii_alphabetic, is_ascii_digit}
use Rattle.std.proofs.lemmas.Bool.{and_parts, and_from}
use Rattle.std.proofs.lemmas.Bool.Decides.{nat_tests}
use Rattle.gno_scan.specs.Names.{IsName, is_letter_or_digit, begins_with_letter}
use Rattle.gno_scan.proofs.Letters.{is_letter-ascii, is_digit-ascii}
use Rattle.gno_terms.proofs.Words.{begins, all-append, begins-append}
use Rattle.gno_terms.proofs.Bytes.{in_name}

abbrev is_name_text : List ℕ → Bool
is_name_text text = begins in_name text && list_all in_name text

wide : (b : ℕ) → 128 ≤ b → in_name b ≡ true
wide b h = grind (arith, nat_tests)

narrow : (c : ℕ) → c < 128 → is_letter_or_digit c ≡ true → in_name c ≡ true
narrow c h e = form _ _ (is_letter-ascii c h) (is_digit-ascii c h) e
  where
    form : (l d : Bool) → l ≡ (is_ascii_alphabetic c || (c == 95)) → d ≡ is_ascii_digit c → (l || d) ≡ true → in_name c ≡ true
    form l d p q e = grind (arith, nat_tests)

-- each byte of a wide character
all_wide : (b : ℕ) (bs : List ℕ) → 128 ≤ b → list_all in_name bs ≡ true → list_all in_name (b ∷ bs) ≡ true
all_wide b bs h e = and_from (in_name b) (list_all in_name bs) (wide b h) e

wide_text : (b : ℕ) (bs : List ℕ) → 128 ≤ b → list_all in_name bs ≡ true → is_name_text (b ∷ bs) ≡ true
wide_text b bs h e = and_from (in_name b) (list_all in_name (b ∷ bs)) (wide b h) (all_wide b bs h e)

chosen : (t : Bool) (xs ys : List ℕ) → (t ≡ true → is_name_text xs ≡ true) → (t ≡ false → is_name_text ys ≡ true) → is_name_text (cond t xs ys) ≡ true
chosen true xs ys p q = p refl
chosen false xs ys p q = q refl

over : (a b : ℕ) → nat_le 128 a ≡ true → 128 ≤ a + b
over a b e = grind (arith, nat_tests)

abbrev last_byte : ℕ → List ℕ
last_byte c = (128 + c % 64) ∷ []

abbrev last_two : ℕ → List ℕ
last_two c = (128 + c / 64 % 64) ∷ last_byte c

abbrev last_three : ℕ → List ℕ
last_three c = (128 + c / 4096 % 64) ∷ last_two c

one : (c : ℕ) → list_all in_name (last_byte c) ≡ true
one c = all_wide (128 + c % 64) [] (over 128 (c % 64) refl) refl

two : (c : ℕ) → list_all in_name (last_two c) ≡ true
two c = all_wide (128 + c / 64 % 64) (last_byte c) (over 128 (c / 64 % 64) refl) (one c)

three : (c : ℕ) → list_all in_name (last_three c) ≡ true
three c = all_wide (128 + c / 4096 % 64) (last_two c) (over 128 (c / 4096 % 64) refl) (two c)

-- the bytes of a character of a name
encoded : (c : ℕ) → is_letter_or_digit c ≡ true → is_name_text (encode_utf8 c) ≡ true
unfolding encode_utf8
encoded c e =
    chosen (ltb c 128) _ _ (λ t. let n = narrow c (ltb-true c 128 t) e in and_from (in_name c) (in_name c && true) n (and_from (in_name c) true n refl)) (λ _.
    chosen (ltb c 2048) _ _ (λ _. wide_text (192 + c / 64) (last_byte c) (over 192 (c / 64) refl) (one c)) (λ _.
    chosen (ltb c 65536) _ _ (λ _. wide_text (224 + c / 4096) (last_two c) (over 224 (c / 4096) refl) (two c)) (λ _.
    wide_text (240 + c / 262144) (last_three c) (over 240 (c / 262144) refl) (three c))))

characters : (cs : List ℕ) → list_all is_letter_or_digit cs ≡ true → list_all in_name (flat_map encode_utf8 cs) ≡ true
characters [] e = refl
characters (c ∷ cs) e =
    let t = and_parts (is_letter_or_digit c) (list_all is_letter_or_digit cs) e in
    all-append in_name (encode_utf8 c) (flat_map encode_utf8 cs) (and_parts (begins in_name (encode_utf8 c)) (list_all in_name (encode_utf8 c)) (encoded c t.0)).1 (characters cs t.1)

first : (cs : List ℕ) → begins_with_letter cs ≡ true → list_all is_letter_or_digit cs ≡ true → begins in_name (flat_map encode_utf8 cs) ≡ true
first [] b e = absurd (true≢false (sym b))
first (c ∷ cs) b e =
    let t = and_parts (is_letter_or_digit c) (list_all is_letter_or_digit cs) e in
    begins-append in_name (encode_utf8 c) (flat_map encode_utf8 cs) (and_parts (begins in_name (encode_utf8 c)) (list_all in_name (encode_utf8 c)) (encoded c t.0)).0

pub name_bytes : (word : List ℕ) → IsName word → list_all in_name word ≡ true
name_bytes word n = ap (list_all in_name) n.identifier.spelled ∙ characters n.identifier.characters n.identifier.each

pub name_begins : (word : List ℕ) → IsName word → begins in_name word ≡ true
name_begins word n = ap (begins in_name) n.identifier.spelled ∙ first n.identifier.characters n.identifier.first n.identifier.each
