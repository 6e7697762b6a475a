-- Whether something is wrong with a piece.
use Rattle.std.proofs.Common.{◌≡◌, ◌≢◌, ◌∙◌, ◌≤◌, ◌<◌, ◌+◌, ℕ, List, [], ◌∷◌, ◌++◌, ap, refl, sym, subst, arith, get_or, length, take, drop, length-append, length-take}
use Rattle.std.specs.Char.{encode_utf8, IsScalar, len_utf8}
use Rattle.std.specs.Str.{StartsWithNoChar}
use Rattle.std.proofs.lemmas.List.{append-nil, take-append-drop, take_all}
use Rattle.std.proofs.lemmas.Str.{byte_from_char, char_from_byte, encode_same, len_utf8_bounds, length-encode}
use Rattle.gno_scan.specs.declared.kind.TokenKind.TheVariants.{Rune, String}
use Rattle.gno_scan.specs.declared.piece.Piece.TheVariants.{Token}
use Rattle.gno_scan.specs.Escapes.{AreParts, IsBadEscape, IsEscape, IsOneCharacter, character, stray, escape}
use Rattle.gno_scan.specs.Longest.{Begins, BeginsWithNone}
use Rattle.gno_scan.specs.Tokens.{IsRight, IsWrong, rune_escape, string_escape, rune_count}
use Rattle.gno_scan.proofs.OneEscape.{no_bad_escape, one_escape, size_of, sized}
use Rattle.gno_scan.proofs.OneWrong.{Wrongs, HasBadEscape, same_inside, in_rune, in_string, in_count, in_integer, in_other, wrongs}

empty : (text : List ℕ) → length text ≡ 0 → text ≡ []
empty [] e = refl
empty (b ∷ bs) e = absurd (omega (arith, e))

whole_escape : (quote : ℕ) (text : List ℕ) → BeginsWithNone (IsEscape quote) text → IsEscape quote text → ⊥
whole_escape quote text none is = none text is ([], sym (append-nil text))

-- the character that the text begins with is all of it
pub plain_one : (c : ℕ) (text : List ℕ) → IsScalar c → c ≢ 92 → Begins (encode_utf8 c) text → len_utf8 c ≡ length text → IsOneCharacter 39 text
plain_one c text scalar other begins size =
    let none : begins.0 ≡ [] = empty begins.0 (omega (arith, size, ap length begins.1, length-append (encode_utf8 c) begins.0, length-encode c)) in
    let all : text ≡ encode_utf8 c = begins.1 ∙ ap (λ t. encode_utf8 c ++ t) none ∙ append-nil (encode_utf8 c) in
    subst (λ (t : List ℕ). IsOneCharacter 39 t) (sym all) (character c scalar other)

-- no other character than all of it is one
pub plain_only : (c : ℕ) (text : List ℕ) → Begins (encode_utf8 c) text → BeginsWithNone (IsEscape 39) text → IsOneCharacter 39 text → (c ≢ 92) × (len_utf8 c ≡ length text)
plain_only c _ begins none (character d scalar other) =
    let same : c ≡ d = (encode_same c d begins.0 [] (sym begins.1 ∙ sym (append-nil (encode_utf8 d)))).0 in
    (λ e. other (sym same ∙ e), ap len_utf8 same ∙ sym (length-encode d))
plain_only c _ begins none (stray b high) =
    (λ e. absurd (omega (arith, e, high, byte_from_char (b ∷ []) begins.0 c begins.1 (omega (arith, e)))), omega (arith, ap length begins.1, length-append (encode_utf8 c) begins.0, length-encode c, (len_utf8_bounds c).0))
plain_only c _ begins none (escape word is) = absurd (whole_escape 39 word none is)

-- one byte of no character
pub stray_one : (text : List ℕ) → length text ≡ 1 → 128 ≤ get_or text 0 0 → IsOneCharacter 39 text
stray_one [] size high = absurd (omega (arith, size))
stray_one (b ∷ []) size high = stray b high
stray_one (b ∷ c ∷ rest) size high = absurd (omega (arith, size))

pub stray_only : (text : List ℕ) → StartsWithNoChar text → BeginsWithNone (IsEscape 39) text → IsOneCharacter 39 text → (length text ≡ 1) × (128 ≤ get_or text 0 0)
stray_only _ no_char none (character d scalar other) = absurd (no_char d [] scalar (sym (append-nil (encode_utf8 d))))
stray_only _ no_char none (stray b high) = (refl, high)
stray_only _ no_char none (escape word is) = absurd (whole_escape 39 word none is)

-- the escape that the text begins with is all of it
pub escape_one : (size : ℕ) (text : List ℕ) → IsEscape 39 (take size text) → size ≡ length text → IsOneCharacter 39 text
escape_one size text is all = subst (λ (t : List ℕ). IsOneCharacter 39 t) (take_all size text (omega (arith, all))) (escape (take size text) is)

first_byte : (text : List ℕ) (size : ℕ) → IsEscape 39 (take size text) → get_or text 0 0 ≡ 92
first_byte text size is =
    let s = sized 39 (take size text) refl is in
    ap (λ t. get_or t 0 0) (sym (take-append-drop size text) ∙ ap (λ w. w ++ drop size text) s.parts)

pub escape_only : (size : ℕ) (text : List ℕ) → 2 ≤ size → size ≤ length text → IsEscape 39 (take size text) → IsOneCharacter 39 text → size ≡ length text
escape_only size _ some within is (character d scalar other) =
    let first : get_or (encode_utf8 d) 0 0 ≡ 92 = first_byte (encode_utf8 d) size is in
    absurd (other (char_from_byte (encode_utf8 d) [] d (sym (append-nil (encode_utf8 d))) (omega (arith, first)) (omega (arith, some, within)) ∙ first))
escape_only size _ some within is (stray b high) = absurd (omega (arith, some, within))
escape_only size _ some within is (escape word is') =
    let same : take size word ≡ word = (one_escape 39 (take size word) word (drop size word) [] refl is is' (take-append-drop size word ∙ sym (append-nil word))).0 in
    omega (arith, ap length same, length-take size word, within)

-- a bad escape stands within the literal
pub bad_within : (quote : ℕ) (inside : List ℕ) (at : ℕ) → IsBadEscape quote inside at → at < length inside
bad_within quote inside at bad = omega (arith, bad.place, ap length bad.split, length-append bad.front (92 ∷ bad.rest))

pub wrong_rune : (word inside : List ℕ) (at : ℕ) → word ≡ 39 ∷ (inside ++ 39 ∷ []) → IsBadEscape 39 inside at → IsWrong (Token Rune) word 4 (at + 1)
wrong_rune word inside at spelled bad = subst (λ (w : List ℕ). IsWrong (Token Rune) w 4 (at + 1)) (sym spelled) (rune_escape inside at bad)

pub wrong_string : (word inside : List ℕ) (at : ℕ) → word ≡ 34 ∷ (inside ++ 34 ∷ []) → IsBadEscape 34 inside at → IsWrong (Token String) word 4 (at + 1)
wrong_string word inside at spelled bad = subst (λ (w : List ℕ). IsWrong (Token String) w 4 (at + 1)) (sym spelled) (string_escape inside at bad)

pub wrong_count : (word inside : List ℕ) → word ≡ 39 ∷ (inside ++ 39 ∷ []) → AreParts 39 inside → (IsOneCharacter 39 inside → ⊥) → IsWrong (Token Rune) word 4 0
wrong_count word inside spelled parts other = subst (λ (w : List ℕ). IsWrong (Token Rune) w 4 0) (sym spelled) (rune_count inside parts other)

no_bad : (quote : ℕ) (word inside : List ℕ) (code at : ℕ) → size_of quote ≡ 2 → word ≡ quote ∷ (inside ++ quote ∷ []) → AreParts quote inside → HasBadEscape quote word code at → ⊥
no_bad quote word inside code at two spelled parts h =
    no_bad_escape quote inside h.place two parts (subst (λ (t : List ℕ). IsBadEscape quote t h.place) (same_inside quote word h.inside inside h.spelled spelled) h.bad)

none_in_rune : (word inside : List ℕ) (code at : ℕ) → word ≡ 39 ∷ (inside ++ 39 ∷ []) → AreParts 39 inside → IsOneCharacter 39 inside → Wrongs (Token Rune) word code at → ⊥
none_in_rune word inside code at spelled parts one (in_rune is h) = no_bad 39 word inside code at refl spelled parts h
none_in_rune word inside code at spelled parts one (in_string is h) = cc
none_in_rune word inside code at spelled parts one (in_count is h) =
    h.other (subst (λ (t : List ℕ). IsOneCharacter 39 t) (same_inside 39 word inside h.inside spelled h.spelled) one)
none_in_rune word inside code at spelled parts one (in_integer is none code_is at_is) = cc
none_in_rune word inside code at spelled parts one (in_other is code_is at_is) = cc

pub right_rune : (word inside : List ℕ) → word ≡ 39 ∷ (inside ++ 39 ∷ []) → AreParts 39 inside → IsOneCharacter 39 inside → IsRight (Token Rune) word
right_rune word inside spelled parts one code at wrong = none_in_rune word inside code at spelled parts one (wrongs (Token Rune) word code at wrong)

none_in_string : (word inside : List ℕ) (code at : ℕ) → word ≡ 34 ∷ (inside ++ 34 ∷ []) → AreParts 34 inside → Wrongs (Token String) word code at → ⊥
none_in_string word inside code at spelled parts (in_rune is h) = cc
none_in_string word inside code at spelled parts (in_string is h) = no_bad 34 word inside code at refl spelled parts h
none_in_string word inside code at spelled parts (in_count is h) = cc
none_in_string word inside code at spelled parts (in_integer is none code_is at_is) = cc
none_in_string word inside code at spelled parts (in_other is code_is at_is) = cc

pub right_string : (word inside : List ℕ) → word ≡ 34 ∷ (inside ++ 34 ∷ []) → AreParts 34 inside → IsRight (Token String) word
right_string word inside spelled parts code at wrong = none_in_string word inside code at spelled parts (wrongs (Token String) word code at wrong)
