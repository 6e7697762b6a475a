-- A text is read from its front, character by character.
use Rattle.std.proofs.Common.{◌≡◌, ℕ, ◌+◌, ◌<◌, Bool, List, [], ◌∷◌, ◌++◌, map, length, take, drop, slice_index, true, false, refl, ap, sym, ◌∙◌, append_assoc, take-append-drop, arith}
use Rattle.std.proofs.Math.Seq.{take-append_seam}
use Rattle.std.specs.Prelude.{encode_utf8_all, ◌&&◌}
use Rattle.std.specs.Char.{encode_utf8, IsScalar}
use Rattle.std.specs.Str.{is_utf8, continuation_len, all_scalars, StartsWithNoChar}
use Rattle.std.proofs.lemmas.Str.{IsUtf8-encode, IsUtf8-from_is_utf8, is_utf8-from_IsUtf8}
use Rattle.gno_text.specs.Quoting.{Part, IsReadFromFront, begins_character, parts_after, parts_of}
use Rattle.gno_text.specs.Quoting.Part.{Inside, Outside}
use Rattle.gno_text.proofs.Parts.{begins_character-front, parts_after-character, parts_after-outside, parts_after-end, not_true, take-one_more}

parts_after-inside : (xs rest : List ℕ) → parts_after (length xs) (xs ++ rest) ≡ map Inside xs ++ parts_after 0 rest
unfolding parts_after
parts_after-inside [] rest = refl
parts_after-inside (x ∷ xs) rest = ap (λ (ps : List Part). Inside x ∷ ps) (parts_after-inside xs rest)

-- the first byte of a character tells its length
len-encode : (c : ℕ) → 1 + continuation_len (slice_index (encode_utf8 c) 0) ≡ length (encode_utf8 c)
unfolding encode_utf8
len-encode c = grind arith

at_front : (xs rest : List ℕ) → 0 < length xs → is_utf8 xs ≡ true → 1 + continuation_len (slice_index xs 0) ≡ length xs → parts_of (xs ++ rest) ≡ map Inside xs ++ parts_of rest
at_front [] rest k u l = absurd (omega (arith, k))
at_front (x ∷ xs) rest k u l =
    let next : length xs ≡ continuation_len x = omega (arith, l) in
    let front : take (1 + continuation_len x) (x ∷ (xs ++ rest)) ≡ x ∷ xs = ap (λ n. take n (x ∷ (xs ++ rest))) l ∙ take-append_seam (x ∷ xs) rest in
    let begins : begins_character (x ∷ (xs ++ rest)) ≡ true = begins_character-front (x ∷ (xs ++ rest)) (omega arith) ∙ ap is_utf8 front ∙ u in
    parts_after-character 0 (length xs) (x ∷ (xs ++ rest)) (omega arith) begins next (omega arith) ∙ ap (λ (ps : List Part). Inside x ∷ ps) (parts_after-inside xs rest)

pub at_character : (c : ℕ) (rest : List ℕ) → IsScalar c → parts_of (encode_utf8 c ++ rest) ≡ map Inside (encode_utf8 c) ++ parts_of rest
at_character c rest s = at_front (encode_utf8 c) rest (omega (arith, len-encode c)) (is_utf8-from_IsUtf8 _ (IsUtf8-encode c s)) (len-encode c)

first_true : (x y : Bool) → (x && y) ≡ true → x ≡ true
first_true true y e = refl
first_true false y e = e

no_front : (cs : List ℕ) (n b : ℕ) (rest : List ℕ) → all_scalars cs ≡ true → encode_utf8_all cs ≡ take (1 + n) (b ∷ rest) → StartsWithNoChar (b ∷ rest) → ⊥
no_front [] n b rest s e h = let none = ap length (e ∙ take-one_more n b rest) in omega (arith, none)
no_front (c ∷ cs) n b rest s e h =
    let behind = drop (1 + n) (b ∷ rest) in
    let whole = sym (take-append-drop (1 + n) (b ∷ rest)) ∙ ap (λ front. front ++ behind) (sym e) ∙ append_assoc (encode_utf8 c) (encode_utf8_all cs) behind in
    h c (encode_utf8_all cs ++ behind) (first_true _ _ s) whole

none_begins : (b : ℕ) (rest : List ℕ) → StartsWithNoChar (b ∷ rest) → begins_character (b ∷ rest) ≡ false
none_begins b rest h = not_true _ (λ e.
    let front = IsUtf8-from_is_utf8 _ (sym (begins_character-front (b ∷ rest) (omega arith)) ∙ e) in
    no_front front.0 (continuation_len b) b rest front.1.0 front.1.1 h)

pub at_stray : (b : ℕ) (rest : List ℕ) → StartsWithNoChar (b ∷ rest) → parts_of (b ∷ rest) ≡ Outside b ∷ parts_of rest
at_stray b rest h = parts_after-outside 0 (b ∷ rest) (omega arith) (none_begins b rest h) (omega arith)

pub read_from_front : (text : List ℕ) → IsReadFromFront text
read_from_front text = record {
  at_end = λ e. parts_after-end 0 text (rw e refl);
  at_character = λ c rest s e. rw e (at_character c rest s);
  at_stray = λ b rest h e. rw e (at_stray b rest (rw e at h));
}
