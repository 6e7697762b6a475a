-- How a character at the front of bytes is found.
use Rattle.std.proofs.Common.{◌≡◌, ℕ, ◌+◌, ◌<◌, Bool, List, [], ◌∷◌, ◌++◌, length, take, drop, slice_index, true, false, refl, ap, sym, ◌∙◌, append_assoc, take-append-drop, length-append, arith}
use Rattle.std.proofs.Math.Seq.{take-append_seam}
use Rattle.std.specs.Prelude.{IsUtf8, IfSome, Option, Some, None}
use Rattle.std.specs.Char.{encode_utf8}
use Rattle.std.specs.Str.{continuation_len, StartsWithNoChar}
use Rattle.std.proofs.lemmas.Str.{encode_ascii, encode_same, IsUtf8-encode}
use Rattle.gno_scan.specs.Characters.{HasNoFront}
use Rattle.gno_scan.specs.Longest.{Begins}

-- a character has a first byte, which tells its length
announced : (c : ℕ) → 1 + continuation_len (slice_index (encode_utf8 c) 0) ≡ length (encode_utf8 c)
unfolding encode_utf8
announced c = grind arith

pub not_empty : (c : ℕ) → 0 < length (encode_utf8 c)
not_empty c = omega (arith, announced c)

pub none_in_nothing : (text : List ℕ) → length text ≡ 0 → StartsWithNoChar text
none_in_nothing text h c rest s e = let some = not_empty c in let l = ap length e in omega (arith, length-append (encode_utf8 c) rest)

pub begins_ascii : (text : List ℕ) → 0 < length text → slice_index text 0 < 128 → Begins (encode_utf8 (slice_index text 0)) text
begins_ascii [] h k = absurd (omega (arith, h))
begins_ascii (b ∷ bs) h k = (bs, ap (λ front. front ++ bs) (sym (encode_ascii b k)))

begins_longer : (word text : List ℕ) (n : ℕ) → Begins word (take n text) → Begins word text
begins_longer word text n begins =
    (begins.0 ++ drop n text, sym (take-append-drop n text) ∙ ap (λ front. front ++ drop n text) begins.1 ∙ append_assoc word begins.0 (drop n text))

pub found_longer : (found : Option ℕ) (text : List ℕ) (n : ℕ) → IfSome found (λ c. Begins (encode_utf8 c) (take n text)) → IfSome found (λ c. Begins (encode_utf8 c) text)
found_longer None text n h = h
found_longer (Some c) text n h = begins_longer (encode_utf8 c) text n h

first_byte : (xs rest : List ℕ) → 0 < length xs → slice_index (xs ++ rest) 0 ≡ slice_index xs 0
first_byte [] rest h = absurd (omega (arith, h))
first_byte (x ∷ xs) rest h = refl

-- where a character begins the text, the bytes that its first byte announces are this character
pub character_in_front : (text : List ℕ) (c : ℕ) (rest : List ℕ) → text ≡ encode_utf8 c ++ rest → take (1 + continuation_len (slice_index text 0)) text ≡ encode_utf8 c
character_in_front text c rest e =
    let count = ap (λ b. 1 + continuation_len b) (ap (λ bs. slice_index bs 0) e ∙ first_byte (encode_utf8 c) rest (not_empty c)) ∙ announced c in
    ap (λ n. take n text) count ∙ ap (take (length (encode_utf8 c))) e ∙ take-append_seam (encode_utf8 c) rest

pub none_announced : (text front : List ℕ) → front ≡ take (1 + continuation_len (slice_index text 0)) text → (IsUtf8 front → length front ≡ 0) → StartsWithNoChar text
none_announced text front is none c rest s e =
    let whole = is ∙ character_in_front text c rest e in
    let empty = none (rw whole (IsUtf8-encode c s)) in
    let some = not_empty c in
    omega (arith, ap length whole)

-- the character that the text begins with fails the test
pub no_front : (p : ℕ → Bool) (text : List ℕ) (c : ℕ) → Begins (encode_utf8 c) text → p c ≡ false → HasNoFront p text
no_front p text c begins fails d rest s passes e =
    let same = (encode_same c d begins.0 rest (sym begins.1 ∙ e)).0 in
    let both : true ≡ false = sym passes ∙ ap p (sym same) ∙ fails in
    cc
