-- The longest run of characters at the front of bytes.
use Rattle.std.proofs.Common.{◌≡◌, ℕ, ◌+◌, ◌≤◌, Bool, List, [], ◌∷◌, ◌++◌, length, take, drop, true, refl, ap, sym, subst, ◌∙◌, append_assoc, length-append, length-drop, ◌-◌, take-append-drop, arith}
use Rattle.std.specs.Prelude.{All, flat_map}
use Rattle.std.specs.List.{list_all}
use Rattle.std.specs.Char.{encode_utf8, IsScalar}
use Rattle.std.proofs.lemmas.List.{drop-drop, take_all}
use Rattle.std.proofs.lemmas.List.Elements.{All-cons, All-head, All-nil, All-tail}
use Rattle.std.proofs.lemmas.Bool.{and_parts}
use Rattle.std.proofs.lemmas.Str.{encode_same}
use Rattle.gno_scan.specs.Characters.{HasFront, HasNoFront, IsRun}
use Rattle.gno_scan.specs.Longest.{Begins, BeginsWithNone, IsLongest}
use Rattle.gno_scan.specs.Names.{begins_with_letter, IsIdentifier, is_letter, is_letter_or_digit}

-- what begins behind a character's bytes
begins_behind : (front word text : List ℕ) → Begins word text → Begins (front ++ word) (front ++ text)
begins_behind front word text begins = (begins.0, ap (λ rest. front ++ rest) begins.1 ∙ sym (append_assoc front word begins.0))

-- two characters begin the same text: what stands behind them is the same
behind_both : (c d : ℕ) (word text rest : List ℕ) → encode_utf8 c ++ text ≡ (encode_utf8 d ++ word) ++ rest → (c ≡ d) × (text ≡ word ++ rest)
behind_both c d word text rest e = encode_same c d text (word ++ rest) (e ∙ append_assoc (encode_utf8 d) word rest)

nothing_is_run : (p : ℕ → Bool) → IsRun p []
nothing_is_run p = record { characters = []; scalars = All-nil IsScalar; spelled = refl; each = refl }

run_grows : (p : ℕ → Bool) (c : ℕ) (word : List ℕ) → IsScalar c → p c ≡ true → IsRun p word → IsRun p (encode_utf8 c ++ word)
run_grows p c word s passes run = record {
  characters = c ∷ run.characters;
  scalars = All-cons IsScalar c run.characters s run.scalars;
  spelled = ap (λ bs. encode_utf8 c ++ bs) run.spelled;
  each = rw passes run.each;
}

letter_passes : (c : ℕ) → is_letter c ≡ true → is_letter_or_digit c ≡ true
letter_passes c letter = rw letter refl

-- no run behind the character is longer than the word, so none that begins with the character is longer than both
no_longer : (p : ℕ → Bool) (c : ℕ) (word text other : List ℕ) → IsLongest (IsRun p) text word → (characters rest : List ℕ) → other ≡ flat_map encode_utf8 characters → All IsScalar characters → list_all p characters ≡ true →
    encode_utf8 c ++ text ≡ other ++ rest → length other ≤ length (encode_utf8 c ++ word)
no_longer p c word text other best [] rest spelled scalars each e = let none = ap length spelled in omega (arith, none)
no_longer p c word text other best (d ∷ characters) rest spelled scalars each e =
    let behind = flat_map encode_utf8 characters in
    let both = behind_both c d behind text rest (e ∙ ap (λ bs. bs ++ rest) spelled) in
    let run : IsRun p behind = record { characters = characters; scalars = All-tail IsScalar d characters scalars; spelled = refl; each = (and_parts (p d) (list_all p characters) each).1 } in
    let most = best.longest behind run (rest, both.1) in
    let long = ap length spelled in
    let same = ap (λ b. length (encode_utf8 b)) both.0 in
    omega (arith, most, long, same, length-append (encode_utf8 d) behind, length-append (encode_utf8 c) word)

pub nothing_longest : (p : ℕ → Bool) (text : List ℕ) → HasNoFront p text → IsLongest (IsRun p) text []
nothing_longest p text no_front = record {
  spelled = nothing_is_run p;
  begins = (text, refl);
  longest = λ other run begins. none_longer other run.characters run.spelled run.scalars run.each begins;
}
  where
    none_longer : (other characters : List ℕ) → other ≡ flat_map encode_utf8 characters → All IsScalar characters → list_all p characters ≡ true → Begins other text → length other ≤ 0
    none_longer other [] spelled scalars each begins = let none = ap length spelled in omega (arith, none)
    none_longer other (d ∷ characters) spelled scalars each begins =
        let behind = flat_map encode_utf8 characters in
        absurd (no_front d (behind ++ begins.0) (All-head IsScalar d characters scalars) (and_parts (p d) (list_all p characters) each).0
        (begins.1 ∙ ap (λ bs. bs ++ begins.0) spelled ∙ append_assoc (encode_utf8 d) behind begins.0))

longer_by_one : (p : ℕ → Bool) (c : ℕ) (word text : List ℕ) → IsScalar c → p c ≡ true → IsLongest (IsRun p) text word → IsLongest (IsRun p) (encode_utf8 c ++ text) (encode_utf8 c ++ word)
longer_by_one p c word text s passes best = record {
  spelled = run_grows p c word s passes best.spelled;
  begins = begins_behind (encode_utf8 c) word text best.begins;
  longest = λ other run begins. no_longer p c word text other best run.characters begins.0 run.spelled run.scalars run.each begins.1;
}

-- the identifier whose first letter is given, and whose other characters are the longest run
letter_and_run : (c : ℕ) (word text : List ℕ) → IsScalar c → is_letter c ≡ true → IsLongest (IsRun is_letter_or_digit) text word → IsLongest IsIdentifier (encode_utf8 c ++ text) (encode_utf8 c ++ word)
unfolding run_grows
letter_and_run c word text s letter best =
    let run = run_grows is_letter_or_digit c word s (letter_passes c letter) best.spelled in
    record {
      spelled = record { characters = c ∷ best.spelled.characters; scalars = run.scalars; spelled = run.spelled; first = letter; each = run.each };
      begins = begins_behind (encode_utf8 c) word text best.begins;
      longest = λ other named begins. no_longer is_letter_or_digit c word text other best named.characters begins.0 named.spelled named.scalars named.each begins.1;
    }

-- the text is the bytes of the character at its front, and the rest
front_and_rest : (p : ℕ → Bool) (text : List ℕ) (n : ℕ) (front : HasFront p text n) → encode_utf8 front.character ++ drop n text ≡ text
front_and_rest p text n front = ap (λ bs. bs ++ drop n text) (sym front.spelled) ∙ take-append-drop n text

goes_on : (p : ℕ → Bool) (text : List ℕ) (n : ℕ) (word : List ℕ) → HasFront p text n → IsLongest (IsRun p) (drop n text) word → IsLongest (IsRun p) text (take n text ++ word)
goes_on p text n word front best =
    let whole = longer_by_one p front.character word (drop n text) front.scalar front.passes best in
    subst (λ bs. IsLongest (IsRun p) bs (take n text ++ word)) (front_and_rest p text n front)
    (subst (λ bs. IsLongest (IsRun p) (encode_utf8 front.character ++ drop n text) (bs ++ word)) (sym front.spelled) whole)

pub identifier : (text : List ℕ) (n : ℕ) (word : List ℕ) → HasFront is_letter text n → IsLongest (IsRun is_letter_or_digit) (drop n text) word → IsLongest IsIdentifier text (take n text ++ word)
identifier text n word front best =
    let whole = letter_and_run front.character word (drop n text) front.scalar front.passes best in
    subst (λ bs. IsLongest IsIdentifier bs (take n text ++ word)) (front_and_rest is_letter text n front)
    (subst (λ bs. IsLongest IsIdentifier (encode_utf8 front.character ++ drop n text) (bs ++ word)) (sym front.spelled) whole)

pub no_identifier : (text : List ℕ) → HasNoFront is_letter text → BeginsWithNone IsIdentifier text
no_identifier text no_front word named begins = not_one word named.characters named.scalars named.spelled named.first begins
  where
    not_one : (word characters : List ℕ) → All IsScalar characters → word ≡ flat_map encode_utf8 characters → begins_with_letter characters ≡ true → Begins word text → ⊥
    not_one word [] scalars spelled first begins = cc
    not_one word (d ∷ characters) scalars spelled first begins =
        let behind = flat_map encode_utf8 characters in
        no_front d (behind ++ begins.0) (All-head IsScalar d characters scalars) first
        (begins.1 ∙ ap (λ bs. bs ++ begins.0) spelled ∙ append_assoc (encode_utf8 d) behind begins.0)

-- the rest of a text is all of it
pub rest_is : (text : List ℕ) (n : ℕ) → take (length text - n) (drop n text) ≡ drop n text
rest_is text n = take_all (length text - n) (drop n text) (omega (arith, length-drop n text))

-- a run goes on at a place in the text
pub further : (p : ℕ → Bool) (text : List ℕ) (at n : ℕ) (word : List ℕ) → HasFront p (drop at text) n → IsLongest (IsRun p) (drop (at + n) text) word → IsLongest (IsRun p) (drop at text) (take n (drop at text) ++ word)
further p text at n word front best = goes_on p (drop at text) n word front (subst (λ bs. IsLongest (IsRun p) bs word) (sym (drop-drop n at text)) best)
