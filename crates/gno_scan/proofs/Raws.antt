-- A raw string ends at the first back quote behind its own.
use Rattle.std.proofs.Common.{◌≡◌, ◌≢◌, ◌∙◌, ◌+◌, ℕ, List, [], ◌∷◌, ◌++◌, append_assoc, ap, sym, subst, arith, length, take, drop, length-append, length-take}
use Rattle.std.specs.Prelude.{All}
use Rattle.gno_scan.specs.Closing.{StandsFirst}
use Rattle.gno_scan.specs.Longest.{Begins, BeginsWithNone, IsLongest}
use Rattle.gno_scan.specs.Quoted.{IsRaw}
use Rattle.gno_scan.proofs.Fronts.{first_is, not_nowhere, take_front}

-- a raw string that a text begins with, and what stands behind it
pub raw_parts : (text word : List ℕ) → IsRaw word → Begins word text →
    (inside rest : List ℕ) × (drop 1 text ≡ inside ++ 96 ∷ rest) × All (λ b. b ≢ 96) inside × (length word ≡ length inside + 2)
raw_parts text word raw begins =
    let all : text ≡ 96 ∷ (raw.inside ++ 96 ∷ begins.0) = begins.1 ∙ ap (λ w. w ++ begins.0) raw.spelled ∙ ap (λ l. 96 ∷ l) (append_assoc raw.inside (96 ∷ []) begins.0) in
    let size : length word ≡ length raw.inside + 2 = ap length raw.spelled ∙ omega (arith, length-append raw.inside (96 ∷ [])) in
    (raw.inside, begins.0, ap (drop 1) all, raw.no_quote, size)

pub longest_raw : (text : List ℕ) (n : ℕ) → text ≡ 96 ∷ drop 1 text → StandsFirst 96 (drop 1 text) n → IsLongest IsRaw text (take (n + 2) text)
longest_raw text n starts first =
    let inside = take n (drop 1 text) in
    let rest = drop (n + 1) (drop 1 text) in
    let word = 96 ∷ (inside ++ 96 ∷ []) in
    let all : text ≡ word ++ rest = starts ∙ ap (λ l. 96 ∷ l) (first.parts ∙ sym (append_assoc inside (96 ∷ []) rest)) in
    let size : length word ≡ n + 2 = omega (arith, length-append inside (96 ∷ []), length-take n (drop 1 text), first.within) in
    let front : take (n + 2) text ≡ word = rw (sym size) (ap (take (length word)) all ∙ take_front word rest) in
    record {
      spelled = record { inside = inside; spelled = front; no_quote = first.before };
      begins = (rest, all ∙ ap (λ w. w ++ rest) (sym front));
      longest = λ other raw begins.
          let q = raw_parts text other raw begins in
          let same : n ≡ length q.0 = first_is 96 (drop 1 text) q.0 q.1 n first q.3 q.2 in
          rw front (omega (arith, q.4, same, size));
    }

pub no_raw : (text : List ℕ) → All (λ b. b ≢ 96) (drop 1 text) → BeginsWithNone IsRaw text
no_raw text none word raw begins =
    let q = raw_parts text word raw begins in
    not_nowhere 96 q.0 q.1 (subst (λ (t : List ℕ). All (λ b. b ≢ 96) t) q.2 none)
