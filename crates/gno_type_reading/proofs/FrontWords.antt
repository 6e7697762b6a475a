-- The word at the front of a text.
use Rattle.std.proofs.Common.{◌≡◌, refl, ap, sym, ◌∙◌, true≢false, ℕ, suc, ◌+◌, Bool, true, false, not, cond, List, [], ◌∷◌, ◌++◌, length, take, drop, arith}
use Rattle.std.specs.List.{list_all, prefix_len}
use Rattle.std.proofs.lemmas.Bool.{and_parts}
use Rattle.std.proofs.Math.Seq.{take-append_seam, drop-append_seam}
use Rattle.gno_terms.proofs.Words.{stops}
use Rattle.gno_type_reading.specs.Turns.{in_word, word_at, behind_word}

none_counted : (b : Bool) (n : ℕ) → not b ≡ true → cond b (1 + n) 0 ≡ 0
none_counted true n e = absurd (true≢false (sym e))
none_counted false n e = refl

one_counted : (b : Bool) (m n : ℕ) → b ≡ true → m ≡ n → cond b (1 + m) 0 ≡ suc n
one_counted true m n a e = let t : 1 + m ≡ suc n = omega (arith, e) in t
one_counted false m n a e = absurd (true≢false (sym a))

module _ (p : ℕ → Bool) where
  stopped : (r : List ℕ) → stops p r ≡ true → prefix_len p r ≡ 0
  stopped [] e = refl
  stopped (b ∷ bs) e = none_counted (p b) (prefix_len p bs) e

  run : (w r : List ℕ) → list_all p w ≡ true → stops p r ≡ true → prefix_len p (w ++ r) ≡ length w
  run [] r a e = stopped r e
  run (b ∷ w) r a e = let t = and_parts (p b) (list_all p w) a in one_counted (p b) (prefix_len p (w ++ r)) (length w) t.0 (run w r t.1 e)

pub front_word : (w r : List ℕ) → list_all in_word w ≡ true → stops in_word r ≡ true → word_at (w ++ r) ≡ w
front_word w r a e = ap (λ n. take n (w ++ r)) (run in_word w r a e) ∙ take-append_seam w r

pub behind_front : (w r : List ℕ) → list_all in_word w ≡ true → stops in_word r ≡ true → behind_word (w ++ r) ≡ r
behind_front w r a e = ap (λ n. drop n (w ++ r)) (run in_word w r a e) ∙ drop-append_seam w r
