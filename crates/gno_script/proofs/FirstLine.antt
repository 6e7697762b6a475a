-- The first line of a text.
use Rattle.std.proofs.Common.{◌≡◌, ℕ, ◌+◌, ◌<◌, List, [], ◌∷◌, arith, ap, ◌∙◌, length, take, drop, get_or, add-one, zero, suc, eq-eqb, ne_eqb, cond, ◌-◌}
use Rattle.std.proofs.lemmas.List.{take_rest}
use Rattle.gno_script.specs.Lines.{onto, lines_of}

at_feed : (text : List ℕ) (at : ℕ) → ((k : ℕ) → k < at → get_or text k 0 ≡ 10 → ⊥) → at < length text → get_or text at 0 ≡ 10 → lines_of text ≡ take at text ∷ lines_of (drop (suc at) text)
at_feed [] at before within here = absurd (omega arith)
at_feed (b ∷ bs) zero before within here = ap (λ t. cond t ([] ∷ lines_of bs) (onto b (lines_of bs))) (eq-eqb b 10 here)
at_feed (b ∷ bs) (suc at) before within here =
    ap (λ t. cond t ([] ∷ lines_of bs) (onto b (lines_of bs))) (ne_eqb b 10 (before 0 (omega arith)))
    ∙ ap (onto b) (at_feed bs at (λ k h. before (suc k) (omega arith)) (omega arith) here)

pub lines-at_feed : (text : List ℕ) (at : ℕ) → ((k : ℕ) → k < at → get_or text k 0 ≡ 10 → ⊥) → at < length text → get_or text at 0 ≡ 10 →
    lines_of text ≡ take at text ∷ lines_of (take (length text - (at + 1)) (drop (at + 1) text))
lines-at_feed text at before within here = rw (take_rest text (at + 1), add-one) (at_feed text at before within here)

pub lines-last : (text : List ℕ) → ((k : ℕ) → k < length text → get_or text k 0 ≡ 10 → ⊥) → 0 < length text → lines_of text ≡ text ∷ []
lines-last [] none some = absurd (omega arith)
lines-last (b ∷ []) none some = ap (λ t. cond t ([] ∷ []) ((b ∷ []) ∷ [])) (ne_eqb b 10 (none 0 (omega arith)))
lines-last (b ∷ c ∷ bs) none some =
    ap (λ t. cond t ([] ∷ lines_of (c ∷ bs)) (onto b (lines_of (c ∷ bs)))) (ne_eqb b 10 (none 0 (omega arith)))
    ∙ ap (onto b) (lines-last (c ∷ bs) (λ k h. none (suc k) (omega arith)) (omega arith))

pub ruleset steps = (lines-at_feed, lines-last)
