-- A loop that puts the value of a function in the place of each item.
use Rattle.std.proofs.Common.{◌≡◌, sym, ap, ap₂, ◌∙◌, ℕ, suc, ◌+◌, ◌≤◌, ◌<◌, List, [], ◌∷◌, ◌++◌, map, length, get_or, set, take, drop, append_assoc, append-nil, arith}
use Rattle.std.proofs.lemmas.List.{take_more_set, drop_all, take_all}
use Rattle.std.proofs.Math.Seq.{drop-cons, drop-set-lt}

module _ {X : Type 0} (f : X → X) where
  -- the first i items are mapped, and the others are not yet
  pub mapped_more : (xs : List X) (i : ℕ) (x : X) → i < length xs → take i xs ++ map f (drop i xs) ≡ take (i + 1) (set xs i (f (get_or xs i x))) ++ map f (drop (i + 1) (set xs i (f (get_or xs i x))))
  mapped_more xs i x h =
      let y = f (get_or xs i x) in
      let next : suc i ≡ i + 1 = omega arith in
      ap (λ us. take i xs ++ map f us) (drop-cons xs i x h ∙ ap (λ n. get_or xs i x ∷ drop n xs) next)
      ∙ sym (append_assoc (take i xs) (y ∷ []) (map f (drop (i + 1) xs)))
      ∙ sym (ap₂ (λ us vs. us ++ map f vs) (take_more_set xs i y h) (drop-set-lt (i + 1) xs i y (omega arith)))

  pub mapped_all : (xs : List X) (i : ℕ) → length xs ≤ i → take i xs ++ map f (drop i xs) ≡ xs
  mapped_all xs i h = ap₂ (λ us vs. us ++ map f vs) (take_all i xs h) (drop_all i xs h) ∙ append-nil xs
