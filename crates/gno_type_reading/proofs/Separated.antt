-- Texts with a separator between them, before a closing byte: what stands behind the first.
use Rattle.std.proofs.Common.{◌≡◌, refl, ap, ◌∙◌, ℕ, List, [], ◌∷◌, ◌++◌, append_assoc}
use Rattle.gno_terms.specs.Texts.{joined}

module _ (mark closer : ℕ) where
  abbrev pub behind : List (List ℕ) → List ℕ → List ℕ
  behind [] r = closer ∷ r
  behind (x ∷ xs) r = mark ∷ 32 ∷ (x ++ behind xs r)

  pub joined_behind : (x : List ℕ) (xs : List (List ℕ)) (r : List ℕ) → joined (mark ∷ 32 ∷ []) (x ∷ xs) ++ (closer ∷ r) ≡ x ++ behind xs r
  joined_behind x [] r = refl
  joined_behind x (y ∷ ys) r =
      append_assoc x (mark ∷ 32 ∷ joined (mark ∷ 32 ∷ []) (y ∷ ys)) (closer ∷ r)
      ∙ ap (λ l. x ++ (mark ∷ 32 ∷ l)) (joined_behind y ys r)
