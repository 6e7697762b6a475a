-- Three words.
use Rattle.std.proofs.Common.{◌≡◌, ◌≤◌, ◌<◌, List, [], ◌∷◌, arith, length, get_or}

pub three : {X : Type 0} (ws : List X) (a b c : X) → 3 ≤ length ws → length ws < 4 → a ≡ get_or ws 0 a → b ≡ get_or ws 1 b → c ≡ get_or ws 2 c → ws ≡ a ∷ b ∷ c ∷ []
three [] a b c l h ea eb ec = absurd (omega arith)
three (x ∷ []) a b c l h ea eb ec = absurd (omega arith)
three (x ∷ y ∷ []) a b c l h ea eb ec = absurd (omega arith)
three (x ∷ y ∷ z ∷ []) a b c l h ea eb ec = cc
three (x ∷ y ∷ z ∷ w ∷ ws) a b c l h ea eb ec = absurd (omega arith)

pub last_one : {X : Type 0} (a b c d : X) → a ∷ b ∷ c ∷ [] ≡ a ∷ b ∷ d ∷ [] → c ≡ d
last_one a b c d e = cc
