-- The words of the command line: `replay -store NAME`.
use Rattle.std.specs.Prelude.{ℕ, ◌≡◌, List, [], ◌∷◌, Option, Some, None, Bool, true, false, not, ◌==◌, if◌then◌else◌, codes}
use Rattle.std.specs.Str.{bytes_eq}

-- a table's name is not empty and does not begin with `-`
abbrev pub is_table_name : List ℕ → Bool
is_table_name [] = false
is_table_name (b ∷ bs) = not (b == 45)

pub record AreReplayWords (words : List (List ℕ)) (name : List ℕ) : Type 0 where
  pub spelled : words ≡ codes "replay" ∷ codes "-store" ∷ name ∷ []
  pub named : is_table_name name ≡ true

-- the number of the first word that cannot stand there, or one past the last word; none where the words are right
abbrev pub fault_after_name : List (List ℕ) → Option ℕ
fault_after_name [] = None
fault_after_name (word ∷ words) = Some 4

abbrev pub fault_after_store : List (List ℕ) → Option ℕ
fault_after_store [] = Some 3
fault_after_store (word ∷ words) = if is_table_name word then fault_after_name words else Some 3

abbrev pub fault_after_replay : List (List ℕ) → Option ℕ
fault_after_replay [] = Some 2
fault_after_replay (word ∷ words) = if bytes_eq word (codes "-store") then fault_after_store words else Some 2

abbrev pub usage_fault : List (List ℕ) → Option ℕ
usage_fault [] = Some 1
usage_fault (word ∷ words) = if bytes_eq word (codes "replay") then fault_after_replay words else Some 1
