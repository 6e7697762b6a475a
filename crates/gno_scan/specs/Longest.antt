-- The longest spelling that begins at a place.
use Rattle.std.specs.Prelude.{ℕ, ◌≡◌, ◌≤◌, ◌⊎◌, List, ◌++◌, length, take}

-- the word is a front of the text
abbrev pub Begins : List ℕ → List ℕ → Type 0
Begins word text = (rest : List ℕ) × (text ≡ word ++ rest)

-- of all spellings that the text begins with, this one is the longest
pub record IsLongest (IsSpelling : List ℕ → Type 0) (text word : List ℕ) : Type 0 where
  pub spelled : IsSpelling word
  pub begins : Begins word text
  pub longest : (other : List ℕ) → IsSpelling other → Begins other text → length other ≤ length word

-- the text begins with no spelling
abbrev pub BeginsWithNone : (List ℕ → Type 0) → List ℕ → Type 0
BeginsWithNone IsSpelling text = (word : List ℕ) → IsSpelling word → Begins word text → ⊥

-- the number of bytes of the longest spelling that the text begins with, or 0 where it begins with none
pub record Measures (IsSpelling : List ℕ → Type 0) (text : List ℕ) (count : ℕ) : Type 0 where
  pub within : count ≤ length text
  pub read : (count ≡ 0) ⊎ IsSpelling (take count text)
  pub longest : (word : List ℕ) → IsSpelling word → Begins word text → length word ≤ count
