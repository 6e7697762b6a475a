-- What a call does to the bytes that a device tells. A device that tells nothing goes on telling nothing.
use Rattle.std.specs.Prelude.{ℕ, ◌≡◌, ◌<◌, ◌≤◌, List, [], ◌++◌, length, take, MatchResult, Result, Option, Some, None, ⊤}

-- what is told, with bytes behind it
abbrev pub with_more : Option (List ℕ) → List ℕ → Option (List ℕ)
with_more None bytes = None
with_more (Some held) bytes = Some (held ++ bytes)

-- what is told, with bytes before it
abbrev pub with_first : List ℕ → Option (List ℕ) → Option (List ℕ)
with_first bytes None = None
with_first bytes (Some left) = Some (bytes ++ left)

-- what is told gained the bytes at its end
abbrev pub Gained : Option (List ℕ) → Option (List ℕ) → List ℕ → Type 0
Gained old new bytes = new ≡ with_more old bytes

-- what is told lost the bytes at its front
abbrev pub Lost : Option (List ℕ) → Option (List ℕ) → List ℕ → Type 0
Lost old new bytes = old ≡ with_first bytes new

-- what is told lost some bytes at its front
abbrev pub LostSome : Option (List ℕ) → Option (List ℕ) → Type 0
LostSome old new = (bytes : List ℕ) × Lost old new bytes

-- nothing that is told is left
abbrev pub IsAtEnd : Option (List ℕ) → Type 0
IsAtEnd None = ⊤
IsAtEnd (Some left) = left ≡ []

-- a read into a buffer: the bytes at the buffer's front were the first that were left, none only at the end
abbrev pub Reads : {E : Type 0} → Option (List ℕ) → Option (List ℕ) → Result ℕ E → List ℕ → Type 0
Reads old new result buffer = MatchResult result
    (λ n. (n ≤ length buffer) × Lost old new (take n buffer) × (n ≡ 0 → 0 < length buffer → IsAtEnd new))
    (λ _. new ≡ old)

-- a write of a piece: some first bytes of the piece were added, maybe none
abbrev pub Writes : {E : Type 0} → Option (List ℕ) → Option (List ℕ) → Result ℕ E → List ℕ → Type 0
Writes old new result piece = MatchResult result
    (λ n. (n ≤ length piece) × Gained old new (take n piece))
    (λ _. new ≡ old)
