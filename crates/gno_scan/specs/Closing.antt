-- Where the quote stands that closes a literal, read byte by byte.
use Rattle.std.specs.Prelude.{ℕ, ◌≡◌, ◌≢◌, ◌<◌, ◌+◌, List, [], ◌∷◌, ◌++◌, All, Option, Some, None, Bool, false, ◌==◌, if◌then◌else◌, length, take, drop}
use Rattle.std.specs.Str.{byte}
use Rattle.gno_scan.specs.Quoted.{HasNoEnd}

-- The place of the quote that closes a literal, if it comes on this line. The flag says that a backslash stands before the text.
abbrev pub closing : ℕ → ℕ → Bool → List ℕ → Option ℕ
closing quote at escaped [] = None
closing quote at escaped (b ∷ bs) =
    if b == 10 then None
    else if escaped then closing quote (at + 1) false bs
    else if b == quote then Some at
    else closing quote (at + 1) (b == 92) bs

-- the first byte of a value stands there
pub record StandsFirst (byte : ℕ) (text : List ℕ) (at : ℕ) : Type 0 where
  pub before : All (λ b. b ≢ byte) (take at text)
  pub parts : text ≡ take at text ++ byte ∷ drop (at + 1) text
  pub within : at < length text

-- the first `*/` stands there
pub record EndsFirst (text : List ℕ) (at : ℕ) : Type 0 where
  pub before : HasNoEnd (take at text ++ byte "*" ∷ [])
  pub parts : text ≡ take at text ++ byte "*" ∷ byte "/" ∷ drop (at + 2) text
  pub within : at + 1 < length text
