-- Literals between quotes, and comments, as far as where they end. Go specification, "Rune literals", "String literals" and "Comments".
use Rattle.std.specs.Prelude.{ℕ, ◌≡◌, ◌≢◌, List, [], ◌∷◌, ◌++◌, All}
use Rattle.std.specs.Str.{byte}

-- What stands between two quotes on one line: no line feed, and behind a backslash any byte but a line feed, a quote too.
pub data IsInside (quote : ℕ) : List ℕ → Type 0 where
  nothing : IsInside quote []
  plain : (b : ℕ) (rest : List ℕ) → b ≢ quote → b ≢ byte "\\" → b ≢ byte "\n" → IsInside quote rest → IsInside quote (b ∷ rest)
  escaped : (b : ℕ) (rest : List ℕ) → b ≢ byte "\n" → IsInside quote rest → IsInside quote (byte "\\" ∷ b ∷ rest)

-- a rune literal or an interpreted string, whatever its escapes
pub record IsQuoted (quote : ℕ) (word : List ℕ) : Type 0 where
  pub inside : List ℕ
  pub spelled : word ≡ quote ∷ (inside ++ quote ∷ [])
  pub one_line : IsInside quote inside

-- a raw string: any bytes between two back quotes
pub record IsRaw (word : List ℕ) : Type 0 where
  pub inside : List ℕ
  pub spelled : word ≡ byte "`" ∷ (inside ++ byte "`" ∷ [])
  pub no_quote : All (λ b. b ≢ byte "`") inside

-- a comment up to the end of its line, which is not part of it
pub record IsLineComment (word : List ℕ) : Type 0 where
  pub inside : List ℕ
  pub spelled : word ≡ byte "/" ∷ byte "/" ∷ inside
  pub one_line : All (λ b. b ≢ byte "\n") inside

-- no `*/` stands in the text
abbrev pub HasNoEnd : List ℕ → Type 0
HasNoEnd text = (front rest : List ℕ) → text ≡ front ++ byte "*" ∷ byte "/" ∷ rest → ⊥

-- A general comment ends at the first `*/` behind its `/*`: no other one stands before the `/` that ends it.
pub record IsGeneralComment (word : List ℕ) : Type 0 where
  pub inside : List ℕ
  pub spelled : word ≡ byte "/" ∷ byte "*" ∷ (inside ++ byte "*" ∷ byte "/" ∷ [])
  pub first_end : HasNoEnd (inside ++ byte "*" ∷ [])
