-- What a reader has to answer: the one tree, or the first token that continues no tree, and why.
use Rattle.std.specs.Prelude.{◌≡◌, ℕ, ◌⊎◌, List, [], ◌∷◌, ◌++◌}
use Rattle.gno_grammar.specs.declared.refusal.Refusal.{Refusal}
use Rattle.gno_grammar.specs.declared.refusal.Refusal.TheVariants.{Unexpected, TooDeep, LeftOut}
use Rattle.gno_grammar.specs.Phrases.{Phrase, Grammar}
use Rattle.gno_grammar.specs.Readings.{reads, nested}
use Rattle.gno_grammar.specs.Readers.{Outcome, got, refused, why, why_at}
use Rattle.gno_grammar.specs.Stops.{stands, Stops}

module _ {T R : Type 0} {gives : R → Type 0} (grammar : Grammar T R gives) {A : Type 0} where
  -- all the tokens are this tree of the phrase, however deep it nests
  abbrev pub Is : Phrase T R gives A → List T → A → Type 0
  Is g ts v = (d : ℕ) × reads grammar (nested grammar d) g ts v []

  -- some tree begins with these tokens
  abbrev pub Viable : Phrase T R gives A → List T → Type 0
  Viable g p = (s : List T) × (v : A) × Is g (p ++ s) v

  -- no tree goes on with what comes next: a token, or the end
  abbrev pub EndsBefore : Phrase T R gives A → List T → List T → Type 0
  EndsBefore g p [] = (v : A) → Is g p v → ⊥
  EndsBefore g p (t ∷ rest) = Viable g (p ++ t ∷ []) → ⊥

  -- why the rest is refused, where d constructs may nest: its first token says so, or it shows a form that is left out, or begins a construct too deep
  abbrev pub Because : ℕ → Phrase T R gives A → List T → Refusal → List T → Type 0
  Because d g p w rest = (w ≡ why_at grammar rest) ⊎ stands grammar (nested grammar d) (Stops grammar d) g p w rest

  abbrev pub Answers : ℕ → Phrase T R gives A → List T → Outcome T A → Type 0
  Answers d g ts (got v rest) = (rest ≡ []) × Is g ts v × ((w : A) → Is g ts w → w ≡ v)
  Answers d g ts (refused Unexpected rest) = (p : List T) × (ts ≡ p ++ rest) × Viable g p × EndsBefore g p rest × Because d g p Unexpected rest
  Answers d g ts (refused (LeftOut n c) rest) = (p : List T) × (ts ≡ p ++ rest) × Viable g p × EndsBefore g p rest × Because d g p (LeftOut n c) rest
  Answers d g ts (refused TooDeep rest) = (p : List T) × (ts ≡ p ++ rest) × Viable g p × Because d g p TooDeep rest

  -- and a form that is left out, or a construct too deep, is what is answered, wherever one stands
  abbrev pub Exactly : ℕ → Phrase T R gives A → List T → Outcome T A → Type 0
  Exactly d g ts out = Answers d g ts out
      × ((p : List T) (w : Refusal) (rest : List T) → ts ≡ p ++ rest → stands grammar (nested grammar d) (Stops grammar d) g p w rest → out ≡ refused w rest)

  -- nothing may be left
  abbrev pub closed : Outcome T A → Outcome T A
  closed (got v []) = got v []
  closed (got v (t ∷ rest)) = refused (why grammar t) (t ∷ rest)
  closed (refused w rest) = refused w rest
