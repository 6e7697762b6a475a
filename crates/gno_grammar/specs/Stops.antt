-- Where a refusal stands that isn't the token's own: a form that is left out, or a rule that nests too deep.
use Rattle.std.specs.Prelude.{◌≡◌, ℕ, zero, suc, Bool, true, not, List, [], ◌++◌, ◌⊎◌}
use Rattle.gno_grammar.specs.declared.refusal.Refusal.{Refusal}
use Rattle.gno_grammar.specs.declared.refusal.Refusal.TheVariants.{TooDeep, LeftOut}
use Rattle.gno_grammar.specs.Phrases.{Phrase, nothing, token, both, either, optional, chain, until, follow, repeat, construct, left_out, Grammar}
use Rattle.gno_grammar.specs.Readings.{Reading, reads, nested}
use Rattle.gno_grammar.specs.Readers.{begins}

-- behind these tokens a refusal stands, at that rest
abbrev pub Cause : Type 0 → Type 1
Cause T = List T → Refusal → List T → Type 0

-- these tokens are read, whatever stands behind them
abbrev pub Word : {T A : Type 0} → Reading T A → List T → A → Type 0
Word {T = T} R p v = (y : List T) → R (p ++ y) v y

-- in the first part, or behind a word of it in the second
abbrev pub ThenCause : {T A : Type 0} → Reading T A → Cause T → (A → Cause T) → Cause T
ThenCause {T = T} {A = A} R E F p w rest = E p w rest ⊎ ((u q : List T) × (a : A) × (p ≡ u ++ q) × Word R u a × F a q w rest)

-- in a step, behind any number of others
pub data WalkCause {T A B : Type 0} (on : A → Bool) (S : A → Reading T B) (f : A → B → A) (F : A → Cause T) (w : Refusal) (rest : List T) : A → List T → Type 0 where
  here : {a : A} {p : List T} → on a ≡ true → F a p w rest → WalkCause on S f F w rest a p
  later : {a : A} {b : B} (p q : List T) → on a ≡ true → Word (S a) p b → WalkCause on S f F w rest (f a b) q → WalkCause on S f F w rest a (p ++ q)

module _ {T R : Type 0} {gives : R → Type 0} (grammar : Grammar T R gives) where
  -- in a phrase, where C reads the constructs in it, and J says where a refusal stands in them
  abbrev pub stands : ((k : R) → Reading T (gives k)) → ((k : R) → Cause T) → {A : Type 0} → Phrase T R gives A → Cause T
  stands C J (nothing x) p w rest = ⊥
  stands C J (token s) p w rest = ⊥
  stands C J (both f g h) p w rest = ThenCause (reads grammar C g) (stands C J g) (λ a. stands C J h) p w rest
  stands C J (either g h) p w rest = stands C J g p w rest ⊎ stands C J h p w rest
  stands C J (optional g) p w rest = stands C J g p w rest
  stands C J (chain m l u t f g h) p w rest = ThenCause (reads grammar C g) (stands C J g)
      (λ a p w rest. WalkCause t (λ a. reads grammar C (h a)) f (λ a. stands C J (h a)) w rest a p) p w rest
  stands C J (until m l t f g h) p w rest = ThenCause (reads grammar C g) (stands C J g)
      (λ a p w rest. WalkCause (λ a. not (t a)) (λ a. reads grammar C (h a)) f (λ a. stands C J (h a)) w rest a p) p w rest
  stands C J (follow m l u f g h) p w rest = ThenCause (reads grammar C g) (stands C J g) (λ a. stands C J (h a)) p w rest
  stands C J (repeat t f g h) p w rest = ThenCause (reads grammar C g) (stands C J g)
      (λ a p w rest. WalkCause t (λ a. reads grammar C h) f (λ a. stands C J h) w rest a p) p w rest
  stands C J (construct k) p w rest = J k p w rest
  stands C J (left_out n c s g) p w rest = ((p ≡ []) × (w ≡ LeftOut n c) × (begins grammar.code s rest ≡ true)) ⊎ stands C J g p w rest

  -- in a rule, where rules may nest this deep, itself counted: where none may, it is too deep as soon as it begins
  abbrev pub Stops : ℕ → (k : R) → Cause T
  Stops zero k p w rest = (p ≡ []) × (w ≡ TooDeep) × (begins grammar.code (grammar.first_of k) rest ≡ true)
  Stops (suc d) k p w rest = stands (nested grammar d) (Stops d) (grammar.rule k) p w rest
