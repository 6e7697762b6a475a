-- What a grammar reads, as a relation.
use Rattle.std.specs.Prelude.{◌≡◌, ℕ, zero, suc, Bool, true, false, List, ◌∷◌, Option, Some, None, ◌⊎◌}
use Rattle.gno_grammar.specs.Sets.{member}
use Rattle.gno_grammar.specs.Phrases.{Phrase, nothing, token, both, either, optional, chain, until, follow, repeat, construct, left_out, Grammar}

-- from these tokens a value is read, down to that rest
abbrev pub Reading : Type 0 → Type 0 → Type 1
Reading T A = List T → A → List T → Type 0

abbrev pub Bind : {T A B : Type 0} → Reading T A → (A → Reading T B) → Reading T B
Bind {T = T} {A = A} R S ts v rest = (a : A) × (mid : List T) × R ts a mid × S a mid v rest

abbrev pub Map : {T A B : Type 0} → (A → B) → Reading T A → Reading T B
Map {A = A} f R ts v rest = (a : A) × R ts a rest × (v ≡ f a)

-- what is read, or nothing
abbrev pub Maybe : {T A : Type 0} → Reading T A → Reading T (Option A)
Maybe R ts None rest = rest ≡ ts
Maybe R ts (Some a) rest = R ts a rest

-- any number of steps, each from a value at some tokens
pub data Steps {T A B : Type 0} (p : A → Bool) (S : A → Reading T B) (f : A → B → A) : A → List T → A → List T → Type 0 where
  done : {a : A} {ts : List T} → Steps p S f a ts a ts
  step : {a : A} {ts : List T} {b : B} {mid : List T} {v : A} {rest : List T} → p a ≡ true → S a ts b mid → Steps p S f (f a b) mid v rest → Steps p S f a ts v rest

-- steps, each from a value at some tokens, up to the first value that ends them
pub data UntilSteps {T A B : Type 0} (p : A → Bool) (S : A → Reading T B) (f : A → B → A) : A → List T → A → List T → Type 0 where
  until_done : {a : A} {ts : List T} → p a ≡ true → UntilSteps p S f a ts a ts
  until_step : {a : A} {ts : List T} {b : B} {mid : List T} {v : A} {rest : List T} → p a ≡ false → S a ts b mid → UntilSteps p S f (f a b) mid v rest → UntilSteps p S f a ts v rest

module _ {T R : Type 0} {gives : R → Type 0} (grammar : Grammar T R gives) where
  -- what a phrase reads, where C reads the constructs in it
  abbrev pub reads : ((k : R) → Reading T (gives k)) → {A : Type 0} → Phrase T R gives A → Reading T A
  reads C (nothing x) ts v rest = (v ≡ x) × (rest ≡ ts)
  reads C (token s) ts v rest = (ts ≡ v ∷ rest) × (member (grammar.code v) s ≡ true)
  reads C (both f g h) ts v rest = Bind (reads C g) (λ a. Map (f a) (reads C h)) ts v rest
  reads C (either g h) ts v rest = reads C g ts v rest ⊎ reads C h ts v rest
  reads C (optional g) ts v rest = Maybe (reads C g) ts v rest
  reads C (chain m w u p f g h) ts v rest = Bind (reads C g) (Steps p (λ a. reads C (h a)) f) ts v rest
  reads C (until m w p f g h) ts v rest = Bind (reads C g) (UntilSteps p (λ a. reads C (h a)) f) ts v rest
  reads C (follow m w u f g h) ts v rest = Bind (reads C g) (λ a. Map (f a) (reads C (h a))) ts v rest
  reads C (repeat p f g h) ts v rest = Bind (reads C g) (Steps p (λ a. reads C h) f) ts v rest
  reads C (construct k) ts v rest = C k ts v rest
  reads C (left_out n c s g) ts v rest = reads C g ts v rest

  -- what a rule reads, where rules nest at most this deep, itself counted
  abbrev pub nested : ℕ → (k : R) → Reading T (gives k)
  nested zero k ts v rest = ⊥
  nested (suc d) k ts v rest = reads (nested d) (grammar.rule k) ts v rest
