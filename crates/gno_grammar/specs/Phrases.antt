-- The phrases of a grammar, and the grammar: its rules, and what one token in hand is judged by.
use Rattle.std.specs.Prelude.{ℕ, Bool, List, Option}
use Rattle.gno_grammar.specs.declared.refusal.LeftOut.{LeftOut as Form}

-- T are the tokens, R the rules, and `gives` what each rule gives
pub data Phrase (T R : Type 0) (gives : R → Type 0) : Type 0 → Type 1 where
  -- no token at all
  nothing : {A : Type 0} → A → Phrase T R gives A
  -- one token of these kinds
  token : List ℕ → Phrase T R gives T
  -- one phrase, then the other
  both : {A B C : Type 0} → (A → B → C) → Phrase T R gives A → Phrase T R gives B → Phrase T R gives C
  -- one of two phrases
  either : {A : Type 0} → Phrase T R gives A → Phrase T R gives A → Phrase T R gives A
  -- one phrase, or no token at all
  optional : {A : Type 0} → Phrase T R gives A → Phrase T R gives (Option A)
  -- one phrase, then any number of others, grouped to the left; whether more may come, and which, depends on what was read so far.
  -- The lists are the kinds that can go on at each value, those at any value, and those that begin one of the others.
  chain : {A B : Type 0} → (A → List ℕ) → List ℕ → List ℕ → (A → Bool) → (A → B → A) → Phrase T R gives A → (A → Phrase T R gives B) → Phrase T R gives A
  -- one phrase, then others, each required, grouped to the left, until the value is one of those that end it.
  -- The lists are the kinds that can go on at each value, and those at any value.
  until : {A B : Type 0} → (A → List ℕ) → List ℕ → (A → Bool) → (A → B → A) → Phrase T R gives A → (A → Phrase T R gives B) → Phrase T R gives A
  -- one phrase, then another that depends on what was read.
  -- The lists are the kinds that can go on at each value, those at any value, and those that begin the other.
  follow : {A B C : Type 0} → (C → List ℕ) → List ℕ → List ℕ → (A → B → C) → Phrase T R gives A → (A → Phrase T R gives B) → Phrase T R gives C
  -- one phrase, then any number of others that are all alike, grouped to the left; whether more may come depends on what was read so far
  repeat : {A B : Type 0} → (A → Bool) → (A → B → A) → Phrase T R gives A → Phrase T R gives B → Phrase T R gives A
  -- what a rule reads, one level deeper
  construct : (k : R) → Phrase T R gives (gives k)
  -- a phrase in whose place these tokens show a form that is left out, which began so many tokens before
  left_out : {A : Type 0} → Form → ℕ → List ℕ → Phrase T R gives A → Phrase T R gives A

pub record Grammar (T R : Type 0) (gives : R → Type 0) : Type 1 where
  -- the kind of a token
  pub code : T → ℕ
  -- a token of each kind
  pub token_of : ℕ → T
  -- the form that a token begins wherever it stands, if it is left out
  pub form : T → Option Form
  pub rule : (k : R) → Phrase T R gives (gives k)
  -- the kinds that begin a rule's words
  pub first_of : R → List ℕ
  -- the kinds that can go on where a word of the rule could end, at each value and at any
  pub more_of : (k : R) → gives k → List ℕ
  pub most_of : R → List ℕ
