-- The turns of a loop that reads: each takes a token, and one that fails is what the loop answers.
use Rattle.std.proofs.Common.{◌≡◌, refl, sym, ap, subst, ℕ, suc, ◌<◌, Bool, true, false, ◌&&◌, List, [], ◌∷◌, length}
use Rattle.gno_grammar.specs.Phrases.{repeat, chain}
use Rattle.gno_grammar.specs.Readers.{Outcome, got, and_then, map, turns, begins, first, null, run}
use Rattle.gno_grammar.specs.Deciding.{Sound}
use Rattle.gno_grammar.proofs.Loops.{Going, going, shorter, go_refused, turn_refused, UntilGoing, until_turn_refused}
use Rattle.gno_scan.specs.declared.token.Token.{Token}
use Rattle.gno_reader.specs.Answers.{Fails, sees}
use Rattle.gno_reader.specs.Scope.{Scope, reads}
use Rattle.gno_reader.specs.declared.cursor.Failure.{Failure}
use Rattle.gno_reader.specs.declared.cursor.Failure.TheVariants.{NoMemory, Refused}
use Rattle.gno_rules.specs.Kinds.{code}
use Rattle.gno_grammar.proofs.Plain.{easy}
use Rattle.gno_rules.specs.Parts.{P, a, to, past, name}
use Rattle.gno_rule_laws.proofs.TypeEnds.{shown_sets}
use Rattle.gno_scan.specs.declared.kind.TokenKind.TheVariants as k
use Rattle.gno_tree.specs.declared.word.Name.{Name}
use Rattle.gno_rules.specs.Table.{grammar}
use Rattle.gno_rule_laws.proofs.Sound.{sounds, words}

-- a phrase of which no word is empty takes a token
pub takes : {A : Type 0} (scope : Scope) (phrase : List ℕ → P A) → Sound (grammar scope.text) (phrase scope.text) → null (grammar scope.text) (phrase scope.text) ≡ false
    → (ts : List Token) (v : A) (rest : List Token) → reads scope phrase ts ≡ got v rest → length rest < length ts
takes scope phrase s n ts v rest e = shorter (grammar scope.text) (sounds scope.text) (words scope.text) scope.depth (phrase scope.text) s n ts v rest e

module _ {A B : Type 0} (p : A → Bool) (s : A → List ℕ) (r : A → List Token → Outcome Token B) (f : A → B → A) where
  -- a part that fails is what the loop answers
  pub step_fails : (out : Outcome Token A) (a : A) (ts : List Token) (failure : Failure) (us : List Token) → (p a && begins code (s a) ts) ≡ true → Fails (r a ts) failure us
      → Going code p s r f out a ts → Fails out failure us
  step_fails out a ts NoMemory us t h g = tt
  step_fails out a ts (Refused w) us t h g = go_refused code p s r f out a ts w us t h g

  -- the same of a turn that hands back the new value
  pub turn_fails : (out : Outcome Token A) (a : A) (ts : List Token) (failure : Failure) (us : List Token) → (p a && begins code (s a) ts) ≡ true → Fails (map (f a) (r a) ts) failure us
      → Going code p s r f out a ts → Fails out failure us
  turn_fails out a ts NoMemory us t h g = tt
  turn_fails out a ts (Refused w) us t h g = turn_refused code p s r f out a ts w us t h g

-- a further name: a comma, and a name
abbrev pub further_name : List ℕ → P Name
further_name text = past (a k.Comma) (name text)

pub takes_further_name : (scope : Scope) (ts : List Token) (v : Name) (rest : List Token) → reads scope further_name ts ≡ got v rest → length rest < length ts
unfolding shown_sets name
takes_further_name scope ts v rest e = takes scope further_name (easy (grammar scope.text) (further_name scope.text) refl) refl ts v rest e

pub sees_further_name : (scope : Scope) (ts : List Token) → begins code (first (grammar scope.text) (further_name scope.text)) ts ≡ sees (k.Comma ∷ []) ts
unfolding shown_sets sees
sees_further_name scope ts = refl

-- what is read, and a function of it
pub read_to : {A B : Type 0} (scope : Scope) (f : A → B) (g : List ℕ → P A) (ts : List Token) (v : A) (mid : List Token) → reads scope g ts ≡ got v mid → reads scope (λ text. to f (g text)) ts ≡ got (f v) mid
unfolding run
read_to scope f g ts v mid e = ap (λ o. and_then o (λ a rest. got (f a) rest)) e

-- the first part of a repetition was read, and its loop begins
pub repeat_going : {A B : Type 0} (scope : Scope) (p : A → Bool) (f : A → B → A) (g : List ℕ → P A) (h : List ℕ → P B) (ts : List Token) (a : A) (mid : List Token) → reads scope g ts ≡ got a mid
    → Going code p (λ _. first (grammar scope.text) (h scope.text)) (λ _. reads scope h) f (reads scope (λ text. repeat p f (g text) (h text)) ts) a mid
unfolding run
repeat_going {A = A} scope p f g h ts a mid e =
    subst (λ (out : Outcome Token A). Going code p (λ _. first (grammar scope.text) (h scope.text)) (λ _. reads scope h) f out a mid)
    (sym (ap (λ o. and_then o (λ a mid. turns code p (λ _. first (grammar scope.text) (h scope.text)) (λ _. reads scope h) f (suc (length mid)) a mid)) e))
    (going code p (λ _. first (grammar scope.text) (h scope.text)) (λ _. reads scope h) f a mid)

-- the same of a chain
pub chain_going : {A B : Type 0} (scope : Scope) (m : A → List ℕ) (w u : List ℕ) (p : A → Bool) (f : A → B → A) (g : List ℕ → P A) (h : List ℕ → A → P B) (ts : List Token) (a : A) (mid : List Token) → reads scope g ts ≡ got a mid
    → Going code p (λ a. first (grammar scope.text) (h scope.text a)) (λ a. reads scope (λ text. h text a)) f (reads scope (λ text. chain m w u p f (g text) (h text)) ts) a mid
unfolding run
chain_going {A = A} scope m w u p f g h ts a mid e =
    subst (λ (out : Outcome Token A). Going code p (λ a. first (grammar scope.text) (h scope.text a)) (λ a. reads scope (λ text. h text a)) f out a mid)
    (sym (ap (λ o. and_then o (λ a mid. turns code p (λ a. first (grammar scope.text) (h scope.text a)) (λ a. reads scope (λ text. h text a)) f (suc (length mid)) a mid)) e))
    (going code p (λ a. first (grammar scope.text) (h scope.text a)) (λ a. reads scope (λ text. h text a)) f a mid)
