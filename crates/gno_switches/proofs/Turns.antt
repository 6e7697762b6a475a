-- The turns of the loop that reads a guard: each takes a token, and one that fails is what the loop answers.
use Rattle.std.proofs.Common.{◌≡◌, refl, sym, ap, subst, ℕ, suc, ◌<◌, Bool, true, not, List, length}
use Rattle.gno_grammar.specs.Phrases.{until}
use Rattle.gno_grammar.specs.Readers.{Outcome, got, and_then, map, until_turns, run}
use Rattle.gno_grammar.proofs.Loops.{UntilGoing, until_going, until_turn_refused}
use Rattle.gno_scan.specs.declared.token.Token.{Token}
use Rattle.gno_reader.specs.Answers.{Fails}
use Rattle.gno_reader.specs.Scope.{Scope, reads}
use Rattle.gno_reader.specs.declared.cursor.Failure.{Failure}
use Rattle.gno_reader.specs.declared.cursor.Failure.TheVariants.{NoMemory, Refused}
use Rattle.gno_reader.proofs.Turns.{takes}
use Rattle.gno_rules.specs.Parts.{P}
use Rattle.gno_rules.specs.Expressions.{suffix}
use Rattle.gno_rules.specs.declared.expression.Place.TheVariants.{Guard}
use Rattle.gno_rules.specs.declared.expression.Shape.{Shape}
use Rattle.gno_rules.specs.declared.expression.Suffix.{Suffix}
use Rattle.gno_rule_laws.proofs.OperandsSound.{sound_suffix}
use Rattle.gno_rule_laws.proofs.TypeEnds.{shown}

pub takes_suffix : (scope : Scope) (shape : Shape) (ts : List Token) (v : Suffix) (rest : List Token) → reads scope (λ text. suffix text Guard shape) ts ≡ got v rest → length rest < length ts
unfolding shown
takes_suffix scope shape ts v rest e = takes scope (λ text. suffix text Guard shape) (sound_suffix scope.text Guard shape) refl ts v rest e

-- a turn that fails is what a loop answers that goes on until the value ends it
pub until_turn_fails : {A B : Type 0} (p : A → Bool) (r : A → List Token → Outcome Token B) (f : A → B → A) (out : Outcome Token A) (a : A) (ts : List Token) (failure : Failure) (us : List Token)
    → not (p a) ≡ true → Fails (map (f a) (r a) ts) failure us → UntilGoing p r f out a ts → Fails out failure us
until_turn_fails p r f out a ts NoMemory us t h g = tt
until_turn_fails p r f out a ts (Refused w) us t h g = until_turn_refused p r f out a ts w us t h g

-- the first part of such a loop was read, and its turns begin
pub until_starts : {A B : Type 0} (scope : Scope) (m : A → List ℕ) (w : List ℕ) (p : A → Bool) (f : A → B → A) (g : List ℕ → P A) (h : List ℕ → A → P B) (ts : List Token) (a : A) (mid : List Token)
    → reads scope g ts ≡ got a mid → UntilGoing p (λ a. reads scope (λ text. h text a)) f (reads scope (λ text. until m w p f (g text) (h text)) ts) a mid
unfolding run
until_starts {A = A} scope m w p f g h ts a mid e =
    subst (λ (out : Outcome Token A). UntilGoing p (λ a. reads scope (λ text. h text a)) f out a mid)
    (sym (ap (λ o. and_then o (λ a mid. until_turns p (λ a. reads scope (λ text. h text a)) f (suc (length mid)) a mid)) e))
    (until_going p (λ a. reads scope (λ text. h text a)) f a mid)
