-- A value that is built of what was read, and a part that fails.
use Rattle.std.proofs.Common.{◌≡◌, ap, ◌∙◌, sym, ℕ, List}
use Rattle.gno_grammar.specs.Readers.{Outcome, got, and_then, run}
use Rattle.gno_scan.specs.declared.token.Token.{Token}
use Rattle.gno_reader.specs.Answers.{Fails}
use Rattle.gno_reader.specs.Scope.{Scope, reads}
use Rattle.gno_reader.specs.declared.cursor.Failure.{Failure}
use Rattle.gno_reader.specs.declared.cursor.Failure.TheVariants.{NoMemory, Refused}
use Rattle.gno_rules.specs.Parts.{P, given}

-- a value is built of what was read
pub built : {B C : Type 0} (f : B → C) (o : Outcome Token B) (b : B) (mid : List Token) (v : C) → o ≡ got b mid → v ≡ f b → and_then o (λ b rest. got (f b) rest) ≡ got v mid
built {C = C} f o b mid v e is = ap {B = Outcome Token C} (λ o. and_then o (λ b rest. got (f b) rest)) e ∙ ap {B = Outcome Token C} (λ v. got v mid) (sym is)

-- a part that fails first is what the whole answers
pub fails_first : {A B : Type 0} (o : Outcome Token A) (q : A → List Token → Outcome Token B) (failure : Failure) (us : List Token) → Fails o failure us → Fails (and_then o q) failure us
fails_first o q NoMemory us h = tt
fails_first {B = B} o q (Refused w) us h = ap {B = Outcome Token B} (λ o. and_then o q) h

pub fails_same : {A : Type 0} (o o' : Outcome Token A) (failure : Failure) (us : List Token) → o ≡ o' → Fails o' failure us → Fails o failure us
fails_same o o' NoMemory us e h = tt
fails_same o o' (Refused w) us e h = e ∙ h

-- what is given, where the value is read
pub read_given : {A B : Type 0} (scope : Scope) (m : B → List ℕ) (w : List ℕ) (f : A → B) (g : List ℕ → P A) (ts : List Token) (v : A) (mid : List Token) → reads scope g ts ≡ got v mid
    → reads scope (λ text. given m w f (g text)) ts ≡ got (f v) mid
unfolding run
read_given {B = B} scope m w f g ts v mid e = ap {B = Outcome Token B} (λ o. and_then o (λ a rest. got (f a) rest)) e
