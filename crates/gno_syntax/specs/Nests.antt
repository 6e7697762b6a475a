-- A function value that reads the constructs that nest.
use Rattle.std.specs.Prelude.{◌≡◌, ℕ, List, Result}
use Rattle.std.specs.declared.alloc.Global.{Global}
use denote.Ref.{Bor, MutBor}
use Rattle.gno_scan.specs.declared.token.Token.{Token}
use Rattle.gno_reader.specs.declared.cursor.Failure.{Failure}
use Rattle.gno_reader.specs.declared.reader.Construct.{Construct}
use Rattle.gno_reader.specs.Constructs.{GivesConstruct}
use Rattle.gno_reader.specs.Scope.{Scope, nested}
use Rattle.gno_rules.specs.declared.rule.Rule.{Rule}

-- a function that may be called, and reads the constructs of a text that nest so deep
pub record Nests (scope : Scope) (pre : Global → Bor (List ℕ) → MutBor (List Token) → ℕ → Rule → Type 0)
    (post : Global → Bor (List ℕ) → MutBor (List Token) → ℕ → Rule → Result Construct Failure → MutBor (List Token) → Type 0) : Type 0 where
  pub callable : (alloc : Global) (text : Bor (List ℕ)) (old : MutBor (List Token)) (k : Rule) → text.now ≡ scope.text → pre alloc text old scope.depth k
  pub answers : (alloc : Global) (text : Bor (List ℕ)) (old new : MutBor (List Token)) (k : Rule) (x : Result Construct Failure) → text.now ≡ scope.text → post alloc text old scope.depth k x new
      → GivesConstruct k (nested scope k old.now) x new.now
