-- Where a reader reads: the text, and how deep constructs may nest in what it reads.
use Rattle.std.specs.Prelude.{ℕ, List}
use Rattle.gno_grammar.specs.Readers.{Outcome, run, level}
use Rattle.gno_scan.specs.declared.token.Token.{Token}
use Rattle.gno_rules.specs.Parts.{P, gives}
use Rattle.gno_rules.specs.Table.{grammar}
use Rattle.gno_rules.specs.declared.rule.Rule.{Rule}

pub record Scope : Type 0 where
  pub text : List ℕ
  pub depth : ℕ

-- what a phrase of the text answers at these tokens
abbrev pub reads : {A : Type 0} → Scope → (List ℕ → P A) → List Token → Outcome Token A
reads scope phrase ts = run (grammar scope.text) (level (grammar scope.text) scope.depth) (phrase scope.text) ts

-- what a construct answers at these tokens
abbrev pub nested : Scope → (k : Rule) → List Token → Outcome Token (gives k)
nested scope k ts = level (grammar scope.text) scope.depth k ts
