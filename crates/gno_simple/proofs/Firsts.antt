-- The kinds that begin the phrases of simple statements.
use Rattle.std.proofs.Common.{◌≡◌, refl, ℕ, List, [], ◌∷◌}
use Rattle.gno_grammar.specs.Readers.{first}
use Rattle.gno_scan.specs.declared.kind.TokenKind.TheVariants as k
use Rattle.gno_rules.specs.Kinds.{numbers}
use Rattle.gno_rules.specs.Statements.{define_one}
use Rattle.gno_rules.specs.Table.{grammar}
use Rattle.gno_rules.specs.declared.statement.Kind.{Kind}
use Rattle.gno_rules.specs.declared.statement.Kind.TheVariants as kind
use Rattle.gno_rule_laws.proofs.TypeEnds.{shown}

pub first_define_one : (text : List ℕ) (place : Kind) → first (grammar text) (define_one text place) ≡ numbers (k.Define ∷ [])
unfolding shown
first_define_one text kind.Body = refl
first_define_one text kind.Header = refl
first_define_one text kind.Switch = refl
first_define_one text kind.For = refl
