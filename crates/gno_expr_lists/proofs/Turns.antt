-- The turns of the loops: each takes a token.
use Rattle.std.proofs.Common.{◌≡◌, refl, ◌<◌, List, length}
use Rattle.gno_grammar.specs.Readers.{got}
use Rattle.gno_scan.specs.declared.kind.TokenKind.TheVariants as k
use Rattle.gno_scan.specs.declared.token.Token.{Token}
use Rattle.gno_tree.specs.declared.expr.Expr.{Expr}
use Rattle.gno_reader.specs.Scope.{Scope, reads}
use Rattle.gno_reader.proofs.Turns.{takes}
use Rattle.gno_rules.specs.Parts.{a, to, past}
use Rattle.gno_rules.specs.Shapes.{expr_of, within_place}
use Rattle.gno_rules.specs.Expressions.{expr}
use Rattle.gno_rules.specs.declared.expression.Found.{Found}
use Rattle.gno_rules.specs.declared.expression.Place.{Place}
use Rattle.gno_rule_laws.proofs.EachCase.{sound_to}
use Rattle.gno_rule_laws.proofs.ListsSound.{shown_lists}
use Rattle.gno_rule_laws.proofs.OperationsSound.{sound_expr}

pub takes_further_expr : (scope : Scope) (place : Place) (ts : List Token) (v : Found) (rest : List Token)
    → reads scope (λ text. past (a k.Comma) (expr text (within_place place))) ts ≡ got v rest → length rest < length ts
unfolding shown_lists
takes_further_expr scope place ts v rest e = takes scope (λ text. past (a k.Comma) (expr text (within_place place))) (refl, sound_expr scope.text (within_place place), refl) refl ts v rest e

pub takes_further_value : (scope : Scope) (place : Place) (ts : List Token) (v : Expr) (rest : List Token)
    → reads scope (λ text. past (a k.Comma) (to expr_of (expr text (within_place place)))) ts ≡ got v rest → length rest < length ts
unfolding shown_lists
takes_further_value scope place ts v rest e = takes scope (λ text. past (a k.Comma) (to expr_of (expr text (within_place place))))
    (refl, sound_to scope.text expr_of (expr scope.text (within_place place)) (sound_expr scope.text (within_place place)), refl) refl ts v rest e
