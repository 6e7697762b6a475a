-- The items of lists take a token.
use Rattle.std.proofs.Common.{◌≡◌, refl, ℕ, ◌<◌, List, length}
use Rattle.gno_grammar.specs.Readers.{got}
use Rattle.gno_grammar.proofs.Plain.{easy}
use Rattle.gno_reader.specs.Scope.{Scope, reads}
use Rattle.gno_reader.proofs.Turns.{takes}
use Rattle.gno_rules.specs.Parts.{name, dotted}
use Rattle.gno_rules.specs.Types.{field, member}
use Rattle.gno_rules.specs.Table.{grammar}
use Rattle.gno_rule_laws.proofs.SignaturesSound.{sound_signature}
use Rattle.gno_rule_laws.proofs.TypeEnds.{shown_sets, shown_parts, shown_signatures, shown_types}
use Rattle.gno_scan.specs.declared.token.Token.{Token}
use Rattle.gno_tree.specs.declared.type_expr.Field.{Field}
use Rattle.gno_tree.specs.declared.type_expr.Member.{Member}

pub takes_field : (scope : Scope) (ts : List Token) (v : Field) (rest : List Token) → reads scope field ts ≡ got v rest → length rest < length ts
unfolding shown_sets shown_parts shown_signatures shown_types
takes_field scope ts v rest e = takes scope field (easy (grammar scope.text) (field scope.text) refl) refl ts v rest e

pub takes_member : (scope : Scope) (ts : List Token) (v : Member) (rest : List Token) → reads scope member ts ≡ got v rest → length rest < length ts
unfolding shown_sets shown_parts shown_signatures shown_types
takes_member scope ts v rest e = takes scope member (
  (
    easy (grammar scope.text) (name scope.text) refl,
    ((sound_signature scope.text, tt, refl), (((easy (grammar scope.text) (dotted scope.text) refl, tt, refl), tt, refl, refl), (tt, refl), refl), refl, refl),
    refl,
  ),
  refl,
) refl ts v rest e
