-- The turns of the loops that read statements each take a token.
use Rattle.std.proofs.Common.{◌≡◌, refl, ◌<◌, Bool, List, length, Option}
use Rattle.gno_grammar.specs.Phrases.{optional}
use Rattle.gno_grammar.specs.Readers.{got}
use Rattle.gno_scan.specs.declared.kind.TokenKind.TheVariants as k
use Rattle.gno_scan.specs.declared.token.Token.{Token}
use Rattle.gno_tree.specs.declared.statement.Case.{Case}
use Rattle.gno_tree.specs.declared.statement.Statement.{Statement}
use Rattle.gno_reader.specs.Scope.{Scope, reads}
use Rattle.gno_reader.proofs.Turns.{takes}
use Rattle.gno_rules.specs.Parts.{a, past}
use Rattle.gno_rules.specs.Statements.{unlabeled, next_statement, one_case}
use Rattle.gno_rules.specs.declared.statement.Read.{Read}
use Rattle.gno_rule_laws.proofs.StatementsSound.{sound_block, sound_switch_body}
use Rattle.gno_rule_laws.proofs.TypeEnds.{shown}

pub takes_next_statement : (scope : Scope) (ts : List Token) (v : Token × Option Statement) (rest : List Token) → reads scope next_statement ts ≡ got v rest → length rest < length ts
unfolding shown
takes_next_statement scope ts v rest e = takes scope next_statement (sound_block scope.text).1.0.1 refl ts v rest e

pub takes_behind_colon : (scope : Scope) (ts : List Token) (v : Option Read) (rest : List Token)
    → reads scope (λ text. past (a k.Colon) (optional (unlabeled text))) ts ≡ got v rest → length rest < length ts
unfolding shown
takes_behind_colon scope ts v rest e = takes scope (λ text. past (a k.Colon) (optional (unlabeled text))) (sound_block scope.text).1.0.1.1.0.0.1 refl ts v rest e

pub takes_one_case : (scope : Scope) (ts : List Token) (v : Case × Bool) (rest : List Token) → reads scope one_case ts ≡ got v rest → length rest < length ts
unfolding shown
takes_one_case scope ts v rest e = takes scope one_case (sound_switch_body scope.text).1.0.0.1 refl ts v rest e
