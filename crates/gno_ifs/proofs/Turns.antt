-- The turns of the loop that reads the arms of an `if` each take a token.
use Rattle.std.proofs.Common.{◌≡◌, refl, ◌<◌, List, length}
use Rattle.gno_grammar.specs.Readers.{got}
use Rattle.gno_scan.specs.declared.token.Token.{Token}
use Rattle.gno_reader.specs.Scope.{Scope, reads}
use Rattle.gno_reader.proofs.Turns.{takes}
use Rattle.gno_rules.specs.Statements.{Alternative, alternative}
use Rattle.gno_rule_laws.proofs.HeadersSound.{sound_if_statement}
use Rattle.gno_rule_laws.proofs.TypeEnds.{shown}

pub takes_alternative : (scope : Scope) (ts : List Token) (v : Alternative) (rest : List Token) → reads scope alternative ts ≡ got v rest → length rest < length ts
unfolding shown
takes_alternative scope ts v rest e = takes scope alternative (sound_if_statement scope.text).0.1 refl ts v rest e
