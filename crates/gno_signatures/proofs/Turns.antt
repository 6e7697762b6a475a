-- The phrases that are repeated take a token.
use Rattle.std.proofs.Common.{◌≡◌, refl, ℕ, ◌<◌, Bool, List, [], length}
use Rattle.gno_grammar.specs.Readers.{got}
use Rattle.gno_reader.specs.Scope.{Scope, reads}
use Rattle.gno_reader.proofs.Turns.{takes}
use Rattle.gno_rules.specs.Parts.{P, a, past}
use Rattle.gno_rules.specs.Signatures.{next_entry}
use Rattle.gno_rules.specs.declared.parameters.Entry.{Entry}
use Rattle.gno_rules.specs.declared.parameters.ListState.{ListState}
use Rattle.gno_rule_laws.proofs.SignaturesSound.{sound_parameters}
use Rattle.gno_rule_laws.proofs.TypeEnds.{shown_sets, shown_parts, shown_signatures}
use Rattle.gno_scan.specs.declared.kind.TokenKind.TheVariants as k
use Rattle.gno_scan.specs.declared.token.Token.{Token}

-- a comma, and an entry behind it
abbrev pub next : Bool → ListState → List ℕ → P Entry
next variadics state text = past (a k.Comma) (next_entry text variadics state)

pub takes_next : (variadics : Bool) (state : ListState) (scope : Scope) (ts : List Token) (v : Entry) (rest : List Token) → reads scope (next variadics state) ts ≡ got v rest → length rest < length ts
unfolding shown_sets shown_parts shown_signatures
takes_next variadics state scope =
    takes scope (next variadics state) ((sound_parameters scope.text variadics).1.1.0.0.1 (record { known = []; names = []; state = state })) refl
