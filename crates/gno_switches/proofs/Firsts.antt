-- The kinds that begin the phrases of the header of a `switch`.
use Rattle.std.proofs.Common.{◌≡◌, refl, ℕ, ◌||◌, List, [], ◌∷◌}
use Rattle.gno_grammar.specs.Readers.{first, begins}
use Rattle.gno_scan.specs.declared.kind.TokenKind.TheVariants as k
use Rattle.gno_scan.specs.declared.token.Token.{Token}
use Rattle.gno_rules.specs.Kinds.{numbers, code}
use Rattle.gno_rules.specs.Shapes.{EXPRESSION}
use Rattle.gno_rules.specs.Statements.{tag, switch_head}
use Rattle.gno_rules.specs.Table.{grammar}
use Rattle.gno_rule_laws.proofs.TypeEnds.{shown}
use Rattle.gno_reader.proofs.FirstKinds.{either_begins, same_begins}
use Rattle.gno_switches.specs.Beginnings.{SWITCH_HEADER}

pub switch_header_begins : (ts : List Token) → begins code SWITCH_HEADER ts ≡ (begins code (numbers (k.Semicolon ∷ [])) ts || begins code EXPRESSION ts)
switch_header_begins ts = either_begins (numbers (k.Semicolon ∷ [])) EXPRESSION ts

pub tag_begins : (text : List ℕ) (ts : List Token) → begins code (first (grammar text) (tag text)) ts ≡ begins code EXPRESSION ts
unfolding shown
tag_begins text ts = same_begins (first (grammar text) (tag text)) EXPRESSION refl refl ts

pub switch_head_begins : (text : List ℕ) (ts : List Token) → begins code (first (grammar text) (switch_head text)) ts ≡ begins code SWITCH_HEADER ts
unfolding shown
switch_head_begins text ts = same_begins (first (grammar text) (switch_head text)) SWITCH_HEADER refl refl ts
