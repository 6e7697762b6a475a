-- The kinds that begin the phrases of headers.
use Rattle.std.proofs.Common.{◌≡◌, refl, ℕ, ◌||◌, List, [], ◌∷◌, Some}
use Rattle.gno_grammar.specs.Readers.{first, begins}
use Rattle.gno_scan.specs.declared.kind.TokenKind.TheVariants as k
use Rattle.gno_scan.specs.declared.token.Token.{Token}
use Rattle.gno_rules.specs.Kinds.{numbers, code}
use Rattle.gno_rules.specs.Parts.{to}
use Rattle.gno_rules.specs.Shapes.{EXPRESSION}
use Rattle.gno_rules.specs.Statements.{simple_of, simple_statements, condition, for_header}
use Rattle.gno_rules.specs.Table.{grammar}
use Rattle.gno_rules.specs.declared.statement.Kind.TheVariants as kind
use Rattle.gno_rule_laws.proofs.TypeEnds.{shown}
use Rattle.gno_reader.proofs.FirstKinds.{either_begins, same_begins}
use Rattle.gno_loops.specs.Beginnings.{FOR_HEADER}

pub loop_header_begins : (ts : List Token) → begins code FOR_HEADER ts ≡ (begins code (numbers (k.Range ∷ k.Semicolon ∷ [])) ts || begins code EXPRESSION ts)
loop_header_begins ts = either_begins (numbers (k.Range ∷ k.Semicolon ∷ [])) EXPRESSION ts

pub condition_begins : (text : List ℕ) (ts : List Token) → begins code (first (grammar text) (to Some (condition text))) ts ≡ begins code EXPRESSION ts
unfolding shown
condition_begins text ts = same_begins (first (grammar text) (to Some (condition text))) EXPRESSION refl refl ts

pub simple_begins : (text : List ℕ) (ts : List Token)
    → begins code (first (grammar text) (to (λ s. Some (simple_of text s)) (simple_statements text kind.Header))) ts ≡ begins code EXPRESSION ts
unfolding shown
simple_begins text ts = same_begins (first (grammar text) (to (λ s. Some (simple_of text s)) (simple_statements text kind.Header))) EXPRESSION refl refl ts

pub for_header_begins : (text : List ℕ) (ts : List Token) → begins code (first (grammar text) (for_header text)) ts ≡ begins code FOR_HEADER ts
unfolding shown
for_header_begins text ts = same_begins (first (grammar text) (for_header text)) FOR_HEADER refl refl ts
