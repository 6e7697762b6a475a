-- The kinds that begin the phrases of statements.
use Rattle.std.proofs.Common.{◌≡◌, refl, ℕ, ◌||◌, List}
use Rattle.gno_grammar.specs.Readers.{first, begins}
use Rattle.gno_scan.specs.declared.token.Token.{Token}
use Rattle.gno_rules.specs.Kinds.{code}
use Rattle.gno_rules.specs.Parts.{to}
use Rattle.gno_rules.specs.Shapes.{EXPRESSION}
use Rattle.gno_rules.specs.Expressions.{values}
use Rattle.gno_rules.specs.Statements.{keyword_statement, unlabeled, statement}
use Rattle.gno_rules.specs.Table.{grammar}
use Rattle.gno_rules.specs.declared.expression.Place.TheVariants.{Plain}
use Rattle.gno_rules.specs.declared.statement.Read.TheVariants as read
use Rattle.gno_rule_laws.proofs.TypeEnds.{shown}
use Rattle.gno_reader.proofs.FirstKinds.{either_begins, same_begins}
use Rattle.gno_statements.specs.Beginnings.{KEYWORD, STATEMENT}

pub any_statement_begins : (ts : List Token) → begins code STATEMENT ts ≡ (begins code KEYWORD ts || begins code EXPRESSION ts)
any_statement_begins ts = either_begins KEYWORD EXPRESSION ts

pub values_begins : (text : List ℕ) (ts : List Token) → begins code (first (grammar text) (values text Plain)) ts ≡ begins code EXPRESSION ts
unfolding shown
values_begins text ts = same_begins (first (grammar text) (values text Plain)) EXPRESSION refl refl ts

pub keyword_statement_begins : (text : List ℕ) (ts : List Token) → begins code (first (grammar text) (to read.Statement (keyword_statement text))) ts ≡ begins code KEYWORD ts
unfolding shown
keyword_statement_begins text ts = same_begins (first (grammar text) (to read.Statement (keyword_statement text))) KEYWORD refl refl ts

pub unlabeled_begins : (text : List ℕ) (ts : List Token) → begins code (first (grammar text) (unlabeled text)) ts ≡ begins code STATEMENT ts
unfolding shown
unlabeled_begins text ts = same_begins (first (grammar text) (unlabeled text)) STATEMENT refl refl ts

pub statement_begins : (text : List ℕ) (ts : List Token) → begins code (first (grammar text) (statement text)) ts ≡ begins code STATEMENT ts
unfolding shown
statement_begins text ts = same_begins (first (grammar text) (statement text)) STATEMENT refl refl ts
