-- What the reader of a construct that nests answers.
use Rattle.std.specs.Prelude.{◌≡◌, List, Result, Ok, Err}
use Rattle.gno_grammar.specs.Readers.{Outcome, got}
use Rattle.gno_scan.specs.declared.token.Token.{Token}
use Rattle.gno_reader.specs.declared.cursor.Failure.{Failure}
use Rattle.gno_reader.specs.declared.reader.Construct.{Construct}
use Rattle.gno_reader.specs.declared.reader.Construct.TheVariants as c
use Rattle.gno_reader.specs.Answers.{Fails}
use Rattle.gno_rules.specs.Parts.{gives}
use Rattle.gno_rules.specs.declared.rule.Rule.{Rule}
use Rattle.gno_rules.specs.declared.rule.Rule.TheVariants as r

-- what a rule gives, as a construct
abbrev pub construct_of : (k : Rule) → gives k → Construct
construct_of r.Type v = c.Type v
construct_of r.OtherType v = c.Type v
construct_of r.ResultType v = c.Type v
construct_of r.DeclaredType v = c.Type v
construct_of r.OperandType v = c.OperandType v
construct_of r.Function v = c.Expr v
construct_of r.HeaderFunction v = c.Expr v
construct_of r.Paren v = c.Expr v
construct_of r.Index v = c.Step v
construct_of r.Arguments v = c.Step v
construct_of r.Elements v = c.Elements v
construct_of r.Unary v = c.Expr v
construct_of r.HeaderUnary v = c.Expr v
construct_of r.Block v = c.Block v
construct_of r.SwitchBody v = c.Cases v

abbrev pub GivesConstruct : (k : Rule) → Outcome Token (gives k) → Result Construct Failure → List Token → Type 0
GivesConstruct k out (Ok construct) left = (v : gives k) × (construct ≡ construct_of k v) × (out ≡ got v left)
GivesConstruct k out (Err failure) left = Fails out failure left
