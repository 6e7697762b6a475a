-- The grammar of source files: what each construct reads, and the kinds that begin and go on with it.
use Rattle.std.specs.Prelude.{ℕ, List, [], ◌∷◌, ◌++◌}
use Rattle.gno_grammar.specs.Phrases.{Grammar}
use Rattle.gno_scan.specs.declared.kind.TokenKind.TheVariants as k
use Rattle.gno_scan.specs.declared.token.Token.{Token}
use Rattle.gno_rules.specs.Kinds.{numbers, code, token_of, form_of}
use Rattle.gno_rules.specs.Parts.{P, gives}
use Rattle.gno_rules.specs.Signatures.{type_more, TYPE_MOST, RESULT}
use Rattle.gno_rules.specs.Shapes.{shape_of, behind, MOST, EXPRESSION}
use Rattle.gno_rules.specs.Expressions as e
use Rattle.gno_rules.specs.Types as t
use Rattle.gno_rules.specs.Statements as s
use Rattle.gno_rules.specs.declared.expression.Place.TheVariants.{Plain, Header}
use Rattle.gno_rules.specs.declared.rule.Rule.{Rule}
use Rattle.gno_rules.specs.declared.rule.Rule.TheVariants as r

abbrev pub first_of : Rule → List ℕ
first_of r.Type = RESULT
first_of r.OtherType = numbers (k.LeftParen ∷ k.Star ∷ k.LeftBracket ∷ k.Map ∷ k.Func ∷ k.Struct ∷ k.Interface ∷ [])
first_of r.ResultType = numbers (k.Name ∷ k.Star ∷ k.LeftBracket ∷ k.Map ∷ k.Func ∷ k.Struct ∷ k.Interface ∷ [])
first_of r.DeclaredType = RESULT
first_of r.OperandType = numbers (k.LeftBracket ∷ k.Map ∷ k.Struct ∷ k.Interface ∷ [])
first_of r.Function = numbers (k.Func ∷ [])
first_of r.HeaderFunction = numbers (k.Func ∷ [])
first_of r.Paren = numbers (k.LeftParen ∷ [])
first_of r.Index = numbers (k.LeftBracket ∷ [])
first_of r.Arguments = numbers (k.LeftParen ∷ [])
first_of r.Elements = numbers (k.LeftBrace ∷ [])
first_of r.Unary = EXPRESSION
first_of r.HeaderUnary = EXPRESSION
first_of r.Block = numbers (k.LeftBrace ∷ [])
first_of r.SwitchBody = numbers (k.LeftBrace ∷ [])

abbrev pub more_of : (k : Rule) → gives k → List ℕ
more_of r.Type x = type_more x.end
more_of r.OtherType x = type_more x.end
more_of r.ResultType x = type_more x.end
more_of r.DeclaredType x = type_more x.end
more_of r.OperandType x = type_more x.end
more_of r.Function x = e.function_more (shape_of x)
more_of r.HeaderFunction x = []
more_of r.Paren x = []
more_of r.Index x = []
more_of r.Arguments x = []
more_of r.Elements x = []
more_of r.Unary x = behind Plain 0 (shape_of x)
more_of r.HeaderUnary x = behind Header 0 (shape_of x)
more_of r.Block x = []
more_of r.SwitchBody x = []

abbrev pub most_of : Rule → List ℕ
most_of r.Type = TYPE_MOST
most_of r.OtherType = TYPE_MOST
most_of r.ResultType = TYPE_MOST
most_of r.DeclaredType = TYPE_MOST
most_of r.OperandType = TYPE_MOST
most_of r.Function = numbers (k.LeftBrace ∷ []) ++ TYPE_MOST
most_of r.HeaderFunction = []
most_of r.Paren = []
most_of r.Index = []
most_of r.Arguments = []
most_of r.Elements = []
most_of r.Unary = MOST Plain 0
most_of r.HeaderUnary = MOST Header 0
most_of r.Block = []
most_of r.SwitchBody = []

module _ (text : List ℕ) where
  abbrev pub rule : (k : Rule) → P (gives k)
  rule r.Type = t.type text
  rule r.OtherType = t.other_type text
  rule r.ResultType = t.result_type text
  rule r.DeclaredType = t.declared_type text
  rule r.OperandType = t.type_operand text
  rule r.Function = e.function text
  rule r.HeaderFunction = e.header_function text
  rule r.Paren = e.paren text
  rule r.Index = e.index text
  rule r.Arguments = e.arguments text
  rule r.Elements = e.elements text
  rule r.Unary = e.unary text Plain
  rule r.HeaderUnary = e.unary text Header
  rule r.Block = s.block text
  rule r.SwitchBody = s.switch_body text

  abbrev pub grammar : Grammar Token Rule gives
  grammar = record { code = code; token_of = token_of; form = λ t. form_of t.kind; rule = rule; first_of = first_of; more_of = more_of; most_of = most_of }
