-- What an expression is that was read, and which kinds of tokens can go on with it.
use Rattle.std.specs.Prelude.{ℕ, suc, zero, Bool, true, false, ◌&&◌, List, [], ◌∷◌, ◌++◌, map}
use Rattle.gno_grammar.specs.Sets.{choose}
use Rattle.gno_scan.specs.declared.kind.TokenKind.{TokenKind}
use Rattle.gno_scan.specs.declared.kind.TokenKind.TheVariants as k
use Rattle.gno_scan.specs.declared.token.Pos.{Pos}
use Rattle.gno_scan.specs.declared.token.Token.{Token}
use Rattle.gno_tree.specs.declared.expr.Expr.{Expr}
use Rattle.gno_tree.specs.declared.expr.Expr.TheVariants as x
use Rattle.gno_tree.specs.declared.expr.Operation.{Operation}
use Rattle.gno_tree.specs.declared.expr.Step.{Step}
use Rattle.gno_tree.specs.declared.expr.Step.TheVariants as step
use Rattle.gno_tree.specs.declared.operator.BinaryOperator.{BinaryOperator}
use Rattle.gno_tree.specs.declared.operator.BinaryOperator.TheVariants as b
use Rattle.gno_tree.specs.declared.operator.UnaryOperator.{UnaryOperator}
use Rattle.gno_tree.specs.declared.operator.UnaryOperator.TheVariants as u
use Rattle.gno_tree.specs.declared.word.Name.{Name}
use Rattle.gno_rules.specs.Kinds.{numbers}
use Rattle.gno_rules.specs.Signatures.{type_more, TYPE_MOST}
use Rattle.gno_rules.specs.declared.expression.Elements.{Elements}
use Rattle.gno_rules.specs.declared.expression.Exprs.{Exprs}
use Rattle.gno_rules.specs.declared.expression.Found.{Found}
use Rattle.gno_rules.specs.declared.expression.Found.TheVariants as f
use Rattle.gno_rules.specs.declared.expression.Operand.{Operand}
use Rattle.gno_rules.specs.declared.expression.Operand.TheVariants as o
use Rattle.gno_rules.specs.declared.expression.Operands.{Operands}
use Rattle.gno_rules.specs.declared.expression.Place.{Place}
use Rattle.gno_rules.specs.declared.expression.Place.TheVariants.{Plain, Header, Guard}
use Rattle.gno_rules.specs.declared.expression.Shape.{Shape}
use Rattle.gno_rules.specs.declared.expression.Shape.TheVariants as s
use Rattle.gno_rules.specs.declared.expression.Suffix.{Suffix}
use Rattle.gno_rules.specs.declared.expression.Suffix.TheVariants as suffix
use Rattle.gno_rules.specs.declared.types.TypeEnd.{TypeEnd}
use Rattle.gno_rules.specs.declared.types.TypeEnd.TheVariants.{Closed, Open}

-- how the type ends in which an expression ends, if it ends in one
abbrev pub end_of : Shape → TypeEnd
end_of s.Name = Closed
end_of s.Qualified = Closed
end_of (s.Type e) = e
end_of (s.Function e) = e
end_of (s.Pointer e) = e
end_of s.Paren = Closed
end_of (s.Other e) = e
end_of s.Guard = Closed

-- whether it may be a type
abbrev pub may_be_type : Shape → Bool
may_be_type s.Name = true
may_be_type s.Qualified = true
may_be_type (s.Type e) = true
may_be_type (s.Function e) = true
may_be_type (s.Pointer e) = true
may_be_type s.Paren = true
may_be_type (s.Other e) = false
may_be_type s.Guard = false

abbrev pub is_guard : Shape → Bool
is_guard s.Name = false
is_guard s.Qualified = false
is_guard (s.Type e) = false
is_guard (s.Function e) = false
is_guard (s.Pointer e) = false
is_guard s.Paren = false
is_guard (s.Other e) = false
is_guard s.Guard = true

abbrev pub shape_of : Found → Shape
shape_of (f.Name n) = s.Name
shape_of (f.Expr e shape) = shape
shape_of (f.Guard e pos) = s.Guard

abbrev pub expr_of : Found → Expr
expr_of (f.Name n) = x.Name n
expr_of (f.Expr e shape) = e
expr_of (f.Guard e pos) = e

-- an expression that is no type
abbrev pub other : Expr → Found
other e = f.Expr e (s.Other Closed)

-- ---- an operand and the steps behind it

abbrev pub shape_of_operand : Operand → Shape
shape_of_operand (o.Alone e) = shape_of e
shape_of_operand (o.Stepped e steps shape) = shape

-- `name.name` may be a type
abbrev pub selected : Found → Shape
selected (f.Name n) = s.Qualified
selected (f.Expr e shape) = s.Other Closed
selected (f.Guard e pos) = s.Other Closed

abbrev pub with_step : Operand → Step → Operand
with_step (o.Alone e) one = o.Stepped (expr_of e) (one ∷ []) (s.Other Closed)
with_step (o.Stepped e steps shape) one = o.Stepped e (steps ++ one ∷ []) (s.Other Closed)

abbrev pub with_selector : Operand → Pos → Name → Operand
with_selector (o.Alone e) pos n = o.Stepped (expr_of e) (step.Selector pos n ∷ []) (selected e)
with_selector (o.Stepped e steps shape) pos n = o.Stepped e (steps ++ step.Selector pos n ∷ []) (s.Other Closed)

abbrev pub found_of : Operand → Found
found_of (o.Alone e) = e
found_of (o.Stepped e steps shape) = f.Expr (x.Primary e steps) shape

abbrev pub with_elements : Operand → Elements → Operand
with_elements operand elements = o.Alone (other (x.Composite (expr_of (found_of operand)) elements.pos elements.elements))

abbrev pub with_suffix : Operand → Suffix → Operand
with_suffix operand (suffix.Selector pos n) = with_selector operand pos n
with_suffix operand (suffix.Step one) = with_step operand one
with_suffix operand (suffix.Elements elements) = with_elements operand elements
with_suffix operand (suffix.Guard pos) = o.Alone (f.Guard (expr_of (found_of operand)) pos)

-- ---- operators

abbrev pub unary_operator : TokenKind → UnaryOperator
unary_operator k.Plus = u.Plus
unary_operator k.Minus = u.Minus
unary_operator k.Not = u.Not
unary_operator k.Caret = u.Complement
unary_operator k.Star = u.Dereference
unary_operator _ = u.Address

abbrev pub binary_operator : TokenKind → BinaryOperator
binary_operator k.Star = b.Mul
binary_operator k.Slash = b.Quo
binary_operator k.Percent = b.Rem
binary_operator k.ShiftLeft = b.ShiftLeft
binary_operator k.ShiftRight = b.ShiftRight
binary_operator k.And = b.And
binary_operator k.AndNot = b.AndNot
binary_operator k.Plus = b.Add
binary_operator k.Minus = b.Sub
binary_operator k.Or = b.Or
binary_operator k.Caret = b.Xor
binary_operator k.Equal = b.Equal
binary_operator k.NotEqual = b.NotEqual
binary_operator k.Less = b.Less
binary_operator k.LessEqual = b.LessEqual
binary_operator k.Greater = b.Greater
binary_operator k.GreaterEqual = b.GreaterEqual
binary_operator k.BothTrue = b.BothTrue
binary_operator _ = b.OneTrue

abbrev pub is_star : TokenKind → Bool
is_star k.Star = true
is_star _ = false

-- a `*` before what may be a type may be one
abbrev pub prefixed_shape : TokenKind → Shape → Shape
prefixed_shape kind shape = choose (is_star kind && may_be_type shape) (s.Pointer (end_of shape)) (s.Other (end_of shape))

abbrev pub prefixed : Token → Found → Found
prefixed t e = f.Expr (x.Unary t.pos (unary_operator t.kind) (expr_of e)) (prefixed_shape t.kind (shape_of e))

abbrev pub operands : Found → Operands
operands e = record { first = e; rest = []; end = end_of (shape_of e) }

abbrev pub with_operation : Operands → Token × Found → Operands
with_operation os op = record { first = os.first; rest = os.rest ++ (record { pos = op.0.pos; operator = binary_operator op.0.kind; operand = expr_of op.1 }) ∷ []; end = end_of (shape_of op.1) }

abbrev pub shape_with : List Operation → Operands → Shape
shape_with [] os = shape_of os.first
shape_with (op ∷ ops) os = s.Other os.end

abbrev pub found_with : List Operation → Operands → Found
found_with [] os = os.first
found_with (op ∷ ops) os = f.Expr (x.Binary (expr_of os.first) (op ∷ ops)) (s.Other os.end)

abbrev pub shape_of_operands : Operands → Shape
shape_of_operands os = shape_with os.rest os

abbrev pub found_of_operands : Operands → Found
found_of_operands os = found_with os.rest os

-- The operators of the levels 5 to 1, tightest first.
abbrev pub operators : ℕ → List TokenKind
operators zero = k.Star ∷ k.Slash ∷ k.Percent ∷ k.ShiftLeft ∷ k.ShiftRight ∷ k.And ∷ k.AndNot ∷ []
operators (suc zero) = k.Plus ∷ k.Minus ∷ k.Or ∷ k.Caret ∷ []
operators (suc (suc zero)) = k.Equal ∷ k.NotEqual ∷ k.Less ∷ k.LessEqual ∷ k.Greater ∷ k.GreaterEqual ∷ []
operators (suc (suc (suc zero))) = k.BothTrue ∷ []
operators _ = k.OneTrue ∷ []

-- behind a signature without results a `*` begins a result
abbrev pub operators_behind : TypeEnd → ℕ → List TokenKind
operators_behind Open zero = k.Slash ∷ k.Percent ∷ k.ShiftLeft ∷ k.ShiftRight ∷ k.And ∷ k.AndNot ∷ []
operators_behind end level = operators level

-- the operators of so many levels, tightest first
abbrev pub operators_to : ℕ → List ℕ
operators_to zero = []
operators_to (suc n) = operators_to n ++ numbers (operators n)

-- ---- what can go on

abbrev pub SUFFIX : Place → List ℕ
SUFFIX Plain = numbers (k.Period ∷ k.LeftBracket ∷ k.LeftParen ∷ k.LeftBrace ∷ [])
SUFFIX Header = numbers (k.Period ∷ k.LeftBracket ∷ k.LeftParen ∷ [])
SUFFIX Guard = numbers (k.Period ∷ k.LeftBracket ∷ k.LeftParen ∷ [])

-- the kinds that can go on with an expression of that shape, where operators of so many levels may follow
abbrev pub behind : Place → ℕ → Shape → List ℕ
behind place levels s.Guard = []
behind place levels shape = type_more (end_of shape) ++ (SUFFIX place ++ operators_to levels)

abbrev pub MOST : Place → ℕ → List ℕ
MOST place levels = TYPE_MOST ++ (SUFFIX place ++ operators_to levels)

abbrev pub UNARY : List TokenKind
UNARY = k.Plus ∷ k.Minus ∷ k.Not ∷ k.Caret ∷ k.Star ∷ k.And ∷ []

-- the kinds that begin an expression
abbrev pub EXPRESSION : List ℕ
EXPRESSION = numbers (UNARY ++ (k.Integer ∷ k.Rune ∷ k.String ∷ k.Name ∷ k.LeftParen ∷ k.LeftBracket ∷ k.Map ∷ k.Func ∷ k.Struct ∷ k.Interface ∷ []))

-- an operand of an operator in a header stands in the header too, but no guard stands there
abbrev pub within_place : Place → Place
within_place Plain = Plain
within_place Header = Header
within_place Guard = Header

-- ---- lists of expressions

abbrev pub exprs_alone : Found → Exprs
exprs_alone e = record { first = e; rest = [] }

abbrev pub with_expr : Exprs → Found → Exprs
with_expr es e = record { first = es.first; rest = es.rest ++ e ∷ [] }

abbrev pub exprs_of : Exprs → List Expr
exprs_of es = expr_of es.first ∷ map expr_of es.rest
