-- Expressions. Go specification, "Expressions".
--     Expr     = Unary | Expr binary Expr .
--     Unary    = Primary | ( "+" | "-" | "!" | "^" | "*" | "&" ) Unary .
--     Primary  = Operand { "." name | "[" Expr "]" | "." "(" Type ")" | Args | "[" [ Expr ] ":" [ Expr ] "]" | "[" [ Expr ] ":" Expr ":" Expr "]" } .
--     Operand  = literal | name | "(" Expr ")" | Type "{" [ Elements ] "}" | "func" Signature Block | Type .
--     Args     = "(" [ Expr { "," Expr } [ "..." ] [ "," ] ] ")" .
--     Elements = Element { "," Element } [ "," ] .
--     Element  = [ Part ":" ] Part .
--     Part     = Expr | "{" [ Elements ] "}" .
-- Binary operators group to the left in five levels. A type extends as far as the next token lets it, a `{` behind the signature of a function is its body,
-- and in the header of an `if`, `for` or `switch` a type that is no name is followed by `{` or `(`.
use Rattle.std.specs.Prelude.{ℕ, suc, zero, Bool, true, false, not, List, [], ◌∷◌, ◌++◌, Option, Some, None}
use Rattle.gno_grammar.specs.Phrases.{nothing, either, both, chain, follow, optional, construct}
use Rattle.gno_grammar.specs.Sets.{choose}
use Rattle.gno_scan.specs.declared.kind.TokenKind.TheVariants as k
use Rattle.gno_scan.specs.declared.token.Pos.{Pos}
use Rattle.gno_scan.specs.declared.token.Token.{Token}
use Rattle.gno_tree.specs.declared.expr.Element.{Element}
use Rattle.gno_tree.specs.declared.expr.Expr.{Expr}
use Rattle.gno_tree.specs.declared.expr.Expr.TheVariants as x
use Rattle.gno_tree.specs.declared.expr.Part.{Part}
use Rattle.gno_tree.specs.declared.expr.Part.TheVariants as part
use Rattle.gno_tree.specs.declared.expr.Step.{Step}
use Rattle.gno_tree.specs.declared.expr.Step.TheVariants as step
use Rattle.gno_tree.specs.declared.statement.Block.{Block}
use Rattle.gno_tree.specs.declared.type_expr.TypeExpr.TheVariants as t
use Rattle.gno_rules.specs.Kinds.{numbers}
use Rattle.gno_rules.specs.Parts.{P, a, any, to, given, past, up_to, separated, listed, closed_list, literal_of, name}
use Rattle.gno_rules.specs.Signatures.{signature, type_more, TYPE_MOST, COMMA}
use Rattle.gno_rules.specs.Shapes.{end_of, may_be_type, is_guard, shape_of, expr_of, other, shape_of_operand, found_of, with_suffix, prefixed, operands, with_operation, shape_of_operands, found_of_operands, operators, operators_behind, SUFFIX, behind, MOST, UNARY, EXPRESSION, within_place, exprs_alone, with_expr}
use Rattle.gno_rules.specs.declared.expression.Elements.{Elements}
use Rattle.gno_rules.specs.declared.expression.Exprs.{Exprs}
use Rattle.gno_rules.specs.declared.expression.Found.{Found}
use Rattle.gno_rules.specs.declared.expression.Found.TheVariants as f
use Rattle.gno_rules.specs.declared.expression.Operand.{Operand}
use Rattle.gno_rules.specs.declared.expression.Operand.TheVariants as o
use Rattle.gno_rules.specs.declared.expression.Place.{Place}
use Rattle.gno_rules.specs.declared.expression.Place.TheVariants.{Plain, Header, Guard}
use Rattle.gno_rules.specs.declared.expression.Shape.{Shape}
use Rattle.gno_rules.specs.declared.expression.Shape.TheVariants as s
use Rattle.gno_rules.specs.declared.expression.Suffix.{Suffix}
use Rattle.gno_rules.specs.declared.expression.Suffix.TheVariants as behind_it
use Rattle.gno_rules.specs.declared.rule.Rule.TheVariants as r
use Rattle.gno_rules.specs.declared.types.OperandType.{OperandType}
use Rattle.gno_rules.specs.declared.types.SignatureRead.{SignatureRead}
use Rattle.gno_rules.specs.declared.types.TypeEnd.{TypeEnd}
use Rattle.gno_rules.specs.declared.types.TypeEnd.TheVariants.{Closed, Name as Named, Open}

-- ---- what operands are

abbrev pub FunctionHead : Type 0
FunctionHead = Pos × SignatureRead

abbrev pub head_more : FunctionHead → List ℕ
head_more head = type_more head.1.end

-- a function with its body, or the type of one
abbrev pub function_found : FunctionHead → Option Block → Found
function_found head None = f.Expr (x.Type (t.Function head.0 head.1.signature)) (s.Function head.1.end)
function_found head (Some body) = other (x.Function head.0 head.1.signature body)

-- behind the type of a function a body may follow
abbrev pub function_more : Shape → List ℕ
function_more (s.Function e) = numbers (k.LeftBrace ∷ []) ++ type_more e
function_more s.Name = []
function_more s.Qualified = []
function_more (s.Type e) = []
function_more (s.Pointer e) = []
function_more s.Paren = []
function_more (s.Other e) = []
function_more s.Guard = []

-- behind a type that is an operand the type may go on
abbrev pub type_operand_more : Shape → List ℕ
type_operand_more (s.Type e) = type_more e
type_operand_more s.Name = []
type_operand_more s.Qualified = []
type_operand_more (s.Function e) = []
type_operand_more (s.Pointer e) = []
type_operand_more s.Paren = []
type_operand_more (s.Other e) = []
type_operand_more s.Guard = []

-- behind an operand, apart from the steps behind it: in a header none is a type or a function's type
abbrev pub operand_more : Place → Shape → List ℕ
operand_more Plain shape = type_operand_more shape ++ function_more shape
operand_more Header shape = []
operand_more Guard shape = []

abbrev pub OPERAND_MOST : List ℕ
OPERAND_MOST = numbers (k.LeftBrace ∷ []) ++ TYPE_MOST

abbrev pub composite : OperandType → Elements → Found
composite of elements = other (x.Composite (x.Type of.of) elements.pos elements.elements)

abbrev pub type_found : OperandType → Option Elements → Found
type_found of None = f.Expr (x.Type of.of) (s.Type of.end)
type_found of (Some elements) = composite of elements

abbrev pub paren_found : Token → Found → Found
paren_found t e = f.Expr (x.Paren t.pos (expr_of e)) (choose (may_be_type (shape_of e)) s.Paren (s.Other Closed))

abbrev pub found_more : Place → ℕ → Found → List ℕ
found_more place levels e = behind place levels (shape_of e)

-- ---- the steps behind an operand

abbrev pub Bounds : Type 0
Bounds = Option Expr × Option Expr

abbrev pub slice : Option Expr → Pos → Bounds → Step
slice low pos bounds = step.Slice pos low bounds.0 bounds.1

-- high, and behind it perhaps max
abbrev pub bounds : Option (Expr × Option Expr) → Bounds
bounds None = (None, None)
bounds (Some high) = (Some high.0, high.1)

-- ---- lists

abbrev pub more_with : Place → List Found → Shape → List ℕ
more_with place [] s.Guard = []
more_with place [] shape = COMMA ++ behind place 5 shape
more_with place (e ∷ es) shape = COMMA ++ MOST place 5

abbrev pub exprs_more : Place → Exprs → List ℕ
exprs_more place es = more_with place es.rest (shape_of es.first)

abbrev pub is_guarded : Exprs → Bool
is_guarded es = is_guard (shape_of es.first)

abbrev pub call : Pos → List Expr → Bool → Step
call pos arguments spread = step.Call pos arguments spread

abbrev pub Arguments : Type 0
Arguments = List Expr × Bool

-- the kinds that can go on with arguments
abbrev pub ARGUMENTS : List ℕ
ARGUMENTS = numbers (k.Comma ∷ k.Ellipsis ∷ []) ++ (EXPRESSION ++ MOST Plain 5)

abbrev pub element : Part → Option Part → Element
element value None = record { key = None; value = value }
element key (Some value) = record { key = Some key; value = value }

module _ (text : List ℕ) where
  -- literal | name | "(" Expr ")" | Type "{" [ Elements ] "}" | "func" Signature Block | Type .
  unfoldable pub literal : P Found
  literal = to (λ t. other (x.Literal (literal_of text t))) (any (k.Integer ∷ k.Rune ∷ k.String ∷ []))

  unfoldable pub name_operand : P Found
  name_operand = to f.Name (name text)

  -- the elements of an array whose length they give must follow its type
  abbrev pub counted_elements : Bool → P (Option Elements)
  counted_elements true = to Some (construct r.Elements)
  counted_elements false = nothing None

  unfoldable pub type_operand : P Found
  type_operand = follow (λ e. type_operand_more (shape_of e)) TYPE_MOST (numbers (k.LeftBrace ∷ [])) type_found (construct r.OperandType) (λ of. counted_elements of.is_counted)

  -- a type in a header, with its elements or with what is converted
  abbrev pub header_type_found : OperandType → Found → Found
  header_type_found of e = e

  unfoldable pub conversion : OperandType → P Found
  conversion of = to (λ call. f.Expr (x.Primary (x.Type of.of) (call ∷ [])) (s.Other Closed)) (construct r.Arguments)

  unfoldable pub header_elements : OperandType → P Found
  header_elements of = to (composite of) (construct r.Elements)

  -- behind a signature without results a `(` begins results
  unfoldable pub behind_header_type : Bool → TypeEnd → OperandType → P Found
  behind_header_type true end of = header_elements of
  behind_header_type false Open of = header_elements of
  behind_header_type false Closed of = either (header_elements of) (conversion of)
  behind_header_type false Named of = either (header_elements of) (conversion of)

  unfoldable pub header_type : P Found
  header_type = follow (λ _. []) [] (numbers (k.LeftBrace ∷ k.LeftParen ∷ [])) header_type_found (construct r.OperandType) (λ of. behind_header_type of.is_counted of.end of)

  unfoldable pub operand : Place → P Found
  operand Plain = either literal (either name_operand (either (construct r.Paren) (either (construct r.Function) type_operand)))
  operand Header = either literal (either name_operand (either (construct r.Paren) (either (construct r.HeaderFunction) header_type)))
  operand Guard = either literal (either name_operand (either (construct r.Paren) (either (construct r.HeaderFunction) header_type)))

  -- "(" Type ")", or as a guard "(" "type" ")"
  unfoldable pub asserted : Place → P (Pos → Suffix)
  asserted Guard = either (to (λ _ pos. behind_it.Guard pos) (a k.Type)) (to (λ of pos. behind_it.Step (step.Assertion pos of.of)) (construct r.Type))
  asserted Plain = to (λ of pos. behind_it.Step (step.Assertion pos of.of)) (construct r.Type)
  asserted Header = to (λ of pos. behind_it.Step (step.Assertion pos of.of)) (construct r.Type)

  -- "." name | "." "(" Type ")"
  unfoldable pub selector : Place → P Suffix
  selector place = both {B = Pos → Suffix} (λ t f. f t.pos) (a k.Period)
      (either (past (a k.LeftParen) (up_to (asserted place) (a k.RightParen))) (to (λ n pos. behind_it.Selector pos n) (name text)))

  unfoldable pub bracketed : P Suffix
  bracketed = either (to behind_it.Step (construct r.Index)) (to behind_it.Step (construct r.Arguments))

  unfoldable pub elements_suffix : P Suffix
  elements_suffix = to behind_it.Elements (construct r.Elements)

  unfoldable pub value_suffix : Place → P Suffix
  value_suffix place = either (selector place) bracketed

  -- what may be a type may have elements
  unfoldable pub named_suffix : P Suffix
  named_suffix = either (value_suffix Plain) elements_suffix

  -- what may stand behind a type, as far as it does not belong to the type
  unfoldable pub type_suffix : TypeEnd → P Suffix
  type_suffix Named = either bracketed elements_suffix
  type_suffix Closed = named_suffix
  type_suffix Open = either (selector Plain) elements_suffix

  unfoldable pub function_suffix : TypeEnd → P Suffix
  function_suffix Named = bracketed
  function_suffix Closed = value_suffix Plain
  function_suffix Open = selector Plain

  unfoldable pub plain_suffix : Shape → P Suffix
  plain_suffix s.Name = named_suffix
  plain_suffix s.Qualified = named_suffix
  plain_suffix s.Paren = named_suffix
  plain_suffix (s.Type e) = type_suffix e
  plain_suffix (s.Function e) = function_suffix e
  plain_suffix (s.Pointer e) = value_suffix Plain
  plain_suffix (s.Other e) = value_suffix Plain
  plain_suffix s.Guard = value_suffix Plain

  -- in a header no operand is a type, and a `{` begins the body
  unfoldable pub suffix : Place → Shape → P Suffix
  suffix Plain shape = plain_suffix shape
  suffix Header shape = value_suffix Header
  suffix Guard shape = value_suffix Guard

  unfoldable pub operand_alone : Place → P Operand
  operand_alone place = given (λ x. operand_more place (shape_of_operand x)) OPERAND_MOST o.Alone (operand place)

  unfoldable pub stepped : Place → P Operand
  stepped place = chain (λ x. behind place 0 (shape_of_operand x)) (MOST place 0) (SUFFIX place) (λ x. not (is_guard (shape_of_operand x))) with_suffix
      (operand_alone place) (λ x. suffix place (shape_of_operand x))

  unfoldable pub primary : Place → P Found
  primary place = given (found_more place 0) (MOST place 0) found_of (stepped place)

  -- Primary | ( "+" | "-" | "!" | "^" | "*" | "&" ) Unary
  abbrev pub unary_operand : Place → P Found
  unary_operand Plain = construct r.Unary
  unary_operand Header = construct r.HeaderUnary
  unary_operand Guard = construct r.HeaderUnary

  unfoldable pub unary : Place → P Found
  unary place = either (follow (found_more place 0) (MOST place 0) EXPRESSION prefixed (any UNARY) (λ _. unary_operand place)) (primary place)

  -- operands with operators of so many levels between them, tightest first
  unfoldable pub operations : Place → ℕ → P Found
  operations place zero = unary place
  operations place (suc n) = given (found_more place (suc n)) (MOST place (suc n)) found_of_operands
      (chain (λ os. behind place (suc n) (shape_of_operands os)) (MOST place (suc n)) (numbers (operators n)) (λ os. not (is_guard (shape_of_operands os))) with_operation
      (given (λ os. behind place n (shape_of_operands os)) (MOST place n) operands (operations place n))
      (λ os. follow (λ op. behind place n (shape_of op.1)) (MOST place n) EXPRESSION (λ t e. (t, e)) (any (operators_behind (end_of (shape_of_operands os)) n)) (λ _. operations (within_place place) n)))

  unfoldable pub expr : Place → P Found
  expr place = operations place 5

  unfoldable pub plain_expr : P Expr
  plain_expr = to expr_of (expr Plain)

  -- Exprs = Expr { "," Expr } .
  unfoldable pub exprs : Place → P Exprs
  exprs place = chain (exprs_more place) (COMMA ++ MOST place 5) COMMA (λ es. not (is_guarded es)) with_expr
      (given (λ es. found_more place 5 es.first) (MOST place 5) exprs_alone (expr place)) (λ _. past (a k.Comma) (expr (within_place place)))

  unfoldable pub values : Place → P (List Expr)
  values place = separated (to expr_of (expr (within_place place)))

  -- ---- what brackets hold

  -- "(" Expr ")"
  unfoldable pub paren : P Found
  paren = both paren_found (a k.LeftParen) (up_to (expr Plain) (a k.RightParen))

  -- ":" [ Expr ] | ":" Expr ":" Expr
  unfoldable pub slice_bounds : P Bounds
  slice_bounds = past (a k.Colon) (to bounds (optional (both (λ high max. (high, max)) plain_expr (optional (past (a k.Colon) plain_expr)))))

  -- "[" Expr "]" | "[" [ Expr ] ":" [ Expr ] "]" | "[" [ Expr ] ":" Expr ":" Expr "]"
  unfoldable pub low_step : P (Pos → Step)
  low_step = both {B = Expr → Pos → Step} (λ low f pos. f low pos) plain_expr (either (to (λ bounds low pos. slice (Some low) pos bounds) slice_bounds) (nothing (λ low pos. step.Index pos low)))

  unfoldable pub index : P Step
  index = both {B = Pos → Step} (λ t f. f t.pos) (a k.LeftBracket) (up_to (either (to (λ bounds pos. slice None pos bounds) slice_bounds) low_step) (a k.RightBracket))

  -- "..." [ "," ], unless a comma stands last
  unfoldable pub spread : Bool → P Bool
  spread true = nothing false
  spread false = either (to (λ _. true) (both (λ _ _. tt {0}) (a k.Ellipsis) (optional (a k.Comma)))) (nothing false)

  unfoldable pub argument_list : P Arguments
  argument_list = follow (λ _. ARGUMENTS) ARGUMENTS (numbers (k.Ellipsis ∷ [])) (λ es spread. (es.0, spread)) (listed k.Comma plain_expr) (λ es. spread es.1)

  -- "(" [ Expr { "," Expr } [ "..." ] [ "," ] ] ")"
  unfoldable pub arguments : P Step
  arguments = both (λ t es. call t.pos es.0 es.1) (a k.LeftParen)
      (either (to (λ _. ([], false)) (a k.RightParen)) (up_to argument_list (a k.RightParen)))

  -- Part = Expr | "{" [ Elements ] "}" .
  unfoldable pub elements_part : P Part
  elements_part = either (to (λ es. part.Elements es.pos es.elements) (construct r.Elements)) (to part.Expr plain_expr)

  -- Element = [ Part ":" ] Part .
  unfoldable pub one_element : P Element
  one_element = both element elements_part (optional (past (a k.Colon) elements_part))

  -- "{" [ Elements ] "}"
  unfoldable pub elements : P Elements
  elements = both (λ t es. record { pos = t.pos; elements = es }) (a k.LeftBrace) (closed_list k.Comma k.RightBrace one_element)

  -- "func" Signature [ Block ], and in a header "func" Signature Block
  unfoldable pub function_head : P FunctionHead
  function_head = follow head_more TYPE_MOST (numbers (k.LeftParen ∷ [])) (λ t signature. (t.pos, signature)) (a k.Func) (λ _. signature text)

  unfoldable pub function : P Found
  function = follow (λ e. function_more (shape_of e)) (numbers (k.LeftBrace ∷ []) ++ TYPE_MOST) (numbers (k.LeftBrace ∷ [])) function_found function_head (λ _. optional (construct r.Block))

  unfoldable pub header_function : P Found
  header_function = both (λ head body. function_found head (Some body)) function_head (construct r.Block)
