-- The first form of a source file, as a part of the trees of all files. Go specification, "Source file organization", "Package clause", "Variable declarations",
-- "Function declarations" and "Statements", cut to:
--     File    = "package" name ";" { "var" Vars ";" } { Func ";" } .
--     Vars    = name "int" | "(" { name "int" ";" } ")" .
--     Func    = "func" name "(" "cur" "realm" ")" [ "int" ] "{" { Stmt ";" } "}" .
--     Stmt    = name "++" | name "=" Expr | "println" "(" Expr ")" | "return" Expr .
--     Expr    = Operand | Operand op Operand .
--     Operand = name | number .
--     op      = "+" | "-" | "*" .
-- An operand is a variable of the file or a number, and not both operands of an operator are numbers.
-- A number is `0`, or 1 to 18 decimal digits without a leading zero. A `return` stands at the end of each function with a result, and nowhere else.
-- All names that a file declares are names of the first form, and differ.
-- Each production is a function from a part of the tree, wherever it stands in its text: it gives that part of the file, or None where the part is not in the first form.
use Rattle.std.specs.Prelude.{◌≡◌, ℕ, List, [], ◌∷◌, ◌++◌, map, take, drop, Bool, true, false, not, ◌&&◌, Option, Some, None, option_map, is_none, codes, bytes_eq}
use Rattle.std.specs.List.{prefix_len, list_all}
use Rattle.gno_tree.specs.declared.file.FileTree.{FileTree}
use Rattle.gno_tree.specs.declared.file.TopLevel.{TopLevel}
use Rattle.gno_tree.specs.declared.file.TopLevel.TheVariants as top
use Rattle.gno_tree.specs.declared.file.Function.{Function}
use Rattle.gno_tree.specs.declared.declaration.Declaration.{Declaration, out-Declaration}
use Rattle.gno_tree.specs.declared.declaration.Declaration.TheOpen.{Declaration-F, Expr-F, Simple-F, Statement-F, Step-F, TypeExpr-F}
use Rattle.gno_tree.specs.declared.declaration.VarSpec.{VarSpec}
use Rattle.gno_tree.specs.declared.type_expr.TypeExpr.{TypeExpr, out-TypeExpr}
use Rattle.gno_tree.specs.declared.type_expr.Parameter.{Parameter}
use Rattle.gno_tree.specs.declared.type_expr.Signature.{out-Signature}
use Rattle.gno_tree.specs.declared.statement.Block.{Block}
use Rattle.gno_tree.specs.declared.statement.Statement.{Statement, out-Statement}
use Rattle.gno_tree.specs.declared.statement.Simple.{Simple, out-Simple}
use Rattle.gno_tree.specs.declared.expr.Expr.{Expr, out-Expr}
use Rattle.gno_tree.specs.declared.expr.Step.{Step, out-Step}
use Rattle.gno_tree.specs.declared.expr.Operation.{Operation}
use Rattle.gno_tree.specs.declared.word.Name.{Name}
use Rattle.gno_tree.specs.declared.word.Literal.{Literal}
use Rattle.gno_tree.specs.declared.word.LiteralKind.{LiteralKind}
use Rattle.gno_tree.specs.declared.word.LiteralKind.TheVariants.{Integer}
use Rattle.gno_tree.specs.declared.operator.BinaryOperator.{BinaryOperator}
use Rattle.gno_tree.specs.declared.operator.BinaryOperator.TheVariants as binary
use Rattle.gno_tree.specs.declared.operator.AssignOperator.{AssignOperator}
use Rattle.gno_tree.specs.declared.operator.AssignOperator.TheVariants.{Assign}
use Rattle.gno_tree.specs.declared.operator.StepOperator.{StepOperator}
use Rattle.gno_tree.specs.declared.operator.StepOperator.TheVariants.{Increment}
use Rattle.gno_first.specs.declared.tree.FirstFile.{FirstFile}
use Rattle.gno_first.specs.declared.tree.FirstFunc.{FirstFunc}
use Rattle.gno_first.specs.declared.tree.FirstStmt.{FirstStmt}
use Rattle.gno_first.specs.declared.tree.FirstStmt.TheVariants as stmt
use Rattle.gno_first.specs.declared.tree.FirstExpr.{FirstExpr}
use Rattle.gno_first.specs.declared.tree.FirstExpr.TheVariants as expr
use Rattle.gno_first.specs.declared.tree.FirstOp.{FirstOp}
use Rattle.gno_first.specs.declared.tree.FirstOp.TheVariants as op
use Rattle.gno_first.specs.declared.operand.Operand.{Operand}
use Rattle.gno_first.specs.declared.operand.Operand.TheVariants as operand
use Rattle.gno_first.specs.Lawful.{are_distinct}
use Rattle.gno_first.specs.Literals.{literal_of}
use Rattle.gno_first.specs.Names.{is_name}
use Rattle.gno_first.specs.Options.{and_then, where_true, only, each, all_from, is_empty}
use Rattle.gno_first.specs.Places.{place}

-- a plain name
unfoldable pub name_of : Expr → Option (List ℕ)
name_of x = elim (out-Expr x) [ Expr-F.Expr::Name name ↦ Some name.text | _ ↦ None ]

-- whether it is a name, and the word
abbrev pub is_named : List ℕ → Option (List ℕ) → Bool
is_named word None = false
is_named word (Some name) = bytes_eq word name

-- the word, as the name of a type
unfoldable pub is_type : List ℕ → TypeExpr → Bool
is_type word t = elim (out-TypeExpr t) [ TypeExpr-F.TypeExpr::Name name ↦ is_none name.qualifier && bytes_eq word name.name.text | _ ↦ false ]

-- number
abbrev pub number_in : LiteralKind → List ℕ → Option ℕ
number_in Integer spelling = literal_of spelling
number_in kind spelling = None

abbrev pub number_of : Literal → Option ℕ
number_of literal = number_in literal.kind literal.spelling

-- Operand = name | number .
unfoldable pub operand_of : List (List ℕ) → Expr → Option Operand
operand_of variables x = elim (out-Expr x) [
  | Expr-F.Expr::Name name ↦ option_map operand.Name (place name.text variables)
  | Expr-F.Literal literal ↦ option_map operand.Number (number_of literal)
  | _ ↦ None
]

-- op = "+" | "-" | "*" .
abbrev pub operator_of : BinaryOperator → Option FirstOp
operator_of binary.Add = Some op.Add
operator_of binary.Sub = Some op.Sub
operator_of binary.Mul = Some op.Mul
operator_of operator = None

-- an operand alone
abbrev pub alone : Operand → FirstExpr
alone (operand.Name n) = expr.Name n
alone (operand.Number v) = expr.Number v

-- two operands, of which one at least is a name
abbrev pub joined : Operand → FirstOp → Operand → Option FirstExpr
joined (operand.Name n) op (operand.Name m) = Some (expr.NameName n op m)
joined (operand.Name n) op (operand.Number v) = Some (expr.NameNumber n op v)
joined (operand.Number v) op (operand.Name n) = Some (expr.NumberName v op n)
joined (operand.Number v) op (operand.Number u) = None

-- Operand op Operand
unfoldable pub operation_of : List (List ℕ) → Expr → Operation → Option FirstExpr
operation_of variables first operation =
    and_then (operand_of variables first) (λ left.
    and_then (operator_of operation.operator) (λ operator.
    and_then (operand_of variables operation.operand) (λ right. joined left operator right)))

-- Expr = Operand | Operand op Operand .
unfoldable pub expression_of : List (List ℕ) → Expr → Option FirstExpr
expression_of variables x = elim (out-Expr x) [
  | Expr-F.Binary first rest ↦ and_then (only rest) (operation_of variables first)
  | _ ↦ option_map alone (operand_of variables x)
]

-- the expression that stands alone
abbrev pub only_expression_of : List (List ℕ) → List Expr → Option FirstExpr
only_expression_of variables expressions = and_then (only expressions) (expression_of variables)

-- the variable's number: its place among those that the file declares
abbrev pub variable_of : List (List ℕ) → Expr → Option ℕ
variable_of variables x = and_then (name_of x) (λ name. place name variables)

-- name "++"
abbrev pub increment_of : List (List ℕ) → Expr → StepOperator → Option FirstStmt
increment_of variables x Increment = option_map stmt.Increment (variable_of variables x)
increment_of variables x operator = None

-- name "=" Expr
abbrev pub assignment_of : List (List ℕ) → List Expr → AssignOperator → List Expr → Option FirstStmt
assignment_of variables left Assign right =
    and_then (and_then (only left) (variable_of variables)) (λ n. option_map (stmt.Assign n) (only_expression_of variables right))
assignment_of variables left operator right = None

-- "(" Expr ")"
unfoldable pub argument_of : Step → Option Expr
argument_of s = elim (out-Step s) [ Step-F.Call pos arguments spread ↦ where_true (not spread) (only arguments) | _ ↦ None ]

-- "println"
abbrev pub is_println : Expr → Bool
is_println x = is_named (codes "println") (name_of x)

-- "println" "(" Expr ")"
unfoldable pub called_print_of : List (List ℕ) → Expr → List Step → Option FirstStmt
called_print_of variables called steps =
    where_true (is_println called) (
    and_then (and_then (only steps) argument_of) (λ argument. option_map stmt.Print (expression_of variables argument)))

unfoldable pub print_of : List (List ℕ) → Expr → Option FirstStmt
print_of variables x = elim (out-Expr x) [ Expr-F.Primary called steps ↦ called_print_of variables called steps | _ ↦ None ]

unfoldable pub simple_of : List (List ℕ) → Simple → Option FirstStmt
simple_of variables s = elim (out-Simple s) [
  | Simple-F.Simple::Expr x ↦ print_of variables x
  | Simple-F.Step x pos operator ↦ increment_of variables x operator
  | Simple-F.Simple::Assign left pos operator right ↦ assignment_of variables left operator right
  | _ ↦ None
]

-- Stmt = name "++" | name "=" Expr | "println" "(" Expr ")" | "return" Expr .
unfoldable pub statement_of : List (List ℕ) → Statement → Option FirstStmt
statement_of variables s = elim (out-Statement s) [
  | Statement-F.Simple simple ↦ simple_of variables simple
  | Statement-F.Return pos values ↦ option_map stmt.Return (only_expression_of variables values)
  | _ ↦ None
]

-- whether a `return` stands at the end of a body with a result, and nowhere else
abbrev pub ends_well : Bool → List FirstStmt → Bool
ends_well has_int [] = not has_int
ends_well has_int (stmt.Increment n ∷ body) = ends_well has_int body
ends_well has_int (stmt.Assign n e ∷ body) = ends_well has_int body
ends_well has_int (stmt.Print e ∷ body) = ends_well has_int body
ends_well has_int (stmt.Return e ∷ []) = has_int
ends_well has_int (stmt.Return e ∷ s ∷ body) = false

-- { Stmt ";" }
abbrev pub body_of : List (List ℕ) → Bool → Block → Option (List FirstStmt)
body_of variables has_int block = and_then (each (statement_of variables) block.statements) (λ body. where_true (ends_well has_int body) (Some body))

-- whether the names are the one word
abbrev pub is_word : List ℕ → List Name → Bool
is_word word (name ∷ []) = bytes_eq word name.text
is_word word names = false

-- "cur" "realm"
unfoldable pub is_current_realm : List Parameter → Bool
is_current_realm (parameter ∷ []) = not parameter.variadic && (is_word (codes "cur") parameter.names && is_type (codes "realm") parameter.of)
is_current_realm parameters = false

-- [ "int" ]
abbrev pub is_int_result : Parameter → Bool
is_int_result result = not result.variadic && (is_empty result.names && is_type (codes "int") result.of)

unfoldable pub has_int : List Parameter → Option Bool
has_int [] = Some false
has_int (result ∷ []) = where_true (is_int_result result) (Some true)
has_int results = None

-- "(" "cur" "realm" ")", and no receiver
abbrev pub is_crossing : Function → Bool
is_crossing f = is_none f.receiver && is_current_realm (out-Signature f.signature).parameters

-- name "(" "cur" "realm" ")" [ "int" ] "{" { Stmt ";" } "}"
unfoldable pub function_of : List (List ℕ) → Function → Option FirstFunc
function_of variables f =
    where_true (is_crossing f) (
    and_then (has_int (out-Signature f.signature).results) (λ has_int.
    and_then f.body (λ block. option_map (λ body. record { name = f.name.text; has_int = has_int; body = body }) (body_of variables has_int block))))

-- Func
abbrev pub function_in : List (List ℕ) → TopLevel → Option FirstFunc
function_in variables (top.Function f) = function_of variables f
function_in variables (top.Declaration d) = None

-- "int"
abbrev pub is_int : Option TypeExpr → Bool
is_int (Some t) = is_type (codes "int") t
is_int None = false

-- name "int"
unfoldable pub name_of_variable : VarSpec → Option (List ℕ)
name_of_variable spec = where_true (is_int spec.of && is_empty spec.values) (option_map (λ name. name.text) (only spec.names))

-- "var" name "int" | "var" "(" { name "int" ";" } ")"
unfoldable pub names_of : Declaration → Option (List (List ℕ))
names_of d = elim (out-Declaration d) [ Declaration-F.Var pos specs ↦ each name_of_variable specs | _ ↦ None ]

abbrev pub names_in : TopLevel → Option (List (List ℕ))
names_in (top.Declaration d) = names_of d
names_in (top.Function f) = None

abbrev pub is_declaration : TopLevel → Bool
is_declaration (top.Declaration d) = true
is_declaration (top.Function f) = false

-- the declarations before the first function, and what stands from there on
abbrev pub in_front : List TopLevel → List TopLevel
in_front declared = take (prefix_len is_declaration declared) declared

abbrev pub behind : List TopLevel → List TopLevel
behind declared = drop (prefix_len is_declaration declared) declared

-- names that a file may declare together
unfoldable pub are_names : List (List ℕ) → Bool
are_names names = list_all is_name names && are_distinct names

abbrev pub names_of_functions : List FirstFunc → List (List ℕ)
names_of_functions functions = map (λ f. f.name) functions

-- { Func ";" } and the file that they end, behind its variables
unfoldable pub file_with : List ℕ → List (List ℕ) → List TopLevel → Option FirstFile
file_with name variables declared =
    and_then (each (function_in variables) declared) (λ functions.
    where_true (are_names (variables ++ names_of_functions functions)) (Some (record { name = name; variables = variables; functions = functions })))

-- "package" name ";", and no import
abbrev pub begins_well : FileTree → Bool
begins_well tree = is_name tree.package_name.text && is_empty tree.imports

-- File = "package" name ";" { "var" Vars ";" } { Func ";" } .
unfoldable pub first_of : FileTree → Option FirstFile
first_of tree =
    where_true (begins_well tree) (
    and_then (all_from names_in (in_front tree.declarations)) (λ variables. file_with tree.package_name.text variables (behind tree.declarations)))

-- the tree is the file, in the first form
abbrev pub IsFirstForm : FileTree → FirstFile → Type 0
IsFirstForm tree file = first_of tree ≡ Some file
