-- Each file that a tree is in the first form is lawful.
use Rattle.std.proofs.Common.{◌≡◌, ℕ, ◌<◌, ◌^◌, List, [], ◌∷◌, ◌++◌, length, Bool, true, false, Some, None}
use Rattle.std.specs.Prelude.{option_map}
use Rattle.std.proofs.lemmas.Option.{slice_get_within}
use Rattle.gno_tree.specs.declared.file.FileTree.{FileTree}
use Rattle.gno_tree.specs.declared.file.Function.{Function}
use Rattle.gno_tree.specs.declared.file.TopLevel.{TopLevel}
use Rattle.gno_tree.specs.declared.file.TopLevel.TheVariants as top
use Rattle.gno_tree.specs.declared.declaration.Declaration.TheOpen.{Expr-F, Simple-F, Statement-F}
use Rattle.gno_tree.specs.declared.statement.Block.{Block}
use Rattle.gno_tree.specs.declared.statement.Statement.{Statement, out-Statement}
use Rattle.gno_tree.specs.declared.statement.Simple.{Simple, out-Simple}
use Rattle.gno_tree.specs.declared.type_expr.Signature.{out-Signature}
use Rattle.gno_tree.specs.declared.expr.Expr.{Expr, out-Expr}
use Rattle.gno_tree.specs.declared.expr.Step.{Step}
use Rattle.gno_tree.specs.declared.expr.Operation.{Operation}
use Rattle.gno_tree.specs.declared.word.LiteralKind.{LiteralKind}
use Rattle.gno_tree.specs.declared.word.LiteralKind.TheVariants.{Integer, Rune, String}
use Rattle.gno_tree.specs.declared.operator.AssignOperator.{AssignOperator}
use Rattle.gno_tree.specs.declared.operator.AssignOperator.TheVariants as assign
use Rattle.gno_tree.specs.declared.operator.StepOperator.{StepOperator}
use Rattle.gno_tree.specs.declared.operator.StepOperator.TheVariants.{Increment, Decrement}
use Rattle.gno_first.specs.declared.tree.FirstFile.{FirstFile}
use Rattle.gno_first.specs.declared.tree.FirstFunc.{FirstFunc}
use Rattle.gno_first.specs.declared.tree.FirstStmt.{FirstStmt}
use Rattle.gno_first.specs.declared.tree.FirstStmt.TheVariants as stmt
use Rattle.gno_first.specs.declared.tree.FirstOp.{FirstOp}
use Rattle.gno_first.specs.declared.operand.Operand.{Operand}
use Rattle.gno_first.specs.declared.operand.Operand.TheVariants as operand
use Rattle.gno_first.specs.Form.{
  name_of,
  number_in,
  number_of,
  operand_of,
  operator_of,
  alone,
  joined,
  operation_of,
  expression_of,
  only_expression_of,
  variable_of,
  increment_of,
  assignment_of,
  is_println,
  argument_of,
  called_print_of,
  print_of,
  simple_of,
  statement_of,
  ends_well,
  body_of,
  is_crossing,
  has_int,
  function_of,
  function_in,
  names_in,
  in_front,
  behind,
  are_names,
  names_of_functions,
  file_with,
  begins_well,
  first_of,
}
use Rattle.gno_first.specs.Lawful.{IsExprIn, IsStmtIn, IsBodyIn, AreFuncsIn, IsLawful}
use Rattle.gno_first.specs.Literals.{literal_of}
use Rattle.gno_first.specs.Options.{and_then, only, each, all_from}
use Rattle.gno_first.specs.Places.{place}
use Rattle.gno_first.proofs.Declaring.{as_names}
use Rattle.gno_first.proofs.Holds.{Holds, AllOf, holds_if, holds_at, holds_then, holds_map, holds_true, holds_each}
use Rattle.gno_first.proofs.Places.{place_is}
use Rattle.gno_first.proofs.Spellings.{literal_spells}

-- operands
abbrev IsOperandIn : ℕ → Operand → Type 0
IsOperandIn count (operand.Name n) = n < count
IsOperandIn count (operand.Number v) = v < 10 ^ 18

placed : (variables : List (List ℕ)) (name : List ℕ) → Holds (λ n. n < length variables) (place name variables)
placed variables name = holds_if (λ n. n < length variables) (place name variables) (λ n e. slice_get_within variables n name (place_is name variables n e))

numbered_in : (kind : LiteralKind) (spelling : List ℕ) → Holds (λ v. v < 10 ^ 18) (number_in kind spelling)
numbered_in Integer spelling = holds_if (λ v. v < 10 ^ 18) (literal_of spelling) (λ v e. (literal_spells spelling v e).small)
numbered_in Rune spelling = tt
numbered_in String spelling = tt

operand_in : (variables : List (List ℕ)) (x : Expr) → Holds (IsOperandIn (length variables)) (operand_of variables x)
unfolding operand_of
operand_in variables x = elim (out-Expr x) as (λ layer. Holds (IsOperandIn (length variables)) (elim layer [
  | Expr-F.Expr::Name name ↦ option_map operand.Name (place name.text variables)
  | Expr-F.Literal literal ↦ option_map operand.Number (number_of literal)
  | _ ↦ None
])) [
  | Expr-F.Expr::Name name ↦ holds_map (IsOperandIn (length variables)) operand.Name (place name.text variables) (placed variables name.text)
  | Expr-F.Literal literal ↦ holds_map (IsOperandIn (length variables)) operand.Number (number_of literal) (numbered_in literal.kind literal.spelling)
  | _ ↦ tt
]

alone_in : (count : ℕ) (o : Operand) → IsOperandIn count o → IsExprIn count (alone o)
alone_in count (operand.Name n) h = h
alone_in count (operand.Number v) h = h

joined_in : (count : ℕ) (left : Operand) (op : FirstOp) (right : Operand) → IsOperandIn count left → IsOperandIn count right → Holds (IsExprIn count) (joined left op right)
joined_in count (operand.Name n) op (operand.Name m) h k = (h, k)
joined_in count (operand.Name n) op (operand.Number v) h k = (h, k)
joined_in count (operand.Number v) op (operand.Name n) h k = (h, k)
joined_in count (operand.Number v) op (operand.Number u) h k = tt

operation_in : (variables : List (List ℕ)) (first : Expr) (operation : Operation) → Holds (IsExprIn (length variables)) (operation_of variables first operation)
unfolding operation_of
operation_in variables first operation =
    let count = length variables in
    holds_then (IsExprIn count) (operand_of variables first) _ (λ left e.
    holds_then (IsExprIn count) (operator_of operation.operator) _ (λ op _.
    holds_then (IsExprIn count) (operand_of variables operation.operand) _ (λ right d.
    joined_in count left op right (holds_at (IsOperandIn count) _ left (operand_in variables first) e) (holds_at (IsOperandIn count) _ right (operand_in variables operation.operand) d))))

lone_in : (variables : List (List ℕ)) (x : Expr) → Holds (IsExprIn (length variables)) (option_map alone (operand_of variables x))
lone_in variables x = holds_map (IsExprIn (length variables)) alone (operand_of variables x)
    (holds_if (λ o. IsExprIn (length variables) (alone o)) (operand_of variables x) (λ o e. alone_in (length variables) o (holds_at (IsOperandIn (length variables)) _ o (operand_in variables x) e)))

expression_in : (variables : List (List ℕ)) (x : Expr) → Holds (IsExprIn (length variables)) (expression_of variables x)
unfolding expression_of
expression_in variables x = elim (out-Expr x) as (λ layer. Holds (IsExprIn (length variables)) (elim layer [
  | Expr-F.Binary first rest ↦ and_then (only rest) (operation_of variables first)
  | _ ↦ option_map alone (operand_of variables x)
])) [
  | Expr-F.Binary first rest ↦ holds_then (IsExprIn (length variables)) (only rest) (operation_of variables first) (λ operation _. operation_in variables first operation)
  | _ ↦ lone_in variables x
]

only_expression_in : (variables : List (List ℕ)) (xs : List Expr) → Holds (IsExprIn (length variables)) (only_expression_of variables xs)
only_expression_in variables xs = holds_then (IsExprIn (length variables)) (only xs) (expression_of variables) (λ x _. expression_in variables x)

variable_in : (variables : List (List ℕ)) (x : Expr) → Holds (λ n. n < length variables) (variable_of variables x)
variable_in variables x = holds_then (λ n. n < length variables) (name_of x) _ (λ name _. placed variables name)

increment_in : (variables : List (List ℕ)) (x : Expr) (operator : StepOperator) → Holds (IsStmtIn (length variables)) (increment_of variables x operator)
increment_in variables x Increment = holds_map (IsStmtIn (length variables)) stmt.Increment (variable_of variables x) (variable_in variables x)
increment_in variables x Decrement = tt

assignment_in : (variables : List (List ℕ)) (left : List Expr) (operator : AssignOperator) (right : List Expr) → Holds (IsStmtIn (length variables)) (assignment_of variables left operator right)
assignment_in variables left assign.Assign right =
    let count = length variables in
    holds_then (IsStmtIn count) (and_then (only left) (variable_of variables)) _ (λ n e.
    let inside : n < count = holds_at (λ k. k < count) _ n (holds_then (λ k. k < count) (only left) (variable_of variables) (λ x _. variable_in variables x)) e in
    holds_map (IsStmtIn count) (stmt.Assign n) (only_expression_of variables right)
    (holds_if (λ x. (n < count) × IsExprIn count x) (only_expression_of variables right) (λ x d. (inside, holds_at (IsExprIn count) _ x (only_expression_in variables right) d))))
assignment_in variables left _ right = tt

called_print_in : (variables : List (List ℕ)) (called : Expr) (steps : List Step) → Holds (IsStmtIn (length variables)) (called_print_of variables called steps)
unfolding called_print_of
called_print_in variables called steps =
    holds_true (IsStmtIn (length variables)) (is_println called) _ (λ _.
    holds_then (IsStmtIn (length variables)) (and_then (only steps) argument_of) _ (λ x _.
    holds_map (IsStmtIn (length variables)) stmt.Print (expression_of variables x) (expression_in variables x)))

print_in : (variables : List (List ℕ)) (x : Expr) → Holds (IsStmtIn (length variables)) (print_of variables x)
unfolding print_of
print_in variables x = elim (out-Expr x) as (λ layer. Holds (IsStmtIn (length variables)) (elim layer [ Expr-F.Primary called steps ↦ called_print_of variables called steps | _ ↦ None ]))
    [ Expr-F.Primary called steps ↦ called_print_in variables called steps | _ ↦ tt ]

simple_in : (variables : List (List ℕ)) (s : Simple) → Holds (IsStmtIn (length variables)) (simple_of variables s)
unfolding simple_of
simple_in variables s = elim (out-Simple s) as (λ layer. Holds (IsStmtIn (length variables)) (elim layer [
  | Simple-F.Simple::Expr x ↦ print_of variables x
  | Simple-F.Step x pos operator ↦ increment_of variables x operator
  | Simple-F.Simple::Assign left pos operator right ↦ assignment_of variables left operator right
  | _ ↦ None
])) [
  | Simple-F.Simple::Expr x ↦ print_in variables x
  | Simple-F.Step x pos operator ↦ increment_in variables x operator
  | Simple-F.Simple::Assign left pos operator right ↦ assignment_in variables left operator right
  | _ ↦ tt
]

statement_in : (variables : List (List ℕ)) (s : Statement) → Holds (IsStmtIn (length variables)) (statement_of variables s)
unfolding statement_of
statement_in variables s = elim (out-Statement s) as (λ layer. Holds (IsStmtIn (length variables)) (elim layer [
  | Statement-F.Simple simple ↦ simple_of variables simple
  | Statement-F.Return pos values ↦ option_map stmt.Return (only_expression_of variables values)
  | _ ↦ None
])) [
  | Statement-F.Simple simple ↦ simple_in variables simple
  | Statement-F.Return pos values ↦ holds_map (IsStmtIn (length variables)) stmt.Return (only_expression_of variables values) (only_expression_in variables values)
  | _ ↦ tt
]

body_is : (count : ℕ) (has_int : Bool) (body : List FirstStmt) → AllOf (IsStmtIn count) body → ends_well has_int body ≡ true → IsBodyIn count has_int body
body_is count false [] all e = tt
body_is count true [] all e = cc
body_is count false (stmt.Increment n ∷ body) all e = (all.0, body_is count false body all.1 e)
body_is count true (stmt.Increment n ∷ body) all e = (all.0, body_is count true body all.1 e)
body_is count false (stmt.Assign n x ∷ body) all e = (all.0, body_is count false body all.1 e)
body_is count true (stmt.Assign n x ∷ body) all e = (all.0, body_is count true body all.1 e)
body_is count false (stmt.Print x ∷ body) all e = (all.0, body_is count false body all.1 e)
body_is count true (stmt.Print x ∷ body) all e = (all.0, body_is count true body all.1 e)
body_is count true (stmt.Return x ∷ []) all e = all.0
body_is count false (stmt.Return x ∷ []) all e = cc
body_is count false (stmt.Return x ∷ s ∷ body) all e = cc
body_is count true (stmt.Return x ∷ s ∷ body) all e = cc

body_in : (variables : List (List ℕ)) (has_int : Bool) (block : Block) → Holds (IsBodyIn (length variables) has_int) (body_of variables has_int block)
body_in variables has_int block =
    let count = length variables in
    holds_then (IsBodyIn count has_int) (each (statement_of variables) block.statements) _ (λ body e.
    holds_true (IsBodyIn count has_int) (ends_well has_int body) (Some body) (λ ends.
    body_is count has_int body (holds_at (AllOf (IsStmtIn count)) _ body (holds_each (IsStmtIn count) (statement_of variables) (statement_in variables) block.statements) e) ends))

abbrev IsFuncIn : ℕ → FirstFunc → Type 0
IsFuncIn count f = IsBodyIn count f.has_int f.body

function_is : (variables : List (List ℕ)) (f : Function) → Holds (IsFuncIn (length variables)) (function_of variables f)
unfolding function_of
function_is variables f =
    let count = length variables in
    holds_true (IsFuncIn count) (is_crossing f) _ (λ _.
    holds_then (IsFuncIn count) (has_int (out-Signature f.signature).results) _ (λ result _.
    holds_then (IsFuncIn count) f.body _ (λ block _.
    holds_map (IsFuncIn count) (λ body. record { name = f.name.text; has_int = result; body = body }) (body_of variables result block) (body_in variables result block))))

function_in_is : (variables : List (List ℕ)) (declared : TopLevel) → Holds (IsFuncIn (length variables)) (function_in variables declared)
function_in_is variables (top.Function f) = function_is variables f
function_in_is variables (top.Declaration d) = tt

functions_are : (count : ℕ) (functions : List FirstFunc) → AllOf (IsFuncIn count) functions → AreFuncsIn count functions
functions_are count [] all = tt
functions_are count (f ∷ fs) all = (all.0, functions_are count fs all.1)

file_is : (name : List ℕ) (variables : List (List ℕ)) (declared : List TopLevel) → Holds IsLawful (file_with name variables declared)
unfolding file_with
file_is name variables declared =
    let count = length variables in
    holds_then IsLawful (each (function_in variables) declared) _ (λ functions e.
    holds_true IsLawful (are_names (variables ++ names_of_functions functions)) _ (λ stand.
    let names = as_names (variables ++ names_of_functions functions) stand in
    record {
      names = names.each;
      differ = names.differ;
      functions = functions_are count functions (holds_at (AllOf (IsFuncIn count)) _ functions (holds_each (IsFuncIn count) (function_in variables) (function_in_is variables) declared) e);
    }))

lawful_if : (tree : FileTree) → Holds IsLawful (first_of tree)
unfolding first_of
lawful_if tree = holds_true IsLawful (begins_well tree) _ (λ _. holds_then IsLawful (all_from names_in (in_front tree.declarations)) _ (λ variables _. file_is tree.package_name.text variables (behind tree.declarations)))

pub lawful_of : (tree : FileTree) (file : FirstFile) → first_of tree ≡ Some file → IsLawful file
lawful_of tree file e = holds_at IsLawful (first_of tree) file (lawful_if tree) e
