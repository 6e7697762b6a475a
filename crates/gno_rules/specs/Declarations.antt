-- Declarations. Go specification, "Declarations and scope" and "Source file organization".
--     File       = "package" name ";" { Import ";" } { Top ";" } .
--     Import     = "import" ( ImportSpec | "(" { ImportSpec ";" } ")" ) .
--     ImportSpec = [ name ] string .
--     Top        = Decl | Func .
--     Decl       = "const" Const | "const" "(" { Const ";" } ")" | "type" TypeSpec | "type" "(" { TypeSpec ";" } ")" | "var" Var | "var" "(" { Var ";" } ")" .
--     Const      = Names [ [ Type ] "=" Exprs ] .
--     TypeSpec   = name [ "=" ] Type .
--     Var        = Names ( Type [ "=" Exprs ] | "=" Exprs ) .
--     Func       = "func" [ "(" [ name ] Type ")" ] name Signature [ Block ] .
-- A semicolon may be left out before ")".
use Rattle.std.specs.Prelude.{ℕ, Bool, true, false, List, [], ◌∷◌, ◌++◌, Option, Some, None}
use Rattle.gno_grammar.specs.Phrases.{nothing, either, both, repeat, optional, construct, left_out}
use Rattle.gno_grammar.specs.declared.refusal.LeftOut.TheVariants.{Generics, DotImport}
use Rattle.gno_scan.specs.declared.kind.TokenKind.TheVariants as k
use Rattle.gno_scan.specs.declared.token.Token.{Token}
use Rattle.gno_tree.specs.declared.declaration.ConstSpec.{ConstSpec}
use Rattle.gno_tree.specs.declared.declaration.Declaration.{Declaration}
use Rattle.gno_tree.specs.declared.declaration.Declaration.TheVariants as d
use Rattle.gno_tree.specs.declared.declaration.TypeSpec.{TypeSpec}
use Rattle.gno_tree.specs.declared.declaration.VarSpec.{VarSpec}
use Rattle.gno_tree.specs.declared.expr.Expr.{Expr}
use Rattle.gno_tree.specs.declared.file.FileTree.{FileTree}
use Rattle.gno_tree.specs.declared.file.Function.{Function}
use Rattle.gno_tree.specs.declared.file.Import.{Import}
use Rattle.gno_tree.specs.declared.file.Receiver.{Receiver}
use Rattle.gno_tree.specs.declared.file.TopLevel.{TopLevel}
use Rattle.gno_tree.specs.declared.file.TopLevel.TheVariants as top
use Rattle.gno_tree.specs.declared.statement.Block.{Block}
use Rattle.gno_tree.specs.declared.type_expr.TypeExpr.{TypeExpr}
use Rattle.gno_tree.specs.declared.type_expr.TypeExpr.TheVariants as t
use Rattle.gno_tree.specs.declared.word.Literal.{Literal}
use Rattle.gno_tree.specs.declared.word.Name.{Name}
use Rattle.gno_rules.specs.Kinds.{numbers}
use Rattle.gno_rules.specs.Parts.{P, a, to, past, up_to, always, with_last, closed_list, literal_of, name, names, dotted}
use Rattle.gno_rules.specs.Signatures.{qualified, signature}
use Rattle.gno_rules.specs.Expressions.{values}
use Rattle.gno_rules.specs.declared.expression.Place.TheVariants.{Plain}
use Rattle.gno_rules.specs.declared.rule.Rule.TheVariants as r
use Rattle.gno_rules.specs.declared.types.SignatureRead.{SignatureRead}

abbrev pub Value : Type 0
Value = Option TypeExpr × List Expr

abbrev pub const_spec : List Name → Value → ConstSpec
const_spec ns value = record { names = ns; of = value.0; values = value.1 }

abbrev pub var_spec : List Name → Value → VarSpec
var_spec ns value = record { names = ns; of = value.0; values = value.1 }

abbrev pub type_spec : Name → Bool × TypeExpr → TypeSpec
type_spec n of = record { name = n; alias = of.0; of = of.1 }

abbrev pub receiver_of : Option Name → TypeExpr → Receiver
receiver_of n of = record { name = n; of = of }

abbrev pub import_of : Option Name → Literal → Import
import_of n path = record { name = n; path = path }

module _ (text : List ℕ) where
  -- one, or any number in parentheses
  abbrev pub one_or_group : {A : Type 0} → P A → P (List A)
  one_or_group spec = either (past (a k.LeftParen) (closed_list k.Semicolon k.RightParen spec)) (to (λ x. x ∷ []) spec)

  -- "=" Exprs
  unfoldable pub initial : P (List Expr)
  initial = past (a k.Assign) (values text Plain)

  -- Const = Names [ [ Type ] "=" Exprs ] .
  unfoldable pub const : P ConstSpec
  const = both const_spec (names text)
      (either (to (λ vs. (None, vs)) initial) (either (both (λ of vs. (Some of.of, vs)) (construct r.Type) initial) (nothing (None, []))))

  -- Var = Names ( Type [ "=" Exprs ] | "=" Exprs ) .
  unfoldable pub var : P VarSpec
  var = both var_spec (names text)
      (either (to (λ vs. (None, vs)) initial) (both (λ of vs. (Some of.of, vs)) (construct r.Type) (either initial (nothing []))))

  -- TypeSpec = name [ "=" ] Type .
  unfoldable pub type : P TypeSpec
  type = both type_spec (name text) (either (to (λ of. (true, of.of)) (past (a k.Assign) (construct r.Type))) (to (λ of. (false, of.of)) (construct r.DeclaredType)))

  unfoldable pub const_declaration : P Declaration
  const_declaration = both (λ t specs. d.Const t.pos specs) (a k.Const) (one_or_group const)

  unfoldable pub type_declaration : P Declaration
  type_declaration = both (λ t specs. d.Type t.pos specs) (a k.Type) (one_or_group type)

  unfoldable pub var_declaration : P Declaration
  var_declaration = both (λ t specs. d.Var t.pos specs) (a k.Var) (one_or_group var)

  unfoldable pub declaration : P Declaration
  declaration = either const_declaration (either type_declaration var_declaration)

  -- [ name ] Type
  unfoldable pub behind_receiver_name : P (Name → Receiver)
  behind_receiver_name = either (to (λ m n. receiver_of None (t.Name (qualified n (Some m)))) (dotted text))
      (either (to (λ of n. receiver_of (Some n) of.of) (construct r.Type)) (nothing (λ n. receiver_of None (t.Name (qualified n None)))))

  unfoldable pub receiver : P Receiver
  receiver = past (a k.LeftParen) (up_to (either (both (λ n f. f n) (name text) behind_receiver_name) (to (λ of. receiver_of None of.of) (construct r.OtherType))) (a k.RightParen))

  -- Func = "func" [ "(" [ name ] Type ")" ] name Signature [ Block ] .  A `[` behind the name is a form left out.
  unfoldable pub function_rest : P (SignatureRead × Option Block)
  function_rest = left_out Generics 0 (numbers (k.LeftBracket ∷ [])) (both (λ signature body. (signature, body)) (signature text) (optional (construct r.Block)))

  unfoldable pub function_named : P (Name × (SignatureRead × Option Block))
  function_named = both (λ n rest. (n, rest)) (name text) function_rest

  abbrev pub function_of : Token → Option Receiver × (Name × (SignatureRead × Option Block)) → Function
  function_of func rest = record { pos = func.pos; receiver = rest.0; name = rest.1.0; signature = rest.1.1.0.signature; body = rest.1.1.1 }

  unfoldable pub function : P Function
  function = both function_of (a k.Func) (both (λ receiver rest. (receiver, rest)) (optional receiver) function_named)

  -- Top = Decl | Func .
  unfoldable pub top_level : P TopLevel
  top_level = either (to top.Declaration declaration) (to top.Function function)

  -- ImportSpec = [ name ] string .
  unfoldable pub import_spec : P Import
  import_spec = left_out DotImport 0 (numbers (k.Period ∷ [])) (both import_of (optional (name text)) (to (literal_of text) (a k.String)))

  unfoldable pub import_declaration : P (List Import)
  import_declaration = past (a k.Import) (one_or_group import_spec)

  unfoldable pub imports : P (List Import)
  imports = repeat always (λ xs ys. xs ++ ys) (nothing []) (up_to import_declaration (a k.Semicolon))

  unfoldable pub top_levels : P (List TopLevel)
  top_levels = repeat always with_last (nothing []) (up_to top_level (a k.Semicolon))

  unfoldable pub package_clause : P (Token × Name)
  package_clause = both (λ t n. (t, n)) (a k.Package) (up_to (name text) (a k.Semicolon))

  -- File = "package" name ";" { Import ";" } { Top ";" } .
  abbrev pub file_of : Token × Name → List Import × List TopLevel → FileTree
  file_of clause rest = record { pos = clause.0.pos; package_name = clause.1; imports = rest.0; declarations = rest.1 }

  unfoldable pub file : P FileTree
  file = both file_of package_clause (both (λ imports tops. (imports, tops)) imports top_levels)
