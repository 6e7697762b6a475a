-- Types. Go specification, "Types".
--     Type       = name [ "." name ] | "(" Type ")" | "*" Type | "[" "]" Type | "[" ( Expr | "..." ) "]" Type | "map" "[" Type "]" Type
--                | "func" Signature | "struct" "{" { Field ";" } "}" | "interface" "{" { MethodSpec ";" } "}" .
--     Field      = Names Type | [ "*" ] name [ "." name ] .
--     MethodSpec = name Signature | name [ "." name ] .
-- A semicolon may be left out before "}". An array's length is `...` only where elements follow the type.
use Rattle.std.specs.Prelude.{ℕ, Bool, true, false, List, [], ◌∷◌, Option, Some, None}
use Rattle.gno_grammar.specs.Phrases.{nothing, either, both, follow, construct, left_out}
use Rattle.gno_grammar.specs.declared.refusal.LeftOut.TheVariants.{Generics, StructTag, TypeUnion}
use Rattle.gno_scan.specs.declared.kind.TokenKind.TheVariants as k
use Rattle.gno_scan.specs.declared.token.Pos.{Pos}
use Rattle.gno_scan.specs.declared.token.Token.{Token}
use Rattle.gno_tree.specs.declared.type_expr.ArrayLength.TheVariants as al
use Rattle.gno_tree.specs.declared.type_expr.Field.{Field}
use Rattle.gno_tree.specs.declared.type_expr.Field.TheVariants as fd
use Rattle.gno_tree.specs.declared.type_expr.Member.{Member}
use Rattle.gno_tree.specs.declared.type_expr.Member.TheVariants as mb
use Rattle.gno_tree.specs.declared.type_expr.TypeExpr.{TypeExpr}
use Rattle.gno_tree.specs.declared.type_expr.TypeExpr.TheVariants as of_type
use Rattle.gno_tree.specs.declared.type_expr.TypeName.{TypeName}
use Rattle.gno_tree.specs.declared.word.Name.{Name}
use Rattle.gno_rules.specs.Kinds.{numbers}
use Rattle.gno_rules.specs.Parts.{P, a, to, given, past, up_to, closed_list, name, dotted}
use Rattle.gno_rules.specs.Signatures.{signature, type_more, type_read_more, TYPE_MOST, RESULT, qualified, type_by_name, type_name, further_names}
use Rattle.gno_rules.specs.Shapes.{expr_of}
use Rattle.gno_rules.specs.Expressions.{expr}
use Rattle.gno_rules.specs.declared.expression.Found.{Found}
use Rattle.gno_rules.specs.declared.expression.Found.TheVariants as f
use Rattle.gno_rules.specs.declared.expression.Place.TheVariants.{Plain}
use Rattle.gno_rules.specs.declared.rule.Rule.TheVariants as r
use Rattle.gno_rules.specs.declared.types.Length.{Length}
use Rattle.gno_rules.specs.declared.types.Length.TheVariants as l
use Rattle.gno_rules.specs.declared.types.OperandType.{OperandType}
use Rattle.gno_rules.specs.declared.types.SignatureRead.{SignatureRead}
use Rattle.gno_rules.specs.declared.types.TypeEnd.TheVariants.{Closed}
use Rattle.gno_rules.specs.declared.types.TypeRead.{TypeRead}

abbrev pub closed : TypeExpr → TypeRead
closed of = record { of = of; end = Closed }

-- what stands between the brackets of a slice or an array
abbrev pub Bracket : Type 0
Bracket = Pos × Length

abbrev pub of_length : Pos → Length → TypeExpr → TypeExpr
of_length pos l.Nothing element = of_type.Slice pos element
of_length pos (l.Expr e) element = of_type.Array pos (al.Expr e) element
of_length pos l.Elements element = of_type.Array pos al.Elements element

abbrev pub bracketed_type : Bracket → TypeRead → TypeRead
bracketed_type bracket element = record { of = of_length bracket.0 bracket.1 element.of; end = element.end }

abbrev pub pointer_to : Token → TypeRead → TypeRead
pointer_to star of = record { of = of_type.Pointer star.pos of.of; end = of.end }

abbrev pub map_of : Pos × TypeExpr → TypeRead → TypeRead
map_of key value = record { of = of_type.Map key.0 key.1 value.of; end = value.end }

abbrev pub function_type : Token → SignatureRead → TypeRead
function_type func signature = record { of = of_type.Function func.pos signature.signature; end = signature.end }

abbrev pub operand_type : TypeRead → OperandType
operand_type of = record { of = of.of; end = of.end; is_counted = false }

abbrev pub operand_more : OperandType → List ℕ
operand_more of = type_more of.end

abbrev pub is_counted : Length → Bool
is_counted l.Nothing = false
is_counted (l.Expr e) = false
is_counted l.Elements = true

abbrev pub expr_length : Found → Length
expr_length e = l.Expr (expr_of e)

abbrev pub named_fields : Name → List Name → TypeRead → Field
named_fields n ns of = fd.Named (n ∷ ns) of.of

abbrev pub embedded_field : Option Pos → TypeName → Field
embedded_field star of = fd.Embedded star of

module _ (text : List ℕ) where
  -- a type behind something that was read
  abbrev pub before_type : {A : Type 0} → (A → TypeRead → TypeRead) → P A → P TypeRead
  before_type f g = follow type_read_more TYPE_MOST RESULT f g (λ _. construct r.Type)

  -- "*" Type
  unfoldable pub pointer : P TypeRead
  pointer = before_type pointer_to (a k.Star)

  -- "[" "]" | "[" Expr "]"
  unfoldable pub length : P Length
  length = either (to (λ _. l.Nothing) (a k.RightBracket)) (up_to (to expr_length (expr text Plain)) (a k.RightBracket))

  unfoldable pub bracket : P Bracket
  bracket = both (λ t length. (t.pos, length)) (a k.LeftBracket) length

  unfoldable pub array : P TypeRead
  array = before_type bracketed_type bracket

  -- "map" "[" Type "]" Type
  unfoldable pub map_key : P (Pos × TypeExpr)
  map_key = both (λ t key. (t.pos, key.of)) (a k.Map) (past (a k.LeftBracket) (up_to (construct r.Type) (a k.RightBracket)))

  unfoldable pub map : P TypeRead
  map = before_type map_of map_key

  -- "func" Signature
  unfoldable pub function : P TypeRead
  function = follow type_read_more TYPE_MOST (numbers (k.LeftParen ∷ [])) function_type (a k.Func) (λ _. signature text)

  -- Field = Names Type | [ "*" ] name [ "." name ] .  A string behind one is a tag.
  unfoldable pub behind_field_name : P (Name → Field)
  behind_field_name = either (to (λ m n. embedded_field None (qualified n (Some m))) (dotted text))
      (either (both (λ ns of n. named_fields n ns of) (further_names text) (construct r.Type)) (nothing (λ n. embedded_field None (qualified n None))))

  unfoldable pub untagged_field : P Field
  untagged_field = either (both (λ n f. f n) (name text) behind_field_name) (both (λ t of. embedded_field (Some t.pos) of) (a k.Star) (type_name text))

  unfoldable pub field : P Field
  field = up_to untagged_field (left_out StructTag 0 (numbers (k.String ∷ [])) (nothing (tt {0})))

  -- "struct" "{" { Field ";" } "}"
  unfoldable pub struct : P TypeRead
  struct = both (λ t fields. closed (of_type.Struct t.pos fields)) (a k.Struct) (past (a k.LeftBrace) (closed_list k.Semicolon k.RightBrace field))

  -- MethodSpec = name Signature | name [ "." name ] .  A `~` and a `|` belong to unions of types.
  unfoldable pub no_union : P (Unit {0})
  no_union = left_out TypeUnion 0 (numbers (k.Or ∷ [])) (nothing (tt {0}))

  unfoldable pub behind_member_name : P (Name → Member)
  behind_member_name = either (to (λ signature n. mb.Method n signature.signature) (signature text))
      (up_to (either (to (λ m n. mb.Embedded (qualified n (Some m))) (dotted text)) (nothing (λ n. mb.Embedded (qualified n None)))) no_union)

  unfoldable pub member : P Member
  member = left_out TypeUnion 0 (numbers (k.Tilde ∷ [])) (both (λ n f. f n) (name text) behind_member_name)

  -- "interface" "{" { MethodSpec ";" } "}"
  unfoldable pub interface : P TypeRead
  interface = both (λ t members. closed (of_type.Interface t.pos members)) (a k.Interface) (past (a k.LeftBrace) (closed_list k.Semicolon k.RightBrace member))

  -- "(" Type ")"
  unfoldable pub paren_type : P TypeRead
  paren_type = both (λ t of. closed (of_type.Paren t.pos of.of)) (a k.LeftParen) (up_to (construct r.Type) (a k.RightParen))

  -- types that begin with neither a name nor a parenthesis
  unfoldable pub built : P TypeRead
  built = either pointer (either array (either map (either function (either struct interface))))

  unfoldable pub result_type : P TypeRead
  result_type = either (type_by_name text) built

  unfoldable pub other_type : P TypeRead
  other_type = either paren_type built

  unfoldable pub type : P TypeRead
  type = either (type_by_name text) other_type

  -- The type of a declaration. A name and then a name, `,` or `interface` behind its first `[` are parameters of a generic type.
  unfoldable pub no_parameter : P Token
  no_parameter = left_out Generics 2 (numbers (k.Name ∷ k.Comma ∷ k.Interface ∷ [])) (a k.RightBracket)

  unfoldable pub length_end : Found → P Token
  length_end (f.Name n) = no_parameter
  length_end (f.Expr e shape) = a k.RightBracket
  length_end (f.Guard e pos) = a k.RightBracket

  unfoldable pub declared_length : P Length
  declared_length = either (to (λ _. l.Nothing) (a k.RightBracket))
      (follow (λ _. []) [] (numbers (k.Name ∷ k.Comma ∷ k.Interface ∷ k.RightBracket ∷ [])) (λ e _. expr_length e) (expr text Plain) length_end)

  unfoldable pub declared_array : P TypeRead
  declared_array = before_type bracketed_type (both (λ t length. (t.pos, length)) (a k.LeftBracket) declared_length)

  unfoldable pub declared_type : P TypeRead
  declared_type = either (type_by_name text) (either paren_type (either pointer (either declared_array (either map (either function (either struct interface))))))

  -- A type that is an operand. It does not begin with a name, a parenthesis or a `*`.
  unfoldable pub operand_length : P Length
  operand_length = either (to (λ _. l.Elements) (up_to (a k.Ellipsis) (a k.RightBracket))) length

  abbrev pub operand_array : Bracket → TypeRead → OperandType
  operand_array bracket element = record { of = (bracketed_type bracket element).of; end = element.end; is_counted = is_counted bracket.1 }

  unfoldable pub array_operand : P OperandType
  array_operand = follow operand_more TYPE_MOST RESULT operand_array (both (λ t length. (t.pos, length)) (a k.LeftBracket) operand_length) (λ _. construct r.Type)

  unfoldable pub type_operand : P OperandType
  type_operand = either array_operand (given operand_more TYPE_MOST operand_type (either map (either struct interface)))
