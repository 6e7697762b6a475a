-- Which verdicts are right for an expression and for a type as they are written. Each is judged after its parts, in source order. Go specification, "Expressions"
-- and "Types"; which faults are told is this project's own.
use Rattle.std.specs.Prelude.{ℕ, ◌≡◌, ◌⊎◌, ◌+◌, ◌++◌, List, [], ◌∷◌, Bool, true, false, ◌||◌, ◌&&◌, length, Option, Some, None, option_map}
use Rattle.gno_constants.specs.declared.constant.Constant.{Constant}
use Rattle.gno_literals.specs.Literals.{Spells}
use Rattle.gno_scan.specs.declared.token.Pos.{Pos}
use Rattle.gno_terms.specs.declared.term.FieldOf.{FieldOf}
use Rattle.gno_terms.specs.declared.term.GoType.{GoType}
use Rattle.gno_terms.specs.declared.term.MethodOf.{MethodOf}
use Rattle.gno_terms.specs.declared.term.TermOf.TheVariants as t
use Rattle.gno_terms.specs.Tables.{Table, Underlying}
use Rattle.gno_terms.specs.Terms.{term_of, type_of}
use Rattle.gno_tree.specs.declared.expr.Element.{Element}
use Rattle.gno_tree.specs.declared.expr.Expr.{Expr, out-Expr}
use Rattle.gno_tree.specs.declared.declaration.Declaration.TheOpen.{ArrayLength-F, Expr-F, Member-F, Part-F, Step-F, TypeExpr-F}
use Rattle.gno_tree.specs.declared.expr.Expr.TheVariants as x
use Rattle.gno_tree.specs.declared.expr.Operation.{Operation}
use Rattle.gno_tree.specs.declared.expr.Part.{Part, out-Part}
use Rattle.gno_tree.specs.declared.expr.Part.TheVariants as part
use Rattle.gno_tree.specs.declared.expr.Step.{Step, out-Step}
use Rattle.gno_tree.specs.declared.expr.Step.TheVariants as step
use Rattle.gno_tree.specs.declared.operator.UnaryOperator.{UnaryOperator}
use Rattle.gno_tree.specs.declared.operator.UnaryOperator.TheVariants as u
use Rattle.gno_tree.specs.declared.statement.Block.{Block}
use Rattle.gno_tree.specs.declared.type_expr.Field.{Field}
use Rattle.gno_tree.specs.declared.type_expr.Field.TheVariants as field
use Rattle.gno_tree.specs.declared.type_expr.ArrayLength.{out-ArrayLength}
use Rattle.gno_tree.specs.declared.type_expr.ArrayLength.TheVariants as size
use Rattle.gno_tree.specs.declared.type_expr.Member.{Member, out-Member}
use Rattle.gno_tree.specs.declared.type_expr.Member.TheVariants as member
use Rattle.gno_tree.specs.declared.type_expr.Parameter.{Parameter}
use Rattle.gno_tree.specs.declared.type_expr.Signature.{Signature, out-Signature}
use Rattle.gno_tree.specs.declared.type_expr.TypeExpr.{TypeExpr, out-TypeExpr}
use Rattle.gno_tree.specs.declared.type_expr.TypeExpr.TheVariants as ty
use Rattle.gno_tree.specs.declared.type_expr.TypeName.{TypeName}
use Rattle.gno_tree.specs.declared.word.Literal.{Literal}
use Rattle.gno_tree.specs.declared.word.LiteralKind.{LiteralKind}
use Rattle.gno_tree.specs.declared.word.LiteralKind.TheVariants as kind
use Rattle.gno_tree.specs.declared.word.Name.{Name}
use Rattle.gno_tree_typing.specs.Composites.{FieldPlace, Filled, Gathered, HasItems, IndexKey, Item, Key, ListKind, MapItem, MapKey, elided, field_given, filled, gathered, key_found, list_literal, map_key, map_literal, no_key, nothing_gathered, one_gathered, place_of, has_keys, is_found, struct_literal}
use Rattle.gno_tree_typing.specs.WrittenTypes.{Distinct, array_length, array_type, distinct, embedded_field, embedded_methods, field_of_struct, interface_method, interface_type, map_type, qualified_type, struct_type, type_named, with_embedded}
use Rattle.gno_typed.specs.declared.elements.FieldValueOf.{FieldValueOf}
use Rattle.gno_typed.specs.declared.code.CodeId.{CodeId}
use Rattle.gno_typed.specs.declared.expr.TypedExprOf.TheVariants as w
use Rattle.gno_typing.specs.Assertions.{assertion}
use Rattle.gno_typing.specs.Binary.{binary}
use Rattle.gno_typing.specs.Builtins.{Builtin, builtin}
use Rattle.gno_typing.specs.Calls.{call, each_alone, not_called, several_in, times}
use Rattle.gno_typing.specs.Conversions.{conversion}
use Rattle.gno_typing.specs.Giving.{both, made}
use Rattle.gno_typing.specs.Indexes.{HasKeys, index}
use Rattle.gno_typing.specs.Names.{Meaning, builtin_of, named}
use Rattle.gno_typing.specs.Operands.{as_value}
use Rattle.gno_typing.specs.Pointers.{PointsAt, address, dereference, pointer_to}
use Rattle.gno_typing.specs.Selectors.{selector}
use Rattle.gno_typing.specs.Slices.{Bounds, slice}
use Rattle.gno_typing.specs.Unary.{unary}
use Rattle.gno_typing.specs.Verdicts.{Verdict, After, AfterBoth, bad, good, on, unjudged}
use Rattle.gno_typing.specs.declared.form.FormOf.TheVariants as f
use Rattle.gno_typing.specs.declared.operand.OperandOf.{OperandOf}
use Rattle.gno_typing.specs.declared.operand.OperandOf.TheVariants as o
use Rattle.gno_typing.specs.declared.value.Standing.TheVariants as st
use Rattle.gno_typing.specs.declared.value.ValueOf.{ValueOf}
use Rattle.gno_typing.specs.declared.value.ValueOf.TheVariants as v

-- what an expression stands in
pub record Context : Type 0 where
  pub table : Table
  -- the path of the package
  pub path : List ℕ
  -- the names in scope, and those that each package declares at its level
  pub names : List Meaning
  pub exports : List ℕ → List Meaning
  -- whether it stands in the body of a crossing function, outside function literals
  pub direct : Bool
  -- the numbers of the function literals, by their places
  pub number : Pos → ℕ

-- a part that was judged, and what is judged behind it
abbrev pub Behind : {A B : Type 0} → Verdict A → (A → Verdict B → Type 0) → Verdict B → Type 0
Behind part go = After (λ a. a ≡ part) go

abbrev pub BehindBoth : {A B C : Type 0} → Verdict A → Verdict B → (A → B → Verdict C → Type 0) → Verdict C → Type 0
BehindBoth left right go = AfterBoth (λ a. a ≡ left) (λ b. b ≡ right) go

-- one verdict after another, as a list
abbrev pub first_of_list : {A : Type 0} → Verdict A → Verdict (List A) → Verdict (List A)
first_of_list v w = both (λ a xs. a ∷ xs) v w

-- ---- literals

abbrev pub untyped_of : LiteralKind → GoType
untyped_of kind.Integer = type_of t.UntypedWhole
untyped_of kind.Rune = type_of t.UntypedRune
untyped_of kind.String = type_of t.UntypedText

-- the constant that it spells; an integer may be too wide
abbrev pub literal : Literal → Verdict (OperandOf GoType) → Type 0
literal l y = ((value : Constant) × Spells l.kind l.spelling value × good (o.Value (v.Constant l.pos (untyped_of l.kind) value)) y)
    ⊎ (((value : Constant) → Spells l.kind l.spelling value → ⊥) × bad 42 l.pos y)

-- ---- calls

-- `T(x)` takes one argument
abbrev pub converted_one : Table → Pos → GoType → Option (OperandOf GoType) → Verdict (OperandOf GoType) → Type 0
converted_one table place s None = unjudged
converted_one table place s (Some a) = conversion table place s a

abbrev pub converted : Table → Pos → GoType → Bool → List (Option (OperandOf GoType)) → Verdict (OperandOf GoType) → Type 0
converted table place s false (a ∷ []) = converted_one table place s a
converted table place s spread xs = not_called 50 place xs

abbrev pub builtin_called : Option Builtin → Table → Pos → Bool → List (Option (OperandOf GoType)) → Verdict (OperandOf GoType) → Type 0
builtin_called None table place spread xs = bad 41 place
builtin_called (Some function) table place spread xs = builtin function table place spread xs

-- a conversion, a predeclared function or a function. Arguments of what was not found are judged alone
abbrev pub call_of : Context → Pos → Bool → List (Option (OperandOf GoType)) → OperandOf GoType → Verdict (OperandOf GoType) → Type 0
call_of context place spread xs (o.Type at s) = converted context.table place s spread xs
call_of context place spread xs (o.Builtin at name) = builtin_called (builtin_of name) context.table place spread xs
call_of context place spread xs a = call context.path context.direct context.table place spread a xs

abbrev pub step_called : Context → Pos → Bool → List (Option (OperandOf GoType)) → Option (OperandOf GoType) → Verdict (OperandOf GoType) → Type 0
step_called context place spread xs None = After (each_alone (several_in xs) xs) (λ ys. unjudged)
step_called context place spread xs (Some a) = call_of context place spread xs a

-- ---- operators

abbrev pub value_of : (ValueOf GoType → Verdict (ValueOf GoType) → Type 0) → OperandOf GoType → Verdict (OperandOf GoType) → Type 0
value_of go a = After (After (as_value a) go) (λ b. good (o.Value b))

abbrev pub unary_of : Table → Pos → UnaryOperator → OperandOf GoType → Verdict (OperandOf GoType) → Type 0
unary_of table place u.Dereference a = dereference table place a
unary_of table place u.Address a = address place a
unary_of table place operator a = value_of (unary table place operator) a

-- ---- types

-- the type of a literal; `[...]element` is as long as its elements
pub data LiteralType : Type 0 where
  Whole : GoType → LiteralType
  Open : GoType → LiteralType

abbrev pub place_by : Option Name → Name → Pos
place_by None name = name.pos
place_by (Some qualifier) name = qualifier.pos

abbrev pub name_of_type : Context → Option Name → Name → Verdict GoType → Type 0
name_of_type context None name = type_named context.names name
name_of_type context (Some qualifier) name = qualified_type context.exports context.names qualifier name

-- the place of its first token
abbrev pub type_place : TypeExpr → Pos
type_place x = elim (out-TypeExpr x) [
  | TypeExpr-F.TypeExpr::Name n ↦ place_by n.qualifier n.name
  | TypeExpr-F.TypeExpr::Paren at inner ↦ at
  | TypeExpr-F.Pointer at to ↦ at
  | TypeExpr-F.TypeExpr::Slice at element ↦ at
  | TypeExpr-F.Array at size element ↦ at
  | TypeExpr-F.Map at key value ↦ at
  | TypeExpr-F.TypeExpr::Function at signature ↦ at
  | TypeExpr-F.Struct at fields ↦ at
  | TypeExpr-F.Interface at members ↦ at
]

-- an operand that is the type of a literal
abbrev pub as_literal_type : Pos → OperandOf GoType → Verdict LiteralType → Type 0
as_literal_type at (o.Type place s) = good (LiteralType.Whole s)
as_literal_type at (o.OpenArray place element) = good (LiteralType.Open element)
as_literal_type at a = bad 41 at

abbrev pub pointed_literal : Pos → LiteralType → Verdict LiteralType → Type 0
pointed_literal at (LiteralType.Whole s) = good (LiteralType.Whole (pointer_to s))
pointed_literal at (LiteralType.Open element) = bad 41 at

-- a parameter, or parameters, of one type
abbrev pub list_of : Bool → GoType → GoType
list_of true s = type_of (t.Slice s)
list_of false s = s

abbrev pub how_many : List Name → ℕ
how_many [] = 1
how_many (n ∷ ns) = length (n ∷ ns)

abbrev pub parameter_types : Parameter → GoType → List GoType
parameter_types p s = times (how_many p.names) (list_of p.variadic s)

abbrev pub names_of_all : List Parameter → List Name
names_of_all [] = []
names_of_all (p ∷ ps) = p.names ++ names_of_all ps

-- the last one is variadic
abbrev pub is_variadic : List Parameter → Bool
is_variadic [] = false
is_variadic (p ∷ []) = p.variadic
is_variadic (p ∷ q ∷ ps) = is_variadic (q ∷ ps)

abbrev pub function_type : Bool → List GoType → List GoType → GoType
function_type variadic params results = type_of (t.Function params variadic results)

-- what stands behind names that are distinct
abbrev pub behind_names : {A : Type 0} → Distinct → A → A
behind_names fresh a = a

abbrev pub fields_of : List ℕ → List Name → GoType → List (FieldOf GoType)
fields_of path [] s = []
fields_of path (n ∷ ns) s = field_of_struct path n.text false s ∷ fields_of path ns s

abbrev pub star_place : Option Pos → Option Name → Name → Pos
star_place None qualifier name = place_by qualifier name
star_place (Some at) qualifier name = at

abbrev pub method_names : List Member → List Name
method_names [] = []
method_names (m ∷ ms) = elim (out-Member m) [ Member-F.Method name signature ↦ name ∷ method_names ms | Member-F.Member::Embedded of ↦ method_names ms ]

abbrev pub is_open : TypeExpr → Bool
is_open x = elim (out-TypeExpr x) [ TypeExpr-F.Array at n element ↦ elim (out-ArrayLength n) [ ArrayLength-F.ArrayLength::Elements ↦ true | _ ↦ false ] | _ ↦ false ]

abbrev pub is_name : Expr → Bool
is_name e = elim (out-Expr e) [ Expr-F.Expr::Name name ↦ true | _ ↦ false ]

abbrev pub is_selector : Step → Bool
is_selector s = elim (out-Step s) [ Step-F.Selector at name ↦ true | _ ↦ false ]

abbrev pub is_one_selector : List Step → Bool
is_one_selector [] = false
is_one_selector (s ∷ []) = is_selector s
is_one_selector (s ∷ more ∷ steps) = false

abbrev pub is_dereference : UnaryOperator → Bool
is_dereference u.Dereference = true
is_dereference operator = false

-- it reads as a type
abbrev pub is_type_operand : Expr → Bool
is_type_operand e = elim (out-Expr e) [ Expr-F.Expr::Name name ↦ true | Expr-F.Expr::Paren at inner ↦ true | Expr-F.Expr::Type of ↦ true | Expr-F.Unary at operator operand ↦ is_dereference operator | Expr-F.Primary operand steps ↦ is_name operand && is_one_selector steps | _ ↦ false ]

-- ---- bounds of a slice

pub record Upper : Type 0 where
  pub high : Option (OperandOf GoType)
  pub max : Option (OperandOf GoType)

abbrev pub pair : Option (OperandOf GoType) → Option (OperandOf GoType) → Upper
pair high max = record { high = high; max = max }

abbrev pub three : Option (OperandOf GoType) → Upper → Bounds (OperandOf GoType)
three low upper = record { low = low; high = upper.high; max = upper.max }

abbrev pub bound_by : ValueOf GoType → Option (OperandOf GoType)
bound_by a = Some (o.Value a)

abbrev pub bounds_of : Verdict (Option (OperandOf GoType)) → Verdict (Option (OperandOf GoType)) → Verdict (Option (OperandOf GoType)) → Verdict (Bounds (OperandOf GoType))
bounds_of a b c = both three a (both pair b c)

-- ---- literals with elements

-- parts that were judged alone give nothing
pub record Alone : Type 0 where

abbrev pub alone : Alone
alone = record {}

pub record IsStruct (table : Table) (s : GoType) (fields : List (FieldOf GoType)) : Type 0 where
  pub underlying : GoType
  pub by : Underlying table s underlying
  pub is : term_of underlying ≡ t.Struct fields

-- the types of which there are literals
pub data HasLiterals (table : Table) (s : GoType) : Type 0 where
  a_struct : (fields : List (FieldOf GoType)) → IsStruct table s fields → HasLiterals table s
  a_list : (kind : ListKind) (element : GoType) → HasItems table s kind element → HasLiterals table s
  a_map : (key value : GoType) → HasKeys table s key value → HasLiterals table s

abbrev pub key_of : Option Part → Key
key_of None = Key.Absent
key_of (Some p) = elim (out-Part p) [ Part-F.Part::Expr e ↦ elim (out-Expr e) [ Expr-F.Expr::Name n ↦ Key.Field n.text | _ ↦ Key.Other ] | Part-F.Part::Elements at es ↦ Key.Other ]

abbrev pub keys_of : List Element → List Key
keys_of [] = []
keys_of (e ∷ es) = key_of e.key ∷ keys_of es

abbrev pub item_of : IndexKey → Filled → Gathered Item
item_of key x = one_gathered x.calls (record { key = key; value = x.form })

abbrev pub pair_item : MapKey → Filled → Gathered MapItem
pair_item key x = one_gathered (key.calls || x.calls) (record { key = key.form; constant = key.constant; value = x.form })

abbrev pub code_of : Context → Pos → CodeId
code_of context at = record { «package» = context.path; number = context.number at }

abbrev pub function_value : Context → Pos → GoType → Verdict (OperandOf GoType) → Type 0
function_value context at s = good (o.Value (v.Typed at s st.Result false (f.Whole (w.Literal at s (code_of context at)))))

-- ---- the whole

mutual
  pub data Judges (context : Context) : Expr → Verdict (OperandOf GoType) → Type 0 where
    literal_expr : {e : Expr} {y : Verdict (OperandOf GoType)} (l : Literal) → e ≡ x.Literal l → literal l y → Judges context e y
    name_expr : {e : Expr} {y : Verdict (OperandOf GoType)} (n : Name) → e ≡ x.Name n → named context.names n.pos n.text y → Judges context e y
    paren_expr : {e : Expr} {y : Verdict (OperandOf GoType)} (at : Pos) (inner : Expr) → e ≡ x.Paren at inner → Judges context inner y → Judges context e y
    composite_expr : {e : Expr} {y : Verdict (OperandOf GoType)} (of : Expr) (at first : Pos) (es : List Element) (z : Verdict LiteralType) (elements : Verdict (ValueOf GoType)) → e ≡ x.Composite of at es → JudgesLiteralType context of at first z → JudgesElements context first z.form es elements
        → y ≡ record { form = option_map o.Value elements.form; faults = z.faults ++ elements.faults } → Judges context e y
    function_expr : {e : Expr} {y : Verdict (OperandOf GoType)} (at : Pos) (signature : Signature) (body : Block) (z : Verdict GoType) → e ≡ x.Function at signature body → JudgesSignature context signature z → Behind z (function_value context at) y → Judges context e y
    type_expr : {e : Expr} {y : Verdict (OperandOf GoType)} (of : TypeExpr) (z : Verdict GoType) → e ≡ x.Type of → is_open of ≡ false → JudgesType context of z → Behind z (λ s. good (o.Type (type_place of) s)) y → Judges context e y
    open_array : {e : Expr} {y : Verdict (OperandOf GoType)} (of element : TypeExpr) (at : Pos) (z : Verdict GoType) → e ≡ x.Type of → of ≡ ty.Array at size.Elements element → JudgesType context element z → Behind z (λ s. good (o.OpenArray at s)) y → Judges context e y
    primary_expr : {e : Expr} {y : Verdict (OperandOf GoType)} (operand : Expr) (steps : List Step) (z : Verdict (OperandOf GoType)) → e ≡ x.Primary operand steps → Judges context operand z → JudgesSteps context z steps y → Judges context e y
    unary_expr : {e : Expr} {y : Verdict (OperandOf GoType)} (at : Pos) (operator : UnaryOperator) (operand : Expr) (z : Verdict (OperandOf GoType)) → e ≡ x.Unary at operator operand → Judges context operand z → Behind z (unary_of context.table at operator) y → Judges context e y
    binary_expr : {e : Expr} {y : Verdict (OperandOf GoType)} (first : Expr) (rest : List Operation) (z : Verdict (OperandOf GoType)) → e ≡ x.Binary first rest → Judges context first z → JudgesOperations context z rest y → Judges context e y

  -- operators behind what was judged
  pub data JudgesOperations (context : Context) : Verdict (OperandOf GoType) → List Operation → Verdict (OperandOf GoType) → Type 0 where
    no_operation : {x y : Verdict (OperandOf GoType)} → y ≡ x → JudgesOperations context x [] y
    one_operation : {x y : Verdict (OperandOf GoType)} {operation : Operation} {rest : List Operation} (z : Verdict (OperandOf GoType)) (left right next : Verdict (ValueOf GoType)) → Judges context operation.operand z → Behind x as_value left → Behind z as_value right
        → BehindBoth left right (binary context.table operation.pos operation.operator) next → JudgesOperations context (made o.Value next) rest y → JudgesOperations context x (operation ∷ rest) y

  -- steps behind what was judged
  pub data JudgesSteps (context : Context) : Verdict (OperandOf GoType) → List Step → Verdict (OperandOf GoType) → Type 0 where
    no_step : {x y : Verdict (OperandOf GoType)} → y ≡ x → JudgesSteps context x [] y
    one_step : {x y : Verdict (OperandOf GoType)} {s : Step} {steps : List Step} (next : Verdict (OperandOf GoType)) → JudgesStep context x s next → JudgesSteps context next steps y → JudgesSteps context x (s ∷ steps) y

  pub data JudgesStep (context : Context) : Verdict (OperandOf GoType) → Step → Verdict (OperandOf GoType) → Type 0 where
    select : {x y : Verdict (OperandOf GoType)} {s : Step} (at : Pos) (name : Name) → s ≡ step.Selector at name → Behind x (selector context.exports context.path context.table at name.text) y → JudgesStep context x s y
    index_step : {x y : Verdict (OperandOf GoType)} {s : Step} (at : Pos) (i : Expr) (value : Verdict (ValueOf GoType)) (z : Verdict (OperandOf GoType)) → s ≡ step.Index at i → Behind x as_value value → Judges context i z
        → BehindBoth value z (λ v. index context.table at (o.Value v)) y → JudgesStep context x s y
    slice_step : {x y : Verdict (OperandOf GoType)} {s : Step} (at : Pos) (low high max : Option Expr) (value : Verdict (ValueOf GoType)) (a b c : Verdict (Option (OperandOf GoType))) → s ≡ step.Slice at low high max → Behind x as_value value
        → JudgesBound context low a → JudgesBound context high b → JudgesBound context max c → BehindBoth value (bounds_of a b c) (λ v. slice context.table at (o.Value v)) y → JudgesStep context x s y
    assert_step : {x y : Verdict (OperandOf GoType)} {s : Step} (at : Pos) (of : TypeExpr) (value : Verdict (ValueOf GoType)) (z : Verdict GoType) → s ≡ step.Assertion at of → Behind x as_value value → JudgesType context of z
        → BehindBoth value z (λ v. assertion context.table at (o.Value v)) y → JudgesStep context x s y
    call_step : {x y : Verdict (OperandOf GoType)} {s : Step} (at : Pos) (arguments : List Expr) (spread : Bool) (a : Verdict (List (Option (OperandOf GoType)))) (z : Verdict (OperandOf GoType)) → s ≡ step.Call at arguments spread → JudgesArguments context arguments a
        → Behind a (λ xs. step_called context at spread xs x.form) z → y ≡ record { form = z.form; faults = x.faults ++ z.faults } → JudgesStep context x s y

  pub data JudgesBound (context : Context) : Option Expr → Verdict (Option (OperandOf GoType)) → Type 0 where
    no_bound : {y : Verdict (Option (OperandOf GoType))} → good None y → JudgesBound context None y
    one_bound : {e : Expr} {y : Verdict (Option (OperandOf GoType))} (z : Verdict (OperandOf GoType)) (value : Verdict (ValueOf GoType)) → Judges context e z → Behind z as_value value → y ≡ made bound_by value → JudgesBound context (Some e) y

  -- what was not found leaves a gap
  pub data JudgesArguments (context : Context) : List Expr → Verdict (List (Option (OperandOf GoType))) → Type 0 where
    no_argument : {y : Verdict (List (Option (OperandOf GoType)))} → good [] y → JudgesArguments context [] y
    one_argument : {e : Expr} {es : List Expr} {y : Verdict (List (Option (OperandOf GoType)))} (z : Verdict (OperandOf GoType)) (rest : Verdict (List (Option (OperandOf GoType)))) → Judges context e z → JudgesArguments context es rest
        → y ≡ record { form = option_map (λ xs. z.form ∷ xs) rest.form; faults = z.faults ++ rest.faults } → JudgesArguments context (e ∷ es) y

  -- the type of a literal is held as the operand that it reads as; with the place of its first token. What reads as no type stands at the `{`
  pub data JudgesLiteralType (context : Context) : Expr → Pos → Pos → Verdict LiteralType → Type 0 where
    literal_name : {e : Expr} {brace first : Pos} {y : Verdict LiteralType} (n : Name) (z : Verdict GoType) → e ≡ x.Name n → first ≡ n.pos → type_named context.names n z → y ≡ made LiteralType.Whole z → JudgesLiteralType context e brace first y
    literal_qualified : {e : Expr} {brace first : Pos} {y : Verdict LiteralType} (operand : Expr) (qualifier name : Name) (s : Step) (at : Pos) (z : Verdict GoType) → e ≡ x.Primary operand (s ∷ []) → operand ≡ x.Name qualifier → s ≡ step.Selector at name → first ≡ qualifier.pos
        → qualified_type context.exports context.names qualifier name z → y ≡ made LiteralType.Whole z → JudgesLiteralType context e brace first y
    literal_paren : {e : Expr} {brace first : Pos} {y : Verdict LiteralType} (inner : Expr) (place : Pos) → e ≡ x.Paren first inner → JudgesLiteralType context inner brace place y → JudgesLiteralType context e brace first y
    literal_pointer : {e : Expr} {brace first : Pos} {y : Verdict LiteralType} (inner : Expr) (place : Pos) (z : Verdict LiteralType) → e ≡ x.Unary first u.Dereference inner → JudgesLiteralType context inner brace place z → Behind z (pointed_literal first) y → JudgesLiteralType context e brace first y
    literal_written : {e : Expr} {brace first : Pos} {y : Verdict LiteralType} (of : TypeExpr) (z : Verdict (OperandOf GoType)) → e ≡ x.Type of → first ≡ type_place of → Judges context e z → Behind z (as_literal_type first) y → JudgesLiteralType context e brace first y
    literal_other : {e : Expr} {brace first : Pos} {y : Verdict LiteralType} (z : Verdict (OperandOf GoType)) → is_type_operand e ≡ false → first ≡ brace → Judges context e z → Behind z (as_literal_type first) y → JudgesLiteralType context e brace first y

  -- elements of a literal whose type was found, or was not
  pub data JudgesElements (context : Context) : Pos → Option LiteralType → List Element → Verdict (ValueOf GoType) → Type 0 where
    unknown_type : {first : Pos} {es : List Element} {y : Verdict (ValueOf GoType)} (z : Verdict Alone) → JudgesAlone context es z → Behind z (λ alone. unjudged) y → JudgesElements context first None es y
    open_type : {first : Pos} {element : GoType} {es : List Element} {y : Verdict (ValueOf GoType)} (z : Verdict (Gathered Item)) → JudgesItems context element es z → Behind z (list_literal context.table first element ListKind.Open element) y → JudgesElements context first (Some (LiteralType.Open element)) es y
    whole_type : {first : Pos} {s : GoType} {es : List Element} {y : Verdict (ValueOf GoType)} → JudgesComposite context first s es y → JudgesElements context first (Some (LiteralType.Whole s)) es y

  pub data JudgesComposite (context : Context) : Pos → GoType → List Element → Verdict (ValueOf GoType) → Type 0 where
    of_struct : {first : Pos} {s : GoType} {es : List Element} {y : Verdict (ValueOf GoType)} (fields : List (FieldOf GoType)) (z : Verdict (Gathered (FieldValueOf GoType))) → IsStruct context.table s fields → JudgesFields context fields (has_keys (keys_of es)) 0 es z
        → Behind z (struct_literal first s context.path fields (keys_of es)) y → JudgesComposite context first s es y
    of_list : {first : Pos} {s : GoType} {es : List Element} {y : Verdict (ValueOf GoType)} (kind : ListKind) (element : GoType) (z : Verdict (Gathered Item)) → HasItems context.table s kind element → JudgesItems context element es z → Behind z (list_literal context.table first s kind element) y → JudgesComposite context first s es y
    of_map : {first : Pos} {s : GoType} {es : List Element} {y : Verdict (ValueOf GoType)} (key value : GoType) (z : Verdict (Gathered MapItem)) → HasKeys context.table s key value → JudgesPairs context key value es z → Behind z (map_literal first s) y → JudgesComposite context first s es y
    of_none : {first : Pos} {s : GoType} {es : List Element} {y : Verdict (ValueOf GoType)} (z : Verdict Alone) → (HasLiterals context.table s → ⊥) → JudgesAlone context es z → Behind z (λ alone. bad 60 first) y → JudgesComposite context first s es y

  -- an inner literal without a type, where its type is known. The `&` of one for a pointer is left out
  pub data JudgesInner (context : Context) : Pos → GoType → List Element → Verdict (ValueOf GoType) → Type 0 where
    itself : {first : Pos} {s : GoType} {es : List Element} {y : Verdict (ValueOf GoType)} → ((to : GoType) → PointsAt context.table s to → ⊥) → JudgesComposite context first s es y → JudgesInner context first s es y
    pointed : {first : Pos} {s : GoType} {es : List Element} {y : Verdict (ValueOf GoType)} (to : GoType) (z : Verdict (ValueOf GoType)) → PointsAt context.table s to → JudgesComposite context first to es z → Behind z (elided first s) y → JudgesInner context first s es y

  -- a part in a place of a type
  pub data JudgesPart (context : Context) : GoType → Part → Verdict (ValueOf GoType) → Type 0 where
    expr_part : {s : GoType} {p : Part} {y : Verdict (ValueOf GoType)} (e : Expr) (z : Verdict (OperandOf GoType)) → p ≡ part.Expr e → Judges context e z → Behind z as_value y → JudgesPart context s p y
    inner_part : {s : GoType} {p : Part} {y : Verdict (ValueOf GoType)} (at : Pos) (es : List Element) → p ≡ part.Elements at es → JudgesInner context at s es y → JudgesPart context s p y

  -- an inner literal without a type, where none is implied
  pub data JudgesNone (context : Context) : Pos → List Element → Verdict Alone → Type 0 where
    none_implied : {first : Pos} {es : List Element} {y z : Verdict Alone} → JudgesAlone context es z → Behind z (λ alone. bad 60 first) y → JudgesNone context first es y

  -- parts of a literal whose type is not known; keys that are plain names are not judged
  pub data JudgesAlone (context : Context) : List Element → Verdict Alone → Type 0 where
    none_alone : {y : Verdict Alone} → good alone y → JudgesAlone context [] y
    one_alone : {e : Element} {es : List Element} {y : Verdict Alone} (key value rest : Verdict Alone) → JudgesAloneKey context e.key key → JudgesAlonePart context e.value value → JudgesAlone context es rest
        → y ≡ both (λ a b. b) key (both (λ a b. b) value rest) → JudgesAlone context (e ∷ es) y

  pub data JudgesAloneKey (context : Context) : Option Part → Verdict Alone → Type 0 where
    absent_key : {y : Verdict Alone} → good alone y → JudgesAloneKey context None y
    name_key : {p : Part} {y : Verdict Alone} (name : List ℕ) → key_of (Some p) ≡ Key.Field name → good alone y → JudgesAloneKey context (Some p) y
    other_key : {p : Part} {y : Verdict Alone} → key_of (Some p) ≡ Key.Other → JudgesAlonePart context p y → JudgesAloneKey context (Some p) y

  pub data JudgesAlonePart (context : Context) : Part → Verdict Alone → Type 0 where
    alone_expr : {p : Part} {y : Verdict Alone} (e : Expr) (z : Verdict (OperandOf GoType)) → p ≡ part.Expr e → Judges context e z → Behind z (λ a. After (as_value a) (λ b. good alone)) y → JudgesAlonePart context p y
    alone_inner : {p : Part} {y : Verdict Alone} (at : Pos) (es : List Element) → p ≡ part.Elements at es → JudgesAlone context es y → JudgesAlonePart context p y

  -- values of fields: the k-th and those behind it, of a literal with keys or without
  pub data JudgesFields (context : Context) : List (FieldOf GoType) → Bool → ℕ → List Element → Verdict (Gathered (FieldValueOf GoType)) → Type 0 where
    no_field : {fields : List (FieldOf GoType)} {keyed : Bool} {k : ℕ} {y : Verdict (Gathered (FieldValueOf GoType))} → good nothing_gathered y → JudgesFields context fields keyed k [] y
    one_field : {fields : List (FieldOf GoType)} {keyed : Bool} {k : ℕ} {e : Element} {es : List Element} {y : Verdict (Gathered (FieldValueOf GoType))} (z rest : Verdict (Gathered (FieldValueOf GoType))) → JudgesField context (place_of keyed context.path fields k (key_of e.key)) e.value z
        → JudgesFields context fields keyed (k + 1) es rest → y ≡ both gathered z rest → JudgesFields context fields keyed k (e ∷ es) y

  pub data JudgesField (context : Context) : Option FieldPlace → Part → Verdict (Gathered (FieldValueOf GoType)) → Type 0 where
    expr_field : {place : Option FieldPlace} {p : Part} {y : Verdict (Gathered (FieldValueOf GoType))} (e : Expr) (z : Verdict (OperandOf GoType)) → p ≡ part.Expr e → Judges context e z → Behind z (field_given context.table place) y → JudgesField context place p y
    inner_field : {place : Option FieldPlace} {p : Part} {y : Verdict (Gathered (FieldValueOf GoType))} (at : Pos) (es : List Element) (z : Verdict Alone) → p ≡ part.Elements at es → JudgesNone context at es z → Behind z (λ a. unjudged) y → JudgesField context place p y

  -- elements of arrays and slices
  pub data JudgesItems (context : Context) : GoType → List Element → Verdict (Gathered Item) → Type 0 where
    none_of_list : {element : GoType} {y : Verdict (Gathered Item)} → good nothing_gathered y → JudgesItems context element [] y
    one_of_list : {element : GoType} {e : Element} {es : List Element} {y : Verdict (Gathered Item)} (key : Verdict IndexKey) (z : Verdict (ValueOf GoType)) (value : Verdict Filled) (rest : Verdict (Gathered Item)) → JudgesIndexKey context e.key key → JudgesPart context element e.value z → Behind z (filled context.table element) value
        → JudgesItems context element es rest → y ≡ both gathered (both item_of key value) rest → JudgesItems context element (e ∷ es) y

  pub data JudgesIndexKey (context : Context) : Option Part → Verdict IndexKey → Type 0 where
    no_index : {y : Verdict IndexKey} → good IndexKey.Absent y → JudgesIndexKey context None y
    expr_index : {p : Part} {y : Verdict IndexKey} (e : Expr) (z : Verdict (OperandOf GoType)) → p ≡ part.Expr e → Judges context e z → Behind z (key_found context.table) y → JudgesIndexKey context (Some p) y
    inner_index : {p : Part} {y : Verdict IndexKey} (at : Pos) (es : List Element) (z : Verdict Alone) → p ≡ part.Elements at es → JudgesNone context at es z → Behind z (λ a. unjudged) y → JudgesIndexKey context (Some p) y

  -- elements of maps
  pub data JudgesPairs (context : Context) : GoType → GoType → List Element → Verdict (Gathered MapItem) → Type 0 where
    no_pair : {key value : GoType} {y : Verdict (Gathered MapItem)} → good nothing_gathered y → JudgesPairs context key value [] y
    one_pair : {key value : GoType} {e : Element} {es : List Element} {y : Verdict (Gathered MapItem)} (found : Verdict MapKey) (z : Verdict (ValueOf GoType)) (given_value : Verdict Filled) (rest : Verdict (Gathered MapItem)) → JudgesMapKey context key e.key found → JudgesPart context value e.value z
        → Behind z (filled context.table value) given_value → JudgesPairs context key value es rest → y ≡ both gathered (both pair_item found given_value) rest → JudgesPairs context key value (e ∷ es) y

  pub data JudgesMapKey (context : Context) : GoType → Option Part → Verdict MapKey → Type 0 where
    no_map_key : {key : GoType} {y : Verdict MapKey} → good no_key y → JudgesMapKey context key None y
    one_map_key : {key : GoType} {p : Part} {y : Verdict MapKey} (z : Verdict (ValueOf GoType)) → JudgesPart context key p z → Behind z (map_key context.table key) y → JudgesMapKey context key (Some p) y

  -- ---- types as they are written

  pub data JudgesType (context : Context) : TypeExpr → Verdict GoType → Type 0 where
    name_type : {x : TypeExpr} {y : Verdict GoType} (n : TypeName) → x ≡ ty.Name n → name_of_type context n.qualifier n.name y → JudgesType context x y
    paren_type : {x : TypeExpr} {y : Verdict GoType} (at : Pos) (inner : TypeExpr) → x ≡ ty.Paren at inner → JudgesType context inner y → JudgesType context x y
    pointer_type : {x : TypeExpr} {y : Verdict GoType} (at : Pos) (to : TypeExpr) (z : Verdict GoType) → x ≡ ty.Pointer at to → JudgesType context to z → y ≡ made pointer_to z → JudgesType context x y
    slice_type : {x : TypeExpr} {y : Verdict GoType} (at : Pos) (element : TypeExpr) (z : Verdict GoType) → x ≡ ty.Slice at element → JudgesType context element z → y ≡ made (list_of true) z → JudgesType context x y
    array_of : {x : TypeExpr} {y : Verdict GoType} (at : Pos) (written : Expr) (element : TypeExpr) (n : Verdict (OperandOf GoType)) (length_found : Verdict ℕ) (z : Verdict GoType) → x ≡ ty.Array at (size.Expr written) element → Judges context written n → Behind n (array_length context.table at) length_found
        → JudgesType context element z → BehindBoth length_found z (array_type context.table at) y → JudgesType context x y
    open_alone : {x : TypeExpr} {y : Verdict GoType} (at : Pos) (element : TypeExpr) (z : Verdict GoType) → x ≡ ty.Array at size.Elements element → JudgesType context element z → Behind z (λ s. bad 78 at) y → JudgesType context x y
    map_of : {x : TypeExpr} {y : Verdict GoType} (at : Pos) (key value : TypeExpr) (a b : Verdict GoType) → x ≡ ty.Map at key value → JudgesType context key a → JudgesType context value b → BehindBoth a b (map_type context.table at) y → JudgesType context x y
    function_of : {x : TypeExpr} {y : Verdict GoType} (at : Pos) (signature : Signature) → x ≡ ty.Function at signature → JudgesSignature context signature y → JudgesType context x y
    struct_of : {x : TypeExpr} {y : Verdict GoType} (at : Pos) (fields : List Field) (z : Verdict (List (FieldOf GoType))) → x ≡ ty.Struct at fields → JudgesFieldTypes context [] fields z → Behind z (struct_type context.table at) y → JudgesType context x y
    interface_of : {x : TypeExpr} {y : Verdict GoType} (at : Pos) (members : List Member) (names : Verdict Distinct) (z : Verdict (List (MethodOf GoType))) → x ≡ ty.Interface at members → JudgesMethods context members z → distinct [] (method_names members) names
        → (all : Verdict (List (MethodOf GoType))) → JudgesEmbedded context z.form members all → y ≡ both (λ fresh ms. interface_type ms) (both (λ ms fresh. fresh) z names) all → JudgesType context x y

  -- the names of parameters and results stand in one scope
  pub data JudgesSignature (context : Context) : Signature → Verdict GoType → Type 0 where
    signature_of : {x : Signature} {y : Verdict GoType} (names : Verdict Distinct) (params results : Verdict (List GoType)) → distinct [] (names_of_all (out-Signature x).parameters ++ names_of_all (out-Signature x).results) names → JudgesParameters context (out-Signature x).parameters params → JudgesParameters context (out-Signature x).results results
        → y ≡ both behind_names names (both (function_type (is_variadic (out-Signature x).parameters)) params results) → JudgesSignature context x y

  pub data JudgesParameters (context : Context) : List Parameter → Verdict (List GoType) → Type 0 where
    no_parameter : {y : Verdict (List GoType)} → good [] y → JudgesParameters context [] y
    one_parameter : {p : Parameter} {ps : List Parameter} {y : Verdict (List GoType)} (z : Verdict GoType) (rest : Verdict (List GoType)) → JudgesType context p.of z → JudgesParameters context ps rest → y ≡ both (λ s ss. parameter_types p s ++ ss) z rest → JudgesParameters context (p ∷ ps) y

  -- behind fields of some names. Of an embedded field its type is judged, then its name, and then whether it may be embedded
  pub data JudgesFieldTypes (context : Context) : List Name → List Field → Verdict (List (FieldOf GoType)) → Type 0 where
    no_field_type : {before : List Name} {y : Verdict (List (FieldOf GoType))} → good [] y → JudgesFieldTypes context before [] y
    named_fields : {before : List Name} {x : Field} {fields : List Field} {y : Verdict (List (FieldOf GoType))} (names : List Name) (of : TypeExpr) (z : Verdict GoType) (fresh : Verdict Distinct) (rest : Verdict (List (FieldOf GoType))) → x ≡ field.Named names of → JudgesType context of z
        → distinct before names fresh → JudgesFieldTypes context (before ++ names) fields rest → y ≡ both (λ s fs. fields_of context.path names s ++ fs) z (both behind_names fresh rest) → JudgesFieldTypes context before (x ∷ fields) y
    embedded_one : {before : List Name} {x : Field} {fields : List Field} {y : Verdict (List (FieldOf GoType))} (star : Option Pos) (of : TypeName) (z : Verdict GoType) (fresh : Verdict Distinct) (one : Verdict (FieldOf GoType)) (rest : Verdict (List (FieldOf GoType))) → x ≡ field.Embedded star of
        → name_of_type context of.qualifier of.name z → distinct before (of.name ∷ []) fresh → on (embedded_field context.table context.path (star_place star of.qualifier of.name) (is_found star) of.name.text) z.form one → JudgesFieldTypes context (before ++ of.name ∷ []) fields rest
        → y ≡ both (λ s fs. fs) z (both behind_names fresh (first_of_list one rest)) → JudgesFieldTypes context before (x ∷ fields) y

  -- the methods that an interface names
  pub data JudgesMethods (context : Context) : List Member → Verdict (List (MethodOf GoType)) → Type 0 where
    no_method : {y : Verdict (List (MethodOf GoType))} → good [] y → JudgesMethods context [] y
    named_method : {m : Member} {ms : List Member} {y : Verdict (List (MethodOf GoType))} (name : Name) (signature : Signature) (z : Verdict GoType) (one : Verdict (MethodOf GoType)) (rest : Verdict (List (MethodOf GoType))) → m ≡ member.Method name signature → JudgesSignature context signature z
        → Behind z (interface_method context.path name) one → JudgesMethods context ms rest → y ≡ first_of_list one rest → JudgesMethods context (m ∷ ms) y
    embedded_later : {m : Member} {ms : List Member} {y : Verdict (List (MethodOf GoType))} (of : TypeName) → m ≡ member.Embedded of → JudgesMethods context ms y → JudgesMethods context (m ∷ ms) y

  -- and those of the interfaces that it embeds, behind what was found before
  pub data JudgesEmbedded (context : Context) : Option (List (MethodOf GoType)) → List Member → Verdict (List (MethodOf GoType)) → Type 0 where
    all_embedded : {before : Option (List (MethodOf GoType))} {y : Verdict (List (MethodOf GoType))} → y ≡ record { form = before; faults = [] } → JudgesEmbedded context before [] y
    not_embedded : {before : Option (List (MethodOf GoType))} {m : Member} {ms : List Member} {y : Verdict (List (MethodOf GoType))} (name : Name) (signature : Signature) → m ≡ member.Method name signature → JudgesEmbedded context before ms y → JudgesEmbedded context before (m ∷ ms) y
    one_embedded : {before : Option (List (MethodOf GoType))} {m : Member} {ms : List Member} {y : Verdict (List (MethodOf GoType))} (of : TypeName) (z : Verdict GoType) (methods next rest : Verdict (List (MethodOf GoType))) → m ≡ member.Embedded of → name_of_type context of.qualifier of.name z
        → Behind z (embedded_methods context.table (place_by of.qualifier of.name)) methods → BehindBoth (record { form = before; faults = [] }) methods (with_embedded (place_by of.qualifier of.name)) next → JudgesEmbedded context next.form ms rest
        → y ≡ record { form = rest.form; faults = next.faults ++ rest.faults } → JudgesEmbedded context before (m ∷ ms) y
