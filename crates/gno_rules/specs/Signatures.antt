-- Names of types, parameters and signatures. Go specification, "Function types" and "Qualified identifiers".
--     Signature = "(" [ Params ] ")" [ "(" [ Params ] ")" | Type ] .
--     Params    = Param { "," Param } [ "," ] .
--     Param     = [ Names ] [ "..." ] Type .
-- All parameters are named or none is. `...` stands only at the last parameter, which then has at most one name, and never at a result.
use Rattle.std.specs.Prelude.{ℕ, Bool, true, false, not, List, [], ◌∷◌, ◌++◌, map, Option, Some, None}
use Rattle.gno_grammar.specs.Phrases.{nothing, either, both, chain, follow, repeat, optional, construct}
use Rattle.gno_scan.specs.declared.kind.TokenKind.TheVariants as k
use Rattle.gno_scan.specs.declared.token.Pos.{Pos}
use Rattle.gno_tree.specs.declared.type_expr.Parameter.{Parameter}
use Rattle.gno_tree.specs.declared.type_expr.Signature.{roll-Signature}
use Rattle.gno_tree.specs.declared.type_expr.TypeExpr.{TypeExpr}
use Rattle.gno_tree.specs.declared.type_expr.TypeExpr.TheVariants as t
use Rattle.gno_tree.specs.declared.type_expr.TypeName.{TypeName}
use Rattle.gno_tree.specs.declared.word.Name.{Name}
use Rattle.gno_rules.specs.Kinds.{numbers}
use Rattle.gno_rules.specs.Parts.{P, a, to, given, past, up_to, always, with_last, name, dotted}
use Rattle.gno_rules.specs.declared.parameters.Entry.{Entry}
use Rattle.gno_rules.specs.declared.parameters.Entry.TheVariants as e
use Rattle.gno_rules.specs.declared.parameters.ListState.{ListState}
use Rattle.gno_rules.specs.declared.parameters.ListState.TheVariants as s
use Rattle.gno_rules.specs.declared.parameters.ParameterList.{ParameterList}
use Rattle.gno_rules.specs.declared.rule.Rule.TheVariants as r
use Rattle.gno_rules.specs.declared.types.SignatureRead.{SignatureRead}
use Rattle.gno_rules.specs.declared.types.TypeEnd.{TypeEnd}
use Rattle.gno_rules.specs.declared.types.TypeEnd.TheVariants.{Closed, Name as Named, Open}
use Rattle.gno_rules.specs.declared.types.TypeRead.{TypeRead}

-- the kinds that begin a result
abbrev pub RESULT : List ℕ
RESULT = numbers (k.Name ∷ k.LeftParen ∷ k.Star ∷ k.LeftBracket ∷ k.Map ∷ k.Func ∷ k.Struct ∷ k.Interface ∷ [])

abbrev pub DOT : List ℕ
DOT = numbers (k.Period ∷ [])

-- the kinds that can go on with a type
abbrev pub type_more : TypeEnd → List ℕ
type_more Closed = []
type_more Named = DOT
type_more Open = RESULT

abbrev pub TYPE_MOST : List ℕ
TYPE_MOST = DOT ++ RESULT

-- ---- names of types

abbrev pub qualified : Name → Option Name → TypeName
qualified n None = record { qualifier = None; name = n }
qualified n (Some m) = record { qualifier = Some n; name = m }

abbrev pub end_of_name : Option Name → TypeEnd
end_of_name None = Named
end_of_name (Some m) = Closed

abbrev pub named_type : Name → Option Name → TypeRead
named_type n m = record { of = t.Name (qualified n m); end = end_of_name m }

-- ---- parameters

abbrev pub nameless : TypeExpr → Parameter
nameless t = record { names = []; variadic = false; of = t }

-- a name that is the type of a parameter
abbrev pub type_alone : Name → Parameter
type_alone n = nameless (t.Name (qualified n None))

abbrev pub as_list : {A : Type 0} → Option A → List A
as_list None = []
as_list (Some x) = x ∷ []

-- all parameters of a list: the names behind the known ones are types
abbrev pub parameters_of : ParameterList → List Parameter
parameters_of list = list.known ++ map type_alone list.names

-- one more parameter
abbrev pub with_parameter : ParameterList → Parameter → ListState → ParameterList
with_parameter list parameter state = record { known = parameters_of list ++ parameter ∷ []; names = []; state = state }

abbrev pub with_name : ParameterList → Name → ParameterList
with_name list n = record { known = list.known; names = list.names ++ n ∷ []; state = s.Names }

-- the names behind the known parameters are names of this one too
abbrev pub with_named : ParameterList → List Name → TypeExpr → ParameterList
with_named list ns t = record { known = list.known ++ (record { names = list.names ++ ns; variadic = false; of = t }) ∷ []; names = []; state = s.Named }

abbrev pub with_entry : ParameterList → Entry → ParameterList
with_entry list (e.Name n) = with_name list n
with_entry list (e.Type t) = with_parameter list (nameless t) s.Types
with_entry list (e.Named ns t) = with_named list ns t
with_entry list (e.Variadic n t) = with_parameter list (record { names = as_list n; variadic = true; of = t }) s.Last
with_entry list e.Nothing = record { known = parameters_of list; names = []; state = s.Ended }

abbrev pub no_entry : ParameterList
no_entry = record { known = []; names = []; state = s.Names }

abbrev pub is_ended : ListState → Bool
is_ended s.Names = false
is_ended s.Types = false
is_ended s.Named = false
is_ended s.Last = false
is_ended s.Ended = true

abbrev pub goes_on : ParameterList → Bool
goes_on list = not (is_ended list.state)

abbrev pub COMMA : List ℕ
COMMA = numbers (k.Comma ∷ [])

abbrev pub PARAMETERS_MORE : List ℕ
PARAMETERS_MORE = numbers (k.Comma ∷ k.Period ∷ k.Ellipsis ∷ []) ++ RESULT

abbrev pub signature_more : SignatureRead → List ℕ
signature_more x = type_more x.end

abbrev pub type_read_more : TypeRead → List ℕ
type_read_more x = type_more x.end

-- results, and how they end
abbrev pub with_results : Pos × List Parameter → Option (List Parameter × TypeEnd) → SignatureRead
with_results ps None = record { signature = roll-Signature (record { pos = ps.0; parameters = ps.1; results = [] }); end = Open }
with_results ps (Some rs) = record { signature = roll-Signature (record { pos = ps.0; parameters = ps.1; results = rs.0 }); end = rs.1 }

module _ (text : List ℕ) where
  -- name [ "." name ]
  unfoldable pub type_name : P TypeName
  type_name = both qualified (name text) (optional (dotted text))

  -- the same as a type, which a `.` can go on with where none stands yet
  unfoldable pub type_by_name : P TypeRead
  type_by_name = follow type_read_more TYPE_MOST DOT named_type (name text) (λ _. optional (dotted text))

  -- "..." Type
  unfoldable pub variadic : P TypeExpr
  variadic = past (a k.Ellipsis) (to (λ x. x.of) (construct r.Type))

  -- "." name, behind a name: a type
  abbrev pub of_package : Name → Name → Entry
  of_package n m = e.Type (t.Name (qualified n (Some m)))

  -- what may stand behind a name that begins an entry, where all entries before it were names; `...` only behind the first
  unfoldable pub behind_name : P (Name → Entry)
  behind_name = either (to (λ m n. of_package n m) (dotted text))
      (either (to (λ x n. e.Named (n ∷ []) x.of) (construct r.Type)) (nothing (λ n. e.Name n)))

  unfoldable pub behind_first : P (Name → Entry)
  behind_first = either (to (λ t n. e.Variadic (Some n) t) variadic) behind_name

  abbrev pub named_entry : P (Name → Entry) → P Entry
  named_entry rest = both (λ n f. f n) (name text) rest

  -- an entry that does not begin with a name
  unfoldable pub type_entry : P Entry
  type_entry = to (λ x. e.Type x.of) (construct r.OtherType)

  unfoldable pub variadic_entry : P Entry
  variadic_entry = to (λ t. e.Variadic None t) variadic

  -- `...` stands among parameters alone
  abbrev pub or_variadic : Bool → P Entry → P Entry
  or_variadic true g = either variadic_entry g
  or_variadic false g = g

  unfoldable pub first_entry : Bool → P Entry
  first_entry true = either (named_entry behind_first) (either variadic_entry type_entry)
  first_entry false = either (named_entry behind_name) type_entry

  -- Names Type, behind the first name
  unfoldable pub further_names : P (List Name)
  further_names = repeat always with_last (nothing []) (past (a k.Comma) (name text))

  unfoldable pub group_rest : P (Name → Entry)
  group_rest = both (λ ns x n. e.Named (n ∷ ns) x.of) further_names (construct r.Type)

  unfoldable pub group : Bool → P Entry
  group true = named_entry (either (to (λ t n. e.Variadic (Some n) t) variadic) group_rest)
  group false = named_entry group_rest

  -- the entry behind a comma, or none
  unfoldable pub next_entry : Bool → ListState → P Entry
  next_entry variadics s.Names = either (named_entry behind_name) (or_variadic variadics (either type_entry (nothing e.Nothing)))
  next_entry variadics s.Types = or_variadic variadics (either (to (λ x. e.Type x.of) (construct r.Type)) (nothing e.Nothing))
  next_entry variadics s.Named = either (group variadics) (nothing e.Nothing)
  next_entry variadics s.Last = nothing e.Nothing
  next_entry variadics s.Ended = nothing e.Nothing

  -- Params, where `...` may stand among them or not
  unfoldable pub parameter_list : Bool → P ParameterList
  parameter_list variadics = chain (λ _. PARAMETERS_MORE) PARAMETERS_MORE COMMA goes_on with_entry
      (to (with_entry no_entry) (first_entry variadics)) (λ list. past (a k.Comma) (next_entry variadics list.state))

  -- "(" [ Params ] ")"
  unfoldable pub parameters : Bool → P (Pos × List Parameter)
  parameters variadics = both (λ t ps. (t.pos, ps)) (a k.LeftParen)
      (either (to (λ _. []) (a k.RightParen)) (to parameters_of (up_to (parameter_list variadics) (a k.RightParen))))

  -- "(" [ Params ] ")" | Type
  unfoldable pub results : P (List Parameter × TypeEnd)
  results = either (to (λ ps. (ps.1, Closed)) (parameters false))
      (given (λ rs. type_more rs.1) TYPE_MOST (λ x. (nameless x.of ∷ [], x.end)) (construct r.ResultType))

  unfoldable pub signature : P SignatureRead
  signature = follow signature_more TYPE_MOST RESULT with_results (parameters true) (λ _. optional results)
