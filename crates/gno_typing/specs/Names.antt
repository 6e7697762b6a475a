-- What names mean. Go specification, "Declarations and scope", "Blank identifier", "Qualified identifiers" and "Exported identifiers"; the type `realm`, `cross` and the own
-- parameter of a crossing function are this project's own.
use Rattle.std.specs.Prelude.{ℕ, List, [], ◌∷◌, codes, Bool, true, false, if◌then◌else◌, Option, Some, None}
use Rattle.std.specs.Str.{bytes_eq}
use Rattle.gno_scan.specs.declared.token.Pos.{Pos}
use Rattle.gno_terms.specs.declared.term.GoType.{GoType}
use Rattle.gno_terms.specs.declared.term.TermOf.{TermOf}
use Rattle.gno_terms.specs.declared.term.TermOf.TheVariants as t
use Rattle.gno_terms.specs.Exported.{is_exported}
use Rattle.gno_terms.specs.Terms.{term_of}
use Rattle.gno_typed.specs.declared.code.CodeId.{CodeId}
use Rattle.gno_typed.specs.declared.code.VariableId.{VariableId}
use Rattle.gno_typed.specs.declared.expr.TypedExprOf.TheVariants as w
use Rattle.gno_typed.specs.declared.scope.NamedOf.{NamedOf}
use Rattle.gno_typed.specs.declared.scope.NamedOf.TheVariants as n
use Rattle.gno_typing.specs.Builtins.{Builtin}
use Rattle.gno_typing.specs.Builtins.Builtin.{Append, Cap, Copy, Delete, Len, Make, New, Panic, Print, Println, Recover}
use Rattle.gno_typing.specs.Verdicts.{Verdict, bad, by_test, good}
use Rattle.gno_typing.specs.declared.form.FormOf.TheVariants as f
use Rattle.gno_typing.specs.declared.operand.OperandOf.{OperandOf}
use Rattle.gno_typing.specs.declared.operand.OperandOf.TheVariants as o
use Rattle.gno_typing.specs.declared.value.Standing.TheVariants as st
use Rattle.gno_typing.specs.declared.value.ValueOf.TheVariants as v

-- a name, and what it means
pub record Meaning : Type 0 where
  pub name : List ℕ
  pub is : NamedOf GoType

-- the innermost declaration of a name, which stands last
abbrev pub later_or : Option (NamedOf GoType) → Option (NamedOf GoType) → Option (NamedOf GoType)
later_or found None = found
later_or found (Some later) = Some later

abbrev pub meaning_of : List Meaning → List ℕ → Option (NamedOf GoType)
meaning_of [] name = None
meaning_of (m ∷ ms) name = later_or (if bytes_eq m.name name then Some m.is else None) (meaning_of ms name)

-- the predeclared functions by their names
abbrev pub builtin_of : List ℕ → Option Builtin
builtin_of name =
    if bytes_eq name (codes "append") then Some Append else
    if bytes_eq name (codes "cap") then Some Cap else
    if bytes_eq name (codes "copy") then Some Copy else
    if bytes_eq name (codes "delete") then Some Delete else
    if bytes_eq name (codes "len") then Some Len else
    if bytes_eq name (codes "make") then Some Make else
    if bytes_eq name (codes "new") then Some New else
    if bytes_eq name (codes "panic") then Some Panic else
    if bytes_eq name (codes "print") then Some Print else
    if bytes_eq name (codes "println") then Some Println else
    if bytes_eq name (codes "recover") then Some Recover else None

abbrev pub is_realm : {A : Type 0} → TermOf A → Bool
is_realm t.Realm = true
is_realm x = false

-- a variable; the first parameter of a crossing function is none
abbrev pub variable : Bool → Pos → VariableId → GoType → Verdict (OperandOf GoType) → Type 0
variable true at id s = good (o.Realm at)
variable false at id s = good (o.Value (v.Typed at s st.Place false (f.Whole (w.Variable at s id))))

-- the type `realm` stands nowhere in an expression
abbrev pub type_name : Bool → Pos → GoType → Verdict (OperandOf GoType) → Type 0
type_name true at s = bad 82 at
type_name false at s = good (o.Type at s)

-- a crossing function is only called
abbrev pub function : Bool → Pos → CodeId → GoType → Verdict (OperandOf GoType) → Type 0
function true at code s = good (o.Crossing at s code)
function false at code s = good (o.Value (v.Typed at s st.Result false (f.Whole (w.Function at s code))))

abbrev pub function_named : Option Builtin → Pos → List ℕ → Verdict (OperandOf GoType) → Type 0
function_named None at name = bad 40 at
function_named (Some function) at name = good (o.Builtin at name)

abbrev pub predeclared : Pos → List ℕ → Verdict (OperandOf GoType) → Type 0
predeclared at name = by_test (bytes_eq name (codes "nil")) (good (o.Value (v.Nil at)))
    (by_test (bytes_eq name (codes "cross")) (good (o.Cross at)) (function_named (builtin_of name) at name))

-- a name that means this, at a place
abbrev pub meant : Pos → NamedOf GoType → Verdict (OperandOf GoType) → Type 0
meant at (n.Variable id s) = variable (is_realm (term_of s)) at id s
meant at (n.Constant s x) = good (o.Value (v.Constant at s x))
meant at (n.TypeName s) = type_name (is_realm (term_of s)) at s
meant at (n.Function code s crossing) = function crossing at code s
meant at (n.Package path) = good (o.Package at path)
meant at (n.Builtin name) = predeclared at name

abbrev pub found : Pos → Option (NamedOf GoType) → Verdict (OperandOf GoType) → Type 0
found at None = bad 40 at
found at (Some is) = meant at is

abbrev pub is_blank : List ℕ → Bool
is_blank name = bytes_eq name (codes "_")

-- a name as an operand
unfoldable pub named : List Meaning → Pos → List ℕ → Verdict (OperandOf GoType) → Type 0
named ms at name = by_test (is_blank name) (bad 41 at) (found at (meaning_of ms name))

-- `package.name`: what a package declares at its level, if the name is exported
unfoldable pub exported : List Meaning → Pos → List ℕ → Verdict (OperandOf GoType) → Type 0
exported ms at name = by_test (is_exported name) (found at (meaning_of ms name)) (bad 40 at)
