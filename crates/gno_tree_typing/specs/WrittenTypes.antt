-- Types as they are written, after their parts. Go specification, "Types"; the limits of an array's length and of the slots of a type are this project's own.
use Rattle.std.specs.Prelude.{ℕ, ◌≡◌, ◌<◌, ◌≤◌, ◌^◌, ◌++◌, pos, List, [], ◌∷◌, Bool, true, false, ◌||◌, ◌&&◌, not, if◌then◌else◌, Option, Some, None}
use Rattle.std.specs.Str.{bytes_eq}
use Rattle.gno_constants.specs.declared.constant.Constant.{Constant}
use Rattle.gno_constants.specs.declared.constant.Constant.TheVariants as c
use Rattle.gno_scan.specs.Names.{IsName}
use Rattle.gno_scan.specs.declared.token.Pos.{Pos}
use Rattle.gno_terms.specs.declared.term.FieldOf.{FieldOf}
use Rattle.gno_terms.specs.declared.term.GoType.{GoType}
use Rattle.gno_terms.specs.declared.term.MethodOf.{MethodOf}
use Rattle.gno_terms.specs.declared.term.TermOf.{TermOf}
use Rattle.gno_terms.specs.declared.term.TermOf.TheVariants as t
use Rattle.gno_terms.specs.Lawful.{Each}
use Rattle.gno_terms.specs.Normal.{Identical, normal, package_of}
use Rattle.gno_terms.specs.Tables.{Table, Underlying}
use Rattle.gno_terms.specs.Terms.{term_of, type_of}
use Rattle.gno_tree.specs.declared.word.Name.{Name}
use Rattle.gno_type_rows.specs.Holding.{Slots}
use Rattle.gno_typed.specs.declared.scope.NamedOf.{NamedOf}
use Rattle.gno_typed.specs.declared.scope.NamedOf.TheVariants as n
use Rattle.gno_typing.specs.Classes.{IsOf, is_integer}
use Rattle.gno_typing.specs.Conversions.{is_basic}
use Rattle.gno_typing.specs.Names.{Meaning, exported, is_blank, meaning_of, named}
use Rattle.gno_typing.specs.Operands.{as_value}
use Rattle.gno_typing.specs.Verdicts.{Verdict, After, bad, by_test, good, wants, wants_some}
use Rattle.gno_typing.specs.declared.fault.Fault.{Fault}
use Rattle.gno_typing.specs.declared.operand.OperandOf.{OperandOf}
use Rattle.gno_typing.specs.declared.operand.OperandOf.TheVariants as o
use Rattle.gno_typing.specs.declared.value.ValueOf.{ValueOf}
use Rattle.gno_typing.specs.declared.value.ValueOf.TheVariants as v

-- ---- names of types

-- a value is no type
abbrev pub as_type : Pos → OperandOf GoType → Verdict GoType → Type 0
as_type at (o.Type place s) = good s
as_type at x = bad 41 at

unfoldable pub type_named : List Meaning → Name → Verdict GoType → Type 0
type_named ms name = After (named ms name.pos name.text) (as_type name.pos)

-- the type of a package
abbrev pub type_in : (List ℕ → List Meaning) → Pos → Option (NamedOf GoType) → List ℕ → Verdict GoType → Type 0
type_in exports at None name = bad 40 at
type_in exports at (Some (n.Package path)) name = After (exported (exports path) at name) (as_type at)
type_in exports at (Some is) name = bad 41 at

unfoldable pub qualified_type : (List ℕ → List Meaning) → List Meaning → Name → Name → Verdict GoType → Type 0
qualified_type exports ms qualifier name = by_test (is_blank qualifier.text) (bad 41 qualifier.pos) (type_in exports qualifier.pos (meaning_of ms qualifier.text) name.text)

-- ---- sizes

-- at most so many slots may one type have
abbrev pub slot_limit : ℕ
slot_limit = 16777216

pub record IsSmall (table : Table) (s : GoType) : Type 0 where
  pub slots : ℕ
  pub has : Slots table s slots
  pub within : slots ≤ slot_limit

abbrev pub small : Table → Pos → GoType → Verdict GoType → Type 0
small table place s = wants (IsSmall table s) 78 place (good s)

-- a constant that is the length of an array
pub record IsLength (table : Table) (s : GoType) (x : Constant) (length : ℕ) : Type 0 where
  pub integer : IsOf is_integer table s
  pub value : x ≡ c.Whole (pos length)
  pub within : length < 2 ^ 63

abbrev pub length_in : Table → Pos → ValueOf GoType → Verdict ℕ → Type 0
length_in table place (v.Constant at s x) = wants_some (IsLength table s x) 78 place good
length_in table place x = bad 78 place

unfoldable pub array_length : Table → Pos → OperandOf GoType → Verdict ℕ → Type 0
array_length table place x = After (as_value x) (length_in table place)

unfoldable pub array_type : Table → Pos → ℕ → GoType → Verdict GoType → Type 0
array_type table place length element = small table place (type_of (t.Array length element))

-- a key is a boolean, an integer or a string
unfoldable pub map_type : Table → Pos → GoType → GoType → Verdict GoType → Type 0
map_type table place key value = wants (IsOf is_basic table key) 62 place (good (type_of (t.Map key value)))

-- ---- names that stand in one scope

abbrev pub stands_in : List ℕ → List Name → Bool
stands_in text [] = false
stands_in text (n ∷ ns) = bytes_eq n.text text || stands_in text ns

-- each name that one before it has, but for `_`
abbrev pub repeats : List Name → List Name → List Fault
repeats before [] = []
repeats before (n ∷ ns) = (if not (is_blank n.text) && stands_in n.text before then record { code = 64; pos = n.pos } ∷ [] else []) ++ repeats (before ++ n ∷ []) ns

pub record Distinct : Type 0 where

abbrev pub distinct_by : List Fault → Option Distinct
distinct_by [] = Some (record {})
distinct_by (f ∷ fs) = None

-- names of one scope, behind others of it
unfoldable pub distinct : List Name → List Name → Verdict Distinct → Type 0
distinct before ns v = v ≡ record { form = distinct_by (repeats before ns); faults = repeats before ns }

-- ---- structs

abbrev pub field_of_struct : List ℕ → List ℕ → Bool → GoType → FieldOf GoType
field_of_struct path name embedded s = record { name = name; «package» = package_of name path; embedded = embedded; of = s }

abbrev pub is_pointer_or_interface_of : Bool → TermOf GoType → Bool
is_pointer_or_interface_of star (t.Pointer s) = true
is_pointer_or_interface_of star (t.Interface ms) = star
is_pointer_or_interface_of star x = false

-- A type that is embedded is no pointer, and behind a `*` no interface.
pub record MayBeEmbedded (table : Table) (star : Bool) (s : GoType) : Type 0 where
  pub underlying : GoType
  pub by : Underlying table s underlying
  pub may : is_pointer_or_interface_of star (term_of underlying) ≡ false

abbrev pub starred : Bool → GoType → GoType
starred true s = type_of (t.Pointer s)
starred false s = s

-- `place`: that of the `*`, or of the name without one
unfoldable pub embedded_field : Table → List ℕ → Pos → Bool → List ℕ → GoType → Verdict (FieldOf GoType) → Type 0
embedded_field table path place star name s = wants (MayBeEmbedded table star s) 78 place (good (field_of_struct path name true (starred star s)))

-- Names are identifiers. A tree that was read from a text has no others.
abbrev pub HasName : FieldOf GoType → Type 0
HasName f = IsName f.name

unfoldable pub struct_type : Table → Pos → List (FieldOf GoType) → Verdict GoType → Type 0
struct_type table place fs = wants (Each HasName fs) 78 place (small table place (type_of (t.Struct fs)))

-- ---- interfaces

abbrev pub is_same_method : MethodOf GoType → MethodOf GoType → Bool
is_same_method m o = bytes_eq m.name o.name && bytes_eq m.«package» o.«package»

abbrev pub has_method_named : MethodOf GoType → List (MethodOf GoType) → Bool
has_method_named m [] = false
has_method_named m (o ∷ os) = is_same_method m o || has_method_named m os

-- no method of the list has the name and another type
abbrev pub Agrees : List (MethodOf GoType) → MethodOf GoType → Type 0
Agrees os m = Each (λ (o : MethodOf GoType). is_same_method m o ≡ true → Identical o.of m.of) os

-- those whose names are not there
abbrev pub joined_methods : List (MethodOf GoType) → List (MethodOf GoType) → List (MethodOf GoType)
joined_methods ms [] = ms
joined_methods ms (o ∷ os) = joined_methods (if has_method_named o ms then ms else ms ++ o ∷ []) os

abbrev pub method_of_interface : List ℕ → List ℕ → GoType → MethodOf GoType
method_of_interface path name s = record { name = name; «package» = package_of name path; of = s; pointer = false }

-- a method that is named: not `_`
unfoldable pub interface_method : List ℕ → Name → GoType → Verdict (MethodOf GoType) → Type 0
interface_method path name s = by_test (is_blank name.text) (bad 80 name.pos) (wants (IsName name.text) 78 name.pos (good (method_of_interface path name.text s)))

-- the methods of an interface that is embedded
pub record IsInterfaceOf (table : Table) (s : GoType) (methods : List (MethodOf GoType)) : Type 0 where
  pub underlying : GoType
  pub by : Underlying table s underlying
  pub is : term_of underlying ≡ t.Interface methods

unfoldable pub embedded_methods : Table → Pos → GoType → Verdict (List (MethodOf GoType)) → Type 0
embedded_methods table place s = wants_some (IsInterfaceOf table s) 78 place good

-- methods that stand there already have the same types
unfoldable pub with_embedded : Pos → List (MethodOf GoType) → List (MethodOf GoType) → Verdict (List (MethodOf GoType)) → Type 0
with_embedded place before ms = wants (Each (Agrees before) ms) 64 place (good (joined_methods before ms))

abbrev pub interface_type : List (MethodOf GoType) → GoType
interface_type ms = normal (type_of (t.Interface ms))
