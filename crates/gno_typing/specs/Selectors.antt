-- `x.name`. Go specification, "Selectors", "Method values" and "Calls".
use Rattle.std.specs.Prelude.{ℕ, ◌≡◌, ◌⊎◌, List, [], ◌∷◌, Bool, true, false, ◌&&◌, ◌||◌, not, Some, slice_get}
use Rattle.gno_embedding.specs.Embedding.{IsComplete, fields_in}
use Rattle.gno_promotion.specs.MethodSets.{field, method}
use Rattle.gno_scan.specs.declared.token.Pos.{Pos}
use Rattle.gno_selectors.specs.declared.selection.Passed.{Passed}
use Rattle.gno_selectors.specs.Selectors.{IsAmbiguous, Passes, Selects, path_of}
use Rattle.gno_terms.specs.declared.term.FieldOf.{FieldOf}
use Rattle.gno_terms.specs.declared.term.GoType.{GoType}
use Rattle.gno_terms.specs.declared.term.MethodOf.{MethodOf}
use Rattle.gno_terms.specs.declared.term.TermOf.{TermOf}
use Rattle.gno_terms.specs.declared.term.TermOf.TheVariants as t
use Rattle.gno_terms.specs.Normal.{package_of}
use Rattle.gno_terms.specs.Tables.{Table, Underlying}
use Rattle.gno_terms.specs.Terms.{term_of}
use Rattle.gno_typed.specs.declared.step.Adjustment.{Adjustment}
use Rattle.gno_typed.specs.declared.step.Adjustment.TheVariants as adjust
use Rattle.gno_typed.specs.declared.step.ReceiverOf.{ReceiverOf}
use Rattle.gno_typed.specs.declared.step.ReceiverOf.TheVariants as receiver
use Rattle.gno_typed.specs.declared.step.TypedStepOf.TheVariants as step
use Rattle.gno_typing.specs.Binary.{calls_in}
use Rattle.gno_typing.specs.Classes.{IsInterface}
use Rattle.gno_typing.specs.Forms.{with_step}
use Rattle.gno_typing.specs.Names.{Meaning, exported}
use Rattle.gno_typing.specs.Operands.{as_value, settled}
use Rattle.gno_typing.specs.Verdicts.{Verdict, After, bad, good, wants, wants_some, where_so}
use Rattle.gno_typing.specs.declared.form.FormOf.{FormOf}
use Rattle.gno_typing.specs.declared.operand.OperandOf.{OperandOf}
use Rattle.gno_typing.specs.declared.operand.OperandOf.TheVariants as o
use Rattle.gno_typing.specs.declared.value.Standing.{Standing}
use Rattle.gno_typing.specs.declared.value.Standing.TheVariants as st
use Rattle.gno_typing.specs.declared.value.ValueOf.{ValueOf}
use Rattle.gno_typing.specs.declared.value.ValueOf.TheVariants as v

-- ---- of which type the name is

-- what a pointer without a name points at, or a defined pointer type
pub record Follows (table : Table) (s u : GoType) : Type 0 where
  pub underlying : GoType
  pub by : Underlying table s underlying
  pub is : term_of underlying ≡ t.Pointer u

abbrev pub is_pointer_or_interface : {A : Type 0} → TermOf A → Bool
is_pointer_or_interface (t.Pointer a) = true
is_pointer_or_interface (t.Interface ms) = true
is_pointer_or_interface x = false

abbrev pub is_pointer_term : {A : Type 0} → TermOf A → Bool
is_pointer_term (t.Pointer a) = true
is_pointer_term x = false

-- The type whose fields and methods count, whether a pointer leads to it, and whether fields alone count: a defined pointer type has no methods. A pointer to an
-- interface or to a pointer has neither fields nor methods.
pub record Holder : Type 0 where
  pub of : GoType
  pub pointer : Bool
  pub fields_alone : Bool

pub data HasHolder (table : Table) (s : GoType) : Holder → Type 0 where
  itself : {h : Holder} → ((u : GoType) → Follows table s u → ⊥) → h ≡ record { of = s; pointer = false; fields_alone = false } → HasHolder table s h
  pointed : {h : Holder} (u b : GoType) → Follows table s u → Underlying table u b → is_pointer_or_interface (term_of b) ≡ false → h ≡ record { of = u; pointer = true; fields_alone = not (is_pointer_term (term_of s)) } → HasHolder table s h

-- ---- what it selects

-- a field, and the way to it; its place is that among the fields of its struct
pub record FieldFound : Type 0 where
  pub way : List Passed
  pub index : ℕ
  pub field : FieldOf GoType

pub record IsFieldFound (table : Table) (s : GoType) (name «package» : List ℕ) (x : FieldFound) : Type 0 where
  pub of : GoType
  pub passes : Passes table s x.way of
  pub place : ℕ
  pub selects : Selects table s name «package» (path_of x.way) place (field x.field)
  pub underlying : GoType
  pub by : Underlying table of underlying
  pub at : slice_get (fields_in (term_of underlying)) x.index ≡ Some x.field

-- a method, the way to the type that has it, and that type
pub record MethodFound : Type 0 where
  pub way : List Passed
  pub of : GoType
  pub method : MethodOf GoType

pub record IsMethodFound (table : Table) (s : GoType) (name «package» : List ℕ) (x : MethodFound) : Type 0 where
  pub passes : Passes table s x.way x.of
  pub place : ℕ
  pub selects : Selects table s name «package» (path_of x.way) place (method x.method)

-- ---- the typed form

-- one of the embedded fields is a pointer
abbrev pub is_followed : List Passed → Bool
is_followed [] = false
is_followed (p ∷ way) = p.pointer || is_followed way

-- what the way leads to is reached by a pointer: the last embedded field, or else the operand
abbrev pub ends_in_pointer : Bool → List Passed → Bool
ends_in_pointer pointer [] = pointer
ends_in_pointer pointer (p ∷ way) = ends_in_pointer p.pointer way

-- an embedded pointer leads to a place
abbrev pub reached_by : Bool → Standing
reached_by true = st.Place
reached_by false = st.Result

abbrev pub is_place : Standing → Bool
is_place st.Place = true
is_place stands = false

-- what a pointer leads to is a place, and a part of a place
abbrev pub reached : Bool → List Passed → Standing → Standing
reached true way stands = st.Place
reached false way st.Place = st.Place
reached false way stands = reached_by (is_followed way)

abbrev pub field_selected : Pos → GoType → Standing → Bool → FormOf GoType → Holder → FieldFound → Verdict (OperandOf GoType) → Type 0
field_selected place s stands calls form h x = good (o.Value (v.Typed place x.field.of (reached h.pointer x.way stands) calls
    (with_step form (step.Field place x.field.of (is_place stands && not h.pointer) h.pointer x.way x.index))))

abbrev pub bound : Bool → Pos → Bool → FormOf GoType → Holder → MethodFound → ReceiverOf GoType → Verdict (OperandOf GoType) → Type 0
bound as_place place calls form h x r = good (o.Method place x.method.of calls form (record { place = as_place; pointer = h.pointer; way = x.way; name = x.method.name; «package» = x.method.«package»; receiver = r }))

-- how the receiver is made: whether the method wants a pointer, and whether the way ends in one
abbrev pub adjustment : Bool → Bool → Adjustment
adjustment true true = adjust.Pointer
adjustment true false = adjust.Address
adjustment false true = adjust.Followed
adjustment false false = adjust.Copied

-- a pointer method wants a pointer, or a place whose address is taken
abbrev pub may_receive : Bool → Bool → Standing → Bool
may_receive true false st.Place = true
may_receive true false stands = false
may_receive wants ends stands = true

abbrev pub declared_method : Pos → GoType → Standing → Bool → FormOf GoType → Holder → MethodFound → Verdict (OperandOf GoType) → Type 0
declared_method place s stands calls form h x = wants (may_receive x.method.pointer (ends_in_pointer h.pointer x.way) (reached h.pointer x.way stands) ≡ true) 56 place
    (bound (is_place stands && not h.pointer) place calls form h x (receiver.Declared x.of x.method.pointer (adjustment x.method.pointer (ends_in_pointer h.pointer x.way))))

-- a method of an interface is found in what the value holds when it runs; an interface itself is read as a value
abbrev pub method_selected : Table → Pos → GoType → Standing → Bool → FormOf GoType → Holder → MethodFound → Verdict (OperandOf GoType) → Type 0
method_selected table place s stands calls form h x = where_so (IsInterface table x.of)
    (where_so (IsInterface table s) (bound false place calls form h x receiver.Held) (bound (is_place stands && not h.pointer) place calls form h x receiver.Held))
    (declared_method place s stands calls form h x)

-- ---- the rule

-- a name that is not exported is the package's own
abbrev pub asked : List ℕ → List ℕ → List ℕ
asked path name = package_of name path

abbrev pub methods_by : Bool → Table → Pos → List ℕ → List ℕ → GoType → Standing → Bool → FormOf GoType → Holder → Verdict (OperandOf GoType) → Type 0
methods_by true table place path name s stands calls form h = bad 52 place
methods_by false table place path name s stands calls form h = wants_some (IsMethodFound table h.of name (asked path name)) 52 place (method_selected table place s stands calls form h)

-- a field, or else a method
abbrev pub member_selected : Table → Pos → List ℕ → List ℕ → GoType → Standing → Bool → FormOf GoType → Holder → Verdict (OperandOf GoType) → Type 0
member_selected table place path name s stands calls form h y =
    ((x : FieldFound) × IsFieldFound table h.of name (asked path name) x × field_selected place s stands calls form h x y)
    ⊎ (((x : FieldFound) → IsFieldFound table h.of name (asked path name) x → ⊥) × methods_by h.fields_alone table place path name s stands calls form h y)

-- two at the least depth are ambiguous; types that embedded fields lead to and that are not defined have nothing
abbrev pub selected_of : Table → Pos → List ℕ → List ℕ → GoType → Standing → Bool → FormOf GoType → Holder → Verdict (OperandOf GoType) → Type 0
selected_of table place path name s stands calls form h = wants (IsComplete table h.of) 52 place (wants (IsAmbiguous table h.of name (asked path name) → ⊥) 53 place (member_selected table place path name s stands calls form h))

abbrev pub selected_in : Table → Pos → List ℕ → List ℕ → GoType → Standing → Bool → FormOf GoType → Verdict (OperandOf GoType) → Type 0
selected_in table place path name s stands calls form = wants_some (HasHolder table s) 52 place (selected_of table place path name s stands calls form)

-- a constant, or a value that waits, in its own or its default type
abbrev pub selected : Table → Pos → List ℕ → List ℕ → ValueOf GoType → Verdict (OperandOf GoType) → Type 0
selected table place path name (v.Typed at s stands calls form) = selected_in table place path name s stands calls form
selected table place path name x = After (settled table 52 place x) (λ y. selected_in table place path name y.of st.Result (calls_in x) y.form)

-- `x.name` in the package of a path. `exports`: what a package declares at its level
unfoldable pub selector : (List ℕ → List Meaning) → List ℕ → Table → Pos → List ℕ → OperandOf GoType → Verdict (OperandOf GoType) → Type 0
selector exports path table place name (o.Package at of) = exported (exports of) place name
selector exports path table place name (o.Type at s) = bad 52 place
selector exports path table place name x = After (as_value x) (selected table place path name)
