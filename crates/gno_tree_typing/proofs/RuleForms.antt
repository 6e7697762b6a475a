-- Each rule on types as they are written and on composite literals gives a form or a fault.
use Rattle.std.proofs.Common.{◌≡◌, refl, sym, ap, ◌∙◌, ℕ, List, [], ◌∷◌, Bool, Option, Some, None, inl, inr, rules}
use Rattle.gno_scan.specs.declared.token.Pos.{Pos}
use Rattle.gno_terms.specs.declared.term.FieldOf.{FieldOf}
use Rattle.gno_terms.specs.declared.term.GoType.{GoType}
use Rattle.gno_terms.specs.declared.term.MethodOf.{MethodOf}
use Rattle.gno_terms.specs.Tables.{Table}
use Rattle.gno_tree.specs.declared.word.Literal.{Literal}
use Rattle.gno_tree.specs.declared.word.Name.{Name}
use Rattle.gno_tree_typing.specs.Composites.{FieldPlace, Gathered, Item, Key, ListKind, MapItem, elided, end_of, field_given, field_value, filled, index_key, indexed_items, indexes, key_found, list_literal, listed, map_key, map_literal, struct_literal}
use Rattle.gno_tree_typing.specs.Composites.ListKind.{Array, Open, Slice}
use Rattle.gno_tree_typing.specs.Judging.{LiteralType, as_literal_type, literal, pointed_literal}
use Rattle.gno_tree_typing.specs.Judging.LiteralType.{Open as OpenType, Whole as WholeType}
use Rattle.gno_tree_typing.specs.WrittenTypes.{Distinct, array_length, array_type, as_type, distinct, distinct_by, embedded_field, embedded_methods, interface_method, length_in, map_type, qualified_type, repeats, small, struct_type, type_in, type_named, with_embedded}
use Rattle.gno_typed.specs.declared.elements.FieldValueOf.{FieldValueOf}
use Rattle.gno_typed.specs.declared.elements.IndexedOf.{IndexedOf}
use Rattle.gno_typed.specs.declared.scope.NamedOf.{NamedOf}
use Rattle.gno_typed.specs.declared.scope.NamedOf.TheVariants as n
use Rattle.gno_typing.proofs.GivenForms.{given_form}
use Rattle.gno_typing.proofs.NameForms.{exported_form, named_form, test_form}
use Rattle.gno_typing.proofs.Parts.{after_form, bad_form, good_form, some_form, wants_form, where_form}
use Rattle.gno_typing.proofs.PrimaryForms.{as_value_form}
use Rattle.gno_typing.specs.Binary.{pos_in}
use Rattle.gno_typing.specs.Laws.{HasForm}
use Rattle.gno_typing.specs.Names.{Meaning, is_blank, meaning_of}
use Rattle.gno_typing.specs.declared.fault.Fault.{Fault}
use Rattle.gno_typing.specs.declared.operand.OperandOf.{OperandOf}
use Rattle.gno_typing.specs.declared.operand.OperandOf.TheVariants as o
use Rattle.gno_typing.specs.declared.value.ValueOf.{ValueOf}
use Rattle.gno_typing.specs.declared.value.ValueOf.TheVariants as v

-- ---- types

as_type_form : (at : Pos) (x : OperandOf GoType) → HasForm (as_type at x)
as_type_form at (o.Type place s) = good_form s
as_type_form at (o.Value x) = bad_form 41 at
as_type_form at (o.Method place of calls form bound) = bad_form 41 at
as_type_form at (o.Crossing place of code) = bad_form 41 at
as_type_form at (o.Results place of form) = bad_form 41 at
as_type_form at (o.OpenArray place element) = bad_form 41 at
as_type_form at (o.Package place path) = bad_form 41 at
as_type_form at (o.Builtin place name) = bad_form 41 at
as_type_form at (o.Cross place) = bad_form 41 at
as_type_form at (o.Realm place) = bad_form 41 at

pub type_named_form : (ms : List Meaning) (name : Name) → HasForm (type_named ms name)
unfolding type_named
type_named_form ms name = after_form _ _ (named_form ms name.pos name.text) (as_type_form name.pos)

type_in_form : (exports : List ℕ → List Meaning) (at : Pos) (is : Option (NamedOf GoType)) (name : List ℕ) → HasForm (type_in exports at is name)
type_in_form exports at None name = bad_form 40 at
type_in_form exports at (Some (n.Package path)) name = after_form _ _ (exported_form (exports path) at name) (as_type_form at)
type_in_form exports at (Some (n.Variable id s)) name = bad_form 41 at
type_in_form exports at (Some (n.Constant s x)) name = bad_form 41 at
type_in_form exports at (Some (n.TypeName s)) name = bad_form 41 at
type_in_form exports at (Some (n.Function code s crossing)) name = bad_form 41 at
type_in_form exports at (Some (n.Builtin text)) name = bad_form 41 at

pub qualified_type_form : (exports : List ℕ → List Meaning) (ms : List Meaning) (qualifier name : Name) → HasForm (qualified_type exports ms qualifier name)
unfolding qualified_type
qualified_type_form exports ms qualifier name = test_form (is_blank qualifier.text) _ _ (bad_form 41 qualifier.pos) (type_in_form exports qualifier.pos (meaning_of ms qualifier.text) name.text)

distinct_whole : (fs : List Fault) → fs ≡ [] → (d : Distinct) × (distinct_by fs ≡ Some d)
distinct_whole [] e = (record {}, refl)
distinct_whole (f ∷ fs) e = absurd (search (rules, e))

pub distinct_form : (before ns : List Name) → HasForm (distinct before ns)
unfolding distinct
distinct_form before ns v is none = let d = distinct_whole (repeats before ns) (sym (ap (λ x. x.faults) is) ∙ none) in (d.0, ap (λ x. x.form) is ∙ d.1)

module _ (table : Table) (place : Pos) where
  small_form : (s : GoType) → HasForm (small table place s)
  small_form s = wants_form _ 78 place _ (good_form s)

  length_in_form : (x : ValueOf GoType) → HasForm (length_in table place x)
  length_in_form (v.Constant at s x) = some_form _ 78 place _ good_form
  length_in_form (v.Nil at) = bad_form 78 place
  length_in_form (v.Typed at s stands calls form) = bad_form 78 place
  length_in_form (v.Pending at waits calls form) = bad_form 78 place

  pub array_length_form : (x : OperandOf GoType) → HasForm (array_length table place x)
  unfolding array_length
  array_length_form x = after_form _ _ (as_value_form x) length_in_form

  pub array_type_form : (count : ℕ) (element : GoType) → HasForm (array_type table place count element)
  unfolding array_type
  array_type_form count element = small_form _

  pub map_type_form : (key value : GoType) → HasForm (map_type table place key value)
  unfolding map_type
  map_type_form key value = wants_form _ 62 place _ (good_form _)

  pub struct_type_form : (fs : List (FieldOf GoType)) → HasForm (struct_type table place fs)
  unfolding struct_type
  struct_type_form fs = wants_form _ 78 place _ (small_form _)

  pub embedded_field_form : (path : List ℕ) (star : Bool) (name : List ℕ) (s : GoType) → HasForm (embedded_field table path place star name s)
  unfolding embedded_field
  embedded_field_form path star name s = wants_form _ 78 place _ (good_form _)

  pub embedded_methods_form : (s : GoType) → HasForm (embedded_methods table place s)
  unfolding embedded_methods
  embedded_methods_form s = some_form _ 78 place _ good_form

  pub with_embedded_form : (before ms : List (MethodOf GoType)) → HasForm (with_embedded place before ms)
  unfolding with_embedded
  with_embedded_form before ms = wants_form _ 64 place _ (good_form _)

pub interface_method_form : (path : List ℕ) (name : Name) (s : GoType) → HasForm (interface_method path name s)
unfolding interface_method
interface_method_form path name s = test_form (is_blank name.text) _ _ (bad_form 80 name.pos) (wants_form _ 78 name.pos _ (good_form _))

-- ---- literals

pub literal_form : (l : Literal) → HasForm (literal l)
literal_form l y (inl (value, spells, judged)) none = good_form _ y judged none
literal_form l y (inr (no_value, judged)) none = bad_form 42 l.pos y judged none

pub as_literal_type_form : (at : Pos) (x : OperandOf GoType) → HasForm (as_literal_type at x)
as_literal_type_form at (o.Type place s) = good_form _
as_literal_type_form at (o.OpenArray place element) = good_form _
as_literal_type_form at (o.Value x) = bad_form 41 at
as_literal_type_form at (o.Method place of calls form bound) = bad_form 41 at
as_literal_type_form at (o.Crossing place of code) = bad_form 41 at
as_literal_type_form at (o.Results place of form) = bad_form 41 at
as_literal_type_form at (o.Package place path) = bad_form 41 at
as_literal_type_form at (o.Builtin place name) = bad_form 41 at
as_literal_type_form at (o.Cross place) = bad_form 41 at
as_literal_type_form at (o.Realm place) = bad_form 41 at

pub pointed_literal_form : (at : Pos) (x : LiteralType) → HasForm (pointed_literal at x)
pointed_literal_form at (WholeType s) = good_form _
pointed_literal_form at (OpenType element) = bad_form 41 at

module _ (table : Table) where
  pub filled_form : (u : GoType) (x : ValueOf GoType) → HasForm (filled table u x)
  unfolding filled
  filled_form u x = after_form _ _ (given_form table 49 (pos_in x) u x) (λ y. good_form _)

  field_value_form : (place : Option FieldPlace) (x : ValueOf GoType) → HasForm (field_value table place x)
  field_value_form None x = good_form _
  field_value_form (Some place) x = after_form _ _ (filled_form place.of x) (λ y. good_form _)

  pub field_given_form : (place : Option FieldPlace) (x : OperandOf GoType) → HasForm (field_given table place x)
  unfolding field_given
  field_given_form place x = after_form _ _ (as_value_form x) (field_value_form place)

  index_key_form : (x : ValueOf GoType) → HasForm (index_key table x)
  index_key_form (v.Constant at s x) = where_form _ _ _ (wants_form _ 43 at _ (good_form _)) (good_form _)
  index_key_form (v.Nil at) = good_form _
  index_key_form (v.Typed at s stands calls form) = good_form _
  index_key_form (v.Pending at waits calls form) = good_form _

  pub key_found_form : (x : OperandOf GoType) → HasForm (key_found table x)
  unfolding key_found
  key_found_form x = after_form _ _ (as_value_form x) index_key_form

  pub map_key_form : (key : GoType) (x : ValueOf GoType) → HasForm (map_key table key x)
  unfolding map_key
  map_key_form key x = after_form _ _ (filled_form key x) (λ y. good_form _)

  listed_form : (kind : ListKind) (place : Pos) (s element : GoType) (calls : Bool) (end : ℕ) (items : List (IndexedOf GoType)) → HasForm (listed kind table place s element calls end items)
  listed_form (Array count) place s element calls end items = good_form _
  listed_form Slice place s element calls end items = good_form _
  listed_form Open place s element calls end items = wants_form _ 78 place _ (good_form _)

  pub list_literal_form : (place : Pos) (s : GoType) (kind : ListKind) (element : GoType) (x : Gathered Item) → HasForm (list_literal table place s kind element x)
  unfolding list_literal
  list_literal_form place s kind element x = wants_form _ 55 place _ (wants_form _ 60 place _ (listed_form kind place s element x.calls (end_of (indexes 0 x.items)) (indexed_items x.items (indexes 0 x.items))))

pub struct_literal_form : (place : Pos) (s : GoType) (path : List ℕ) (fs : List (FieldOf GoType)) (ks : List Key) (x : Gathered (FieldValueOf GoType)) → HasForm (struct_literal place s path fs ks x)
unfolding struct_literal
struct_literal_form place s path fs ks x = wants_form _ 60 place _ (good_form _)

pub map_literal_form : (place : Pos) (s : GoType) (x : Gathered MapItem) → HasForm (map_literal place s x)
unfolding map_literal
map_literal_form place s x y (inl (ps, are, judged)) none = good_form _ y judged none
map_literal_form place s x y (inr (not, judged)) none = bad_form 60 place y judged none

pub elided_form : (at : Pos) (u : GoType) (x : ValueOf GoType) → HasForm (elided at u x)
elided_form at u (v.Typed place s stands calls form) = good_form _
elided_form at u (v.Constant place s x) = good_form _
elided_form at u (v.Nil place) = good_form _
elided_form at u (v.Pending place waits calls form) = good_form _
