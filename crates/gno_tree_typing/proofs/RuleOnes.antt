-- Each rule on types as they are written and on composite literals has one verdict.
use Rattle.std.proofs.Common.{◌≡◌, sym, ap, ◌∙◌, ℕ, List, Bool, true, false, Option, Some, None}
use Rattle.gno_constants.specs.declared.constant.Constant.TheVariants as c
use Rattle.gno_terms.specs.declared.term.TermOf.TheVariants as t
use Rattle.gno_typed.specs.declared.elements.PairOf.{PairOf}
use Rattle.std.specs.Prelude.{pos}
use Rattle.gno_scan.specs.declared.token.Pos.{Pos}
use Rattle.gno_terms.specs.declared.term.FieldOf.{FieldOf}
use Rattle.gno_terms.specs.declared.term.GoType.{GoType}
use Rattle.gno_terms.specs.declared.term.MethodOf.{MethodOf}
use Rattle.gno_terms.specs.Tables.{Table}
use Rattle.gno_tree.specs.declared.word.Literal.{Literal}
use Rattle.gno_tree.specs.declared.word.Name.{Name}
use Rattle.gno_tree_typing.specs.Composites.{FieldPlace, Gathered, Item, Key, ListKind, MapItem, elided, end_of, field_given, field_value, filled, index_key, indexed_items, indexes, key_found, list_literal, listed, map_key, map_literal, struct_literal}
use Rattle.gno_tree_typing.specs.Composites.ListKind.{Array, Open, Slice}
use Rattle.gno_tree_typing.specs.Judging.{LiteralType, as_literal_type, literal, pointed_literal}
use Rattle.gno_tree_typing.specs.Judging.LiteralType.{Open as OpenType, Whole as WholeType}
use Rattle.gno_tree_typing.specs.WrittenTypes.{array_length, array_type, as_type, distinct, embedded_field, embedded_methods, interface_method, length_in, map_type, qualified_type, small, struct_type, type_in, type_named, with_embedded}
use Rattle.gno_typed.specs.declared.elements.FieldValueOf.{FieldValueOf}
use Rattle.gno_typed.specs.declared.elements.IndexedOf.{IndexedOf}
use Rattle.gno_typed.specs.declared.scope.NamedOf.{NamedOf}
use Rattle.gno_typed.specs.declared.scope.NamedOf.TheVariants as n
use Rattle.gno_typing.proofs.OneGiven.{given_one, same_one}
use Rattle.gno_typing.proofs.OneName.{exported_one, named_one}
use Rattle.gno_typing.proofs.OneParts.{after_one, bad_one, found_one, good_one, some_one, wants_one, where_one}
use Rattle.gno_typing.proofs.OneTypes.{underlying_once}
use Rattle.gno_literals.proofs.OneConstant.{one_constant}
use Rattle.gno_embedding.specs.Walking.{HasOneDefinition}
use Rattle.gno_typing.proofs.OnePrimary.{as_value_one}
use Rattle.gno_typing.specs.Binary.{pos_in}
use Rattle.gno_terms.specs.Terms.{term_of}
use Rattle.gno_typing.specs.Verdicts.{Verdict, by_test}
use Rattle.std.proofs.Common.{true, false}
use Rattle.gno_typing.specs.Laws.{HasOne}
use Rattle.gno_typing.specs.Names.{Meaning, is_blank, meaning_of}
use Rattle.gno_typing.specs.declared.operand.OperandOf.{OperandOf}
use Rattle.gno_typing.specs.declared.operand.OperandOf.TheVariants as o
use Rattle.gno_typing.specs.declared.value.ValueOf.{ValueOf}
use Rattle.gno_typing.specs.declared.value.ValueOf.TheVariants as v

-- ---- types

test_one : {A : Type 0} (test : Bool) (J K : Verdict A → Type 0) → HasOne J → HasOne K → HasOne (by_test test J K)
test_one true J K h k = h
test_one false J K h k = k

as_type_one : (at : Pos) (x : OperandOf GoType) → HasOne (as_type at x)
as_type_one at (o.Type place s) = good_one s
as_type_one at (o.Value x) = bad_one 41 at
as_type_one at (o.Method place of calls form bound) = bad_one 41 at
as_type_one at (o.Crossing place of code) = bad_one 41 at
as_type_one at (o.Results place of form) = bad_one 41 at
as_type_one at (o.OpenArray place element) = bad_one 41 at
as_type_one at (o.Package place path) = bad_one 41 at
as_type_one at (o.Builtin place name) = bad_one 41 at
as_type_one at (o.Cross place) = bad_one 41 at
as_type_one at (o.Realm place) = bad_one 41 at

pub type_named_one : (ms : List Meaning) (name : Name) → HasOne (type_named ms name)
unfolding type_named
type_named_one ms name = after_one _ _ (named_one ms name.pos name.text) (as_type_one name.pos)

type_in_one : (exports : List ℕ → List Meaning) (at : Pos) (is : Option (NamedOf GoType)) (name : List ℕ) → HasOne (type_in exports at is name)
type_in_one exports at None name = bad_one 40 at
type_in_one exports at (Some (n.Package path)) name = after_one _ _ (exported_one (exports path) at name) (as_type_one at)
type_in_one exports at (Some (n.Variable id s)) name = bad_one 41 at
type_in_one exports at (Some (n.Constant s x)) name = bad_one 41 at
type_in_one exports at (Some (n.TypeName s)) name = bad_one 41 at
type_in_one exports at (Some (n.Function code s crossing)) name = bad_one 41 at
type_in_one exports at (Some (n.Builtin text)) name = bad_one 41 at

pub qualified_type_one : (exports : List ℕ → List Meaning) (ms : List Meaning) (qualifier name : Name) → HasOne (qualified_type exports ms qualifier name)
unfolding qualified_type
qualified_type_one exports ms qualifier name = test_one (is_blank qualifier.text) _ _ (bad_one 41 qualifier.pos) (type_in_one exports qualifier.pos (meaning_of ms qualifier.text) name.text)

pub distinct_one : (before ns : List Name) → HasOne (distinct before ns)
unfolding distinct
distinct_one before ns = same_one _

same_length : (m n : ℕ) → c.Whole (pos m) ≡ c.Whole (pos n) → m ≡ n
same_length m n e = cc

same_interface : (ms ns : List (MethodOf GoType)) → t.Interface ms ≡ t.Interface ns → ms ≡ ns
same_interface ms ns e = cc

module _ (table : Table) (place : Pos) where
  small_one : (s : GoType) → HasOne (small table place s)
  small_one s = wants_one _ 78 place _ (good_one s)

  length_in_one : (x : ValueOf GoType) → HasOne (length_in table place x)
  length_in_one (v.Constant at s x) = some_one _ 78 place _ (λ m n a b. same_length m n (sym a.value ∙ b.value)) good_one
  length_in_one (v.Nil at) = bad_one 78 place
  length_in_one (v.Typed at s stands calls form) = bad_one 78 place
  length_in_one (v.Pending at waits calls form) = bad_one 78 place

  pub array_length_one : (x : OperandOf GoType) → HasOne (array_length table place x)
  unfolding array_length
  array_length_one x = after_one _ _ (as_value_one x) length_in_one

  pub array_type_one : (count : ℕ) (element : GoType) → HasOne (array_type table place count element)
  unfolding array_type
  array_type_one count element = small_one _

  pub map_type_one : (key value : GoType) → HasOne (map_type table place key value)
  unfolding map_type
  map_type_one key value = wants_one _ 62 place _ (good_one _)

  pub struct_type_one : (fs : List (FieldOf GoType)) → HasOne (struct_type table place fs)
  unfolding struct_type
  struct_type_one fs = wants_one _ 78 place _ (small_one _)

  pub embedded_field_one : (path : List ℕ) (star : Bool) (name : List ℕ) (s : GoType) → HasOne (embedded_field table path place star name s)
  unfolding embedded_field
  embedded_field_one path star name s = wants_one _ 78 place _ (good_one _)

  pub embedded_methods_one : HasOneDefinition table → (s : GoType) → HasOne (embedded_methods table place s)
  unfolding embedded_methods
  embedded_methods_one one s = some_one _ 78 place _ (λ ms ns a b. same_interface ms ns (sym a.is ∙ ap term_of (underlying_once table one s a.underlying b.underlying a.by b.by) ∙ b.is)) good_one

pub with_embedded_one : (place : Pos) (before ms : List (MethodOf GoType)) → HasOne (with_embedded place before ms)
unfolding with_embedded
with_embedded_one place before ms = wants_one _ 64 place _ (good_one _)

pub interface_method_one : (path : List ℕ) (name : Name) (s : GoType) → HasOne (interface_method path name s)
unfolding interface_method
interface_method_one path name s = test_one (is_blank name.text) _ _ (bad_one 80 name.pos) (wants_one _ 78 name.pos _ (good_one _))

-- ---- literals

pub literal_one : (l : Literal) → HasOne (literal l)
literal_one l = found_one _ _ _ (one_constant l.kind l.spelling) (λ value. good_one _) (bad_one 42 l.pos)

pub as_literal_type_one : (at : Pos) (x : OperandOf GoType) → HasOne (as_literal_type at x)
as_literal_type_one at (o.Type place s) = good_one _
as_literal_type_one at (o.OpenArray place element) = good_one _
as_literal_type_one at (o.Value x) = bad_one 41 at
as_literal_type_one at (o.Method place of calls form bound) = bad_one 41 at
as_literal_type_one at (o.Crossing place of code) = bad_one 41 at
as_literal_type_one at (o.Results place of form) = bad_one 41 at
as_literal_type_one at (o.Package place path) = bad_one 41 at
as_literal_type_one at (o.Builtin place name) = bad_one 41 at
as_literal_type_one at (o.Cross place) = bad_one 41 at
as_literal_type_one at (o.Realm place) = bad_one 41 at

pub pointed_literal_one : (at : Pos) (x : LiteralType) → HasOne (pointed_literal at x)
pointed_literal_one at (WholeType s) = good_one _
pointed_literal_one at (OpenType element) = bad_one 41 at

module _ (table : Table) where
  pub filled_one : (u : GoType) (x : ValueOf GoType) → HasOne (filled table u x)
  unfolding filled
  filled_one u x = after_one _ _ (given_one table 49 (pos_in x) u x) (λ y. good_one _)

  field_value_one : (place : Option FieldPlace) (x : ValueOf GoType) → HasOne (field_value table place x)
  field_value_one None x = good_one _
  field_value_one (Some place) x = after_one _ _ (filled_one place.of x) (λ y. good_one _)

  pub field_given_one : (place : Option FieldPlace) (x : OperandOf GoType) → HasOne (field_given table place x)
  unfolding field_given
  field_given_one place x = after_one _ _ (as_value_one x) (field_value_one place)

  index_key_one : (x : ValueOf GoType) → HasOne (index_key table x)
  index_key_one (v.Constant at s x) = where_one _ _ _ (wants_one _ 43 at _ (good_one _)) (good_one _)
  index_key_one (v.Nil at) = good_one _
  index_key_one (v.Typed at s stands calls form) = good_one _
  index_key_one (v.Pending at waits calls form) = good_one _

  pub key_found_one : (x : OperandOf GoType) → HasOne (key_found table x)
  unfolding key_found
  key_found_one x = after_one _ _ (as_value_one x) index_key_one

  pub map_key_one : (key : GoType) (x : ValueOf GoType) → HasOne (map_key table key x)
  unfolding map_key
  map_key_one key x = after_one _ _ (filled_one key x) (λ y. good_one _)

  listed_one : (kind : ListKind) (place : Pos) (s element : GoType) (calls : Bool) (end : ℕ) (items : List (IndexedOf GoType)) → HasOne (listed kind table place s element calls end items)
  listed_one (Array count) place s element calls end items = good_one _
  listed_one Slice place s element calls end items = good_one _
  listed_one Open place s element calls end items = wants_one _ 78 place _ (good_one _)

  pub list_literal_one : (place : Pos) (s : GoType) (kind : ListKind) (element : GoType) (x : Gathered Item) → HasOne (list_literal table place s kind element x)
  unfolding list_literal
  list_literal_one place s kind element x = wants_one _ 55 place _ (wants_one _ 60 place _ (listed_one kind place s element x.calls (end_of (indexes 0 x.items)) (indexed_items x.items (indexes 0 x.items))))

pub struct_literal_one : (place : Pos) (s : GoType) (path : List ℕ) (fs : List (FieldOf GoType)) (ks : List Key) (x : Gathered (FieldValueOf GoType)) → HasOne (struct_literal place s path fs ks x)
unfolding struct_literal
struct_literal_one place s path fs ks x = wants_one _ 60 place _ (good_one _)

same_pairs : (ps qs : List (PairOf GoType)) → Some ps ≡ Some qs → ps ≡ qs
same_pairs ps qs e = cc

pub map_literal_one : (place : Pos) (s : GoType) (x : Gathered MapItem) → HasOne (map_literal place s x)
unfolding map_literal
map_literal_one place s x = found_one _ _ _ (λ ps qs a b. same_pairs ps qs (sym a.pairs ∙ b.pairs)) (λ ps. good_one _) (bad_one 60 place)

pub elided_one : (at : Pos) (u : GoType) (x : ValueOf GoType) → HasOne (elided at u x)
elided_one at u (v.Typed place s stands calls form) = good_one _
elided_one at u (v.Constant place s x) = good_one _
elided_one at u (v.Nil place) = good_one _
elided_one at u (v.Pending place waits calls form) = good_one _
