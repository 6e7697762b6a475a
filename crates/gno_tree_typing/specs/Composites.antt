-- Composite literals, after their parts. Go specification, "Composite literals".
use Rattle.std.specs.Prelude.{ℕ, ◌≡◌, ◌⊎◌, ⊤, ◌+◌, ◌^◌, ◌++◌, ℤ, pos, negsuc, List, [], ◌∷◌, Bool, true, false, ◌||◌, ◌&&◌, not, if◌then◌else◌, nat_eq, nat_lt, length, Option, Some, None, option_map}
use Rattle.std.specs.Str.{bytes_eq}
use Rattle.gno_constants.specs.declared.constant.Constant.{Constant}
use Rattle.gno_scan.specs.declared.token.Pos.{Pos}
use Rattle.gno_terms.specs.declared.term.FieldOf.{FieldOf}
use Rattle.gno_terms.specs.declared.term.GoType.{GoType}
use Rattle.gno_terms.specs.declared.term.TermOf.TheVariants as t
use Rattle.gno_terms.specs.Lawful.{Each}
use Rattle.gno_terms.specs.Normal.{package_of}
use Rattle.gno_terms.specs.Tables.{Table, Underlying}
use Rattle.gno_terms.specs.Terms.{term_of, type_of}
use Rattle.gno_tree_typing.specs.WrittenTypes.{IsSmall}
use Rattle.gno_typed.specs.declared.elements.ElementsOf.{ElementsOf}
use Rattle.gno_typed.specs.declared.elements.ElementsOf.TheVariants as e
use Rattle.gno_typed.specs.declared.elements.FieldValueOf.{FieldValueOf}
use Rattle.gno_typed.specs.declared.elements.IndexedOf.{IndexedOf}
use Rattle.gno_typed.specs.declared.elements.PairOf.{PairOf}
use Rattle.gno_typed.specs.declared.expr.Addressed.TheVariants as a
use Rattle.gno_typed.specs.declared.expr.TypedExprOf.{TypedExprOf}
use Rattle.gno_typed.specs.declared.expr.TypedExprOf.TheVariants as w
use Rattle.gno_typing.specs.Binary.{calls_in, pos_in}
use Rattle.gno_typing.specs.Classes.{IsOf, is_integer}
use Rattle.gno_typing.specs.Forms.{closed}
use Rattle.gno_typing.specs.Giving.{given}
use Rattle.gno_typing.specs.Indexes.{IsWide, is_untyped_whole, taken_type, whole_in}
use Rattle.gno_typing.specs.Names.{is_blank}
use Rattle.gno_typing.specs.Operands.{as_value}
use Rattle.gno_typing.specs.Verdicts.{Verdict, After, bad, good, wants, where_so}
use Rattle.gno_typing.specs.declared.form.FormOf.TheVariants as f
use Rattle.gno_typing.specs.declared.operand.OperandOf.{OperandOf}
use Rattle.gno_typing.specs.declared.value.Standing.TheVariants as st
use Rattle.gno_typing.specs.declared.value.ValueOf.{ValueOf}
use Rattle.gno_typing.specs.declared.value.ValueOf.TheVariants as v

-- a value of the literal's type
abbrev pub composed : Pos → GoType → Bool → ElementsOf GoType → Verdict (ValueOf GoType) → Type 0
composed place s calls elements = good (v.Typed place s st.Literal calls (f.Whole (w.Composite place s elements)))

-- a part in its place, and whether it holds a call
pub record Filled : Type 0 where
  pub form : TypedExprOf GoType
  pub calls : Bool

unfoldable pub filled : Table → GoType → ValueOf GoType → Verdict Filled → Type 0
filled table u x = After (given table 49 (pos_in x) u x) (λ y. good (record { form = closed y; calls = calls_in x }))

-- ---- structs

pub data Key : Type 0 where
  Absent : Key
  Field : List ℕ → Key
  Other : Key

-- a field, and its place in the struct
pub record FieldPlace : Type 0 where
  pub index : ℕ
  pub of : GoType

-- a package sees the fields that are exported, and its own
abbrev pub is_seen : List ℕ → FieldOf GoType → Bool
is_seen path x = bytes_eq x.«package» [] || bytes_eq x.«package» path

abbrev pub is_field_named : List ℕ → List ℕ → FieldOf GoType → Bool
is_field_named path name x = bytes_eq x.name name && bytes_eq x.«package» (package_of name path) && not (is_blank name)

abbrev pub field_from : ℕ → List ℕ → List (FieldOf GoType) → List ℕ → Option FieldPlace
field_from i path [] name = None
field_from i path (x ∷ xs) name = if is_field_named path name x then Some (record { index = i; of = x.of }) else field_from (i + 1) path xs name

abbrev pub field_at : ℕ → ℕ → List (FieldOf GoType) → Option FieldPlace
field_at i k [] = None
field_at i k (x ∷ xs) = if nat_eq i k then Some (record { index = i; of = x.of }) else field_at (i + 1) k xs

-- the field that the k-th element gives a value, in a literal with keys or without
abbrev pub place_of : Bool → List ℕ → List (FieldOf GoType) → ℕ → Key → Option FieldPlace
place_of true path fs k (Key.Field name) = field_from 0 path fs name
place_of true path fs k key = None
place_of false path fs k key = field_at 0 k fs

abbrev pub is_key : Key → Bool
is_key Key.Absent = false
is_key key = true

abbrev pub has_keys : List Key → Bool
has_keys [] = false
has_keys (k ∷ ks) = is_key k || has_keys ks

abbrev pub no_key_is : List ℕ → List Key → Bool
no_key_is name [] = true
no_key_is name (Key.Field other ∷ ks) = not (bytes_eq other name) && no_key_is name ks
no_key_is name (k ∷ ks) = no_key_is name ks

abbrev pub is_found : {A : Type 0} → Option A → Bool
is_found None = false
is_found (Some x) = true

-- each key is the name of a field, and none stands twice
abbrev pub keys_fit : List ℕ → List (FieldOf GoType) → List Key → Bool
keys_fit path fs [] = true
keys_fit path fs (Key.Field name ∷ ks) = is_found (field_from 0 path fs name) && no_key_is name ks && keys_fit path fs ks
keys_fit path fs (k ∷ ks) = false

abbrev pub all_seen : List ℕ → List (FieldOf GoType) → Bool
all_seen path [] = true
all_seen path (x ∷ xs) = is_seen path x && all_seen path xs

-- without keys there is a value for each field, or none at all
abbrev pub values_fit : List ℕ → List (FieldOf GoType) → List Key → Bool
values_fit path fs [] = true
values_fit path fs (k ∷ ks) = nat_eq (length (k ∷ ks)) (length fs) && all_seen path fs

abbrev pub elements_fit : List ℕ → List (FieldOf GoType) → List Key → Bool
elements_fit path fs ks = if has_keys ks then keys_fit path fs ks else values_fit path fs ks

-- what elements give, and whether one holds a call
pub record Gathered (A : Type 0) : Type 0 where
  pub calls : Bool
  pub items : List A

abbrev pub nothing_gathered : {A : Type 0} → Gathered A
nothing_gathered = record { calls = false; items = [] }

abbrev pub one_gathered : {A : Type 0} → Bool → A → Gathered A
one_gathered calls x = record { calls = calls; items = x ∷ [] }

abbrev pub gathered : {A : Type 0} → Gathered A → Gathered A → Gathered A
gathered x y = record { calls = x.calls || y.calls; items = x.items ++ y.items }

-- a value for a field; one for no field is judged alone
abbrev pub field_value : Table → Option FieldPlace → ValueOf GoType → Verdict (Gathered (FieldValueOf GoType)) → Type 0
field_value table None x = good nothing_gathered
field_value table (Some place) x = After (filled table place.of x) (λ y. good (one_gathered y.calls (record { index = place.index; value = y.form })))

unfoldable pub field_given : Table → Option FieldPlace → OperandOf GoType → Verdict (Gathered (FieldValueOf GoType)) → Type 0
field_given table place x = After (as_value x) (field_value table place)

unfoldable pub struct_literal : Pos → GoType → List ℕ → List (FieldOf GoType) → List Key → Gathered (FieldValueOf GoType) → Verdict (ValueOf GoType) → Type 0
struct_literal place s path fs ks x = wants (elements_fit path fs ks ≡ true) 60 place (composed place s x.calls (e.Struct x.items))

-- ---- arrays and slices

-- the key of an element
pub data IndexKey : Type 0 where
  Absent : IndexKey
  -- a constant of an integer type
  Whole : Pos → GoType → Constant → IndexKey
  Other : IndexKey

pub record Item : Type 0 where
  pub key : IndexKey
  pub value : TypedExprOf GoType

abbrev pub index_key : Table → ValueOf GoType → Verdict IndexKey → Type 0
index_key table (v.Constant at s x) = where_so (IsOf is_integer table s)
    (wants (IsWide (is_untyped_whole (term_of s)) x → ⊥) 43 at (good (IndexKey.Whole at (taken_type (is_untyped_whole (term_of s)) s) x)))
    (good IndexKey.Other)
index_key table x = good IndexKey.Other

unfoldable pub key_found : Table → OperandOf GoType → Verdict IndexKey → Type 0
key_found table x = After (as_value x) (index_key table)

abbrev pub below : ℕ → ℤ → Bool
below limit (pos k) = nat_lt k limit
below limit (negsuc k) = false

-- constant keys are from 0, and below the limit
abbrev pub key_within : ℕ → IndexKey → Bool
key_within limit (IndexKey.Whole at s x) = below limit (whole_in x)
key_within limit key = true

abbrev pub keys_within : ℕ → List Item → Bool
keys_within limit [] = true
keys_within limit (x ∷ xs) = key_within limit x.key && keys_within limit xs

abbrev pub is_index : IndexKey → Bool
is_index IndexKey.Other = false
is_index key = true

abbrev pub all_indexes : List Item → Bool
all_indexes [] = true
all_indexes (x ∷ xs) = is_index x.key && all_indexes xs

abbrev pub natural : ℤ → ℕ
natural (pos k) = k
natural (negsuc k) = 0

-- an element stands at its key, or behind the one before it
abbrev pub index_of : ℕ → IndexKey → ℕ
index_of next (IndexKey.Whole at s x) = natural (whole_in x)
index_of next key = next

abbrev pub indexes : ℕ → List Item → List ℕ
indexes next [] = []
indexes next (x ∷ xs) = index_of next x.key ∷ indexes (index_of next x.key + 1) xs

abbrev pub is_one_of : ℕ → List ℕ → Bool
is_one_of k [] = false
is_one_of k (n ∷ ns) = nat_eq k n || is_one_of k ns

abbrev pub are_distinct : List ℕ → Bool
are_distinct [] = true
are_distinct (n ∷ ns) = not (is_one_of n ns) && are_distinct ns

abbrev pub all_below : ℕ → List ℕ → Bool
all_below limit [] = true
all_below limit (n ∷ ns) = nat_lt n limit && all_below limit ns

-- one behind the greatest
abbrev pub end_of : List ℕ → ℕ
end_of [] = 0
end_of (n ∷ ns) = if nat_lt n (end_of ns) then end_of ns else n + 1

abbrev pub key_form : IndexKey → Option (TypedExprOf GoType)
key_form (IndexKey.Whole at s x) = Some (w.Constant at s x)
key_form key = None

abbrev pub indexed_items : List Item → List ℕ → List (IndexedOf GoType)
indexed_items [] ns = []
indexed_items (x ∷ xs) [] = []
indexed_items (x ∷ xs) (n ∷ ns) = record { key = key_form x.key; index = n; value = x.value } ∷ indexed_items xs ns

-- `[n]element`, `[...]element` and `[]element`
pub data ListKind : Type 0 where
  Array : ℕ → ListKind
  Open : ListKind
  Slice : ListKind

-- an array, or a slice, of elements of a type
pub data HasItems (table : Table) (s : GoType) : ListKind → GoType → Type 0 where
  of_array : {kind : ListKind} (u element : GoType) (n : ℕ) → Underlying table s u → term_of u ≡ t.Array n element → kind ≡ ListKind.Array n → HasItems table s kind element
  of_slice : {kind : ListKind} (u element : GoType) → Underlying table s u → term_of u ≡ t.Slice element → kind ≡ ListKind.Slice → HasItems table s kind element

abbrev pub limit_of : ListKind → ℕ
limit_of (ListKind.Array n) = n
limit_of kind = 2 ^ 63

abbrev pub listed : ListKind → Table → Pos → GoType → GoType → Bool → ℕ → List (IndexedOf GoType) → Verdict (ValueOf GoType) → Type 0
listed (ListKind.Array n) table place s element calls end items = composed place s calls (e.Array n items)
listed ListKind.Slice table place s element calls end items = composed place s calls (e.Slice end items)
listed ListKind.Open table place s element calls end items = wants (IsSmall table (type_of (t.Array end element))) 78 place (composed place (type_of (t.Array end element)) calls (e.Array end items))

abbrev pub items_fit : ℕ → List Item → Bool
items_fit limit xs = all_indexes xs && are_distinct (indexes 0 xs) && all_below limit (indexes 0 xs)

-- `s` is the type of the literal, but for `[...]element`
unfoldable pub list_literal : Table → Pos → GoType → ListKind → GoType → Gathered Item → Verdict (ValueOf GoType) → Type 0
list_literal table place s kind element x = wants (keys_within (limit_of kind) x.items ≡ true) 55 place (wants (items_fit (limit_of kind) x.items ≡ true) 60 place
    (listed kind table place s element x.calls (end_of (indexes 0 x.items)) (indexed_items x.items (indexes 0 x.items))))

-- ---- maps

pub record MapKey : Type 0 where
  pub form : Option (TypedExprOf GoType)
  pub constant : Option Constant
  pub calls : Bool

pub record MapItem : Type 0 where
  pub key : Option (TypedExprOf GoType)
  pub constant : Option Constant
  pub value : TypedExprOf GoType

abbrev pub constant_in : ValueOf GoType → Option Constant
constant_in (v.Constant at s x) = Some x
constant_in x = None

abbrev pub no_key : MapKey
no_key = record { form = None; constant = None; calls = false }

unfoldable pub map_key : Table → GoType → ValueOf GoType → Verdict MapKey → Type 0
map_key table key x = After (filled table key x) (λ y. good (record { form = Some y.form; constant = constant_in x; calls = y.calls }))

-- no other element has this constant key
abbrev pub Differs : MapItem → MapItem → Type 0
Differs x y = (value : Constant) → x.constant ≡ Some value → y.constant ≡ Some value → ⊥

abbrev pub AllDiffer : List MapItem → Type 0
AllDiffer [] = ⊤
AllDiffer (x ∷ xs) = Each (Differs x) xs × AllDiffer xs

abbrev pub pair_of : MapItem → Option (PairOf GoType)
pair_of x = option_map (λ key. record { key = key; value = x.value }) x.key

abbrev pub behind_pair : Option (PairOf GoType) → Option (List (PairOf GoType)) → Option (List (PairOf GoType))
behind_pair (Some p) (Some ps) = Some (p ∷ ps)
behind_pair p ps = None

abbrev pub pairs_of : List MapItem → Option (List (PairOf GoType))
pairs_of [] = Some []
pairs_of (x ∷ xs) = behind_pair (pair_of x) (pairs_of xs)

-- each element has a key, and no constant key stands twice
pub record ArePairs (xs : List MapItem) (ps : List (PairOf GoType)) : Type 0 where
  pub pairs : pairs_of xs ≡ Some ps
  pub differ : AllDiffer xs

unfoldable pub map_literal : Pos → GoType → Gathered MapItem → Verdict (ValueOf GoType) → Type 0
map_literal place s x y = ((ps : List (PairOf GoType)) × ArePairs x.items ps × composed place s x.calls (e.Map ps) y) ⊎ (((ps : List (PairOf GoType)) → ArePairs x.items ps → ⊥) × bad 60 place y)

-- ---- inner literals without a type

-- whose `&` is left out
abbrev pub elided : Pos → GoType → ValueOf GoType → Verdict (ValueOf GoType) → Type 0
elided at u (v.Typed place s stands calls form) = good (v.Typed at u st.Result calls (f.Whole (w.Address at u (closed form) a.Elided)))
elided at u x = good x
