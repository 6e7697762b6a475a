-- Where a name stands among the members of one type, and which of the types that embedded fields lead to have it.
use Rattle.std.specs.Prelude.{ℕ, ◌≡◌, ◌≢◌, ◌<◌, ◌≤◌, ◌+◌, List, [], ◌++◌, map, length, slice_get, Some, Bool, ◌&&◌}
use Rattle.std.specs.Str.{bytes_eq}
use Rattle.gno_embedding.specs.Reaching.{IsNumbered, IsStep}
use Rattle.gno_embedding.specs.declared.ways.Reached.{Reached}
use Rattle.gno_promotion.specs.MethodSets.{HasMembers, Member, field, method, name_of, package_of}
use Rattle.gno_selectors.specs.Selectors.{Passes, StandsAt}
use Rattle.gno_selectors.specs.declared.selection.Passed.{Passed}
use Rattle.gno_selectors.specs.declared.selection.Selection.{Selection}
use Rattle.gno_selectors.specs.declared.selection.Selection.TheVariants as r
use Rattle.gno_selectors.specs.declared.standing.Standing.{Standing}
use Rattle.gno_selectors.specs.declared.standing.Standing.TheVariants as st
use Rattle.gno_terms.specs.declared.term.FieldOf.{FieldOf}
use Rattle.gno_terms.specs.declared.term.GoType.{GoType}
use Rattle.gno_terms.specs.declared.term.MethodOf.{MethodOf}
use Rattle.gno_terms.specs.declared.term.TermOf.{TermOf}
use Rattle.gno_terms.specs.declared.term.TermOf.TheVariants as t
use Rattle.gno_terms.specs.declared.term.TypeRef.{TypeRef}
use Rattle.gno_terms.specs.Tables.{Table, Is, type_at}
use Rattle.gno_terms.specs.Terms.{field_with, method_with}

-- a name, and the package that it belongs to where it is not exported
pub record Name : Type 0 where
  pub name : List ℕ
  pub «package» : List ℕ

abbrev pub called : List ℕ → List ℕ → Name
called name «package» = record { name = name; «package» = «package» }

abbrev pub method_name : {A : Type 0} → MethodOf A → Name
method_name m = called m.name m.«package»

abbrev pub field_name : {A : Type 0} → FieldOf A → Name
field_name f = called f.name f.«package»

abbrev pub member_name : Member → Name
member_name m = called (name_of m) (package_of m)

-- a defined pointer type has no methods
abbrev pub own : {A : Type 0} → List (MethodOf A) → TermOf A → List (MethodOf A)
own declared (t.Pointer a) = []
own declared x = declared

-- the names of the fields of a struct, or of the methods of an interface
abbrev pub names_in : {A : Type 0} → TermOf A → List Name
names_in (t.Struct fs) = map field_name fs
names_in (t.Interface ms) = map method_name ms
names_in x = []

-- the names of the members of a type, by its own methods and its underlying type
abbrev pub names : {A : Type 0} → List (MethodOf A) → TermOf A → List Name
names methods x = map method_name methods ++ names_in x

abbrev pub is_called : Name → Name → Bool
is_called a b = bytes_eq a.name b.name && bytes_eq a.«package» b.«package»

-- at which of the places before n the name stands
abbrev pub StandsBefore : ℕ → Name → List Name → Standing → Type 0
StandsBefore n name names st.Nowhere = (k : ℕ) → k < n → slice_get names k ≡ Some name → ⊥
StandsBefore n name names (st.At place) = (place < n) × (slice_get names place ≡ Some name) × ((k : ℕ) → k < n → slice_get names k ≡ Some name → k ≡ place)
StandsBefore n name names st.Twice = (j k : ℕ) × (slice_get names j ≡ Some name) × (slice_get names k ≡ Some name) × (j ≢ k)

-- it stands at one place more
abbrev pub with_one : ℕ → Standing → Standing
with_one place st.Nowhere = st.At place
with_one place _ = st.Twice

-- at which place it stands
abbrev pub IsStanding : Name → List Name → Standing → Type 0
IsStanding name names standing = StandsBefore (length names) name names standing

-- where it stands among the members of the type of this number
pub record StandsIn (table : Table) (of : TypeRef) (name : Name) (standing : Standing) : Type 0 where
  pub type : GoType
  pub is : Is table of type
  pub members : List Member
  pub has : HasMembers table type members
  pub standing_is : IsStanding name (map member_name members) standing

-- a member of the type of this number
pub record IsMember (table : Table) (of : TypeRef) (place : ℕ) (member : Member) : Type 0 where
  pub type : GoType
  pub is : Is table of type
  pub members : List Member
  pub has : HasMembers table type members
  pub at : slice_get members place ≡ Some member

-- some member of the type of this number has the name
pub record Has (table : Table) (name : Name) (of : TypeRef) : Type 0 where
  pub place : ℕ
  pub member : Member
  pub is_member : IsMember table of place member
  pub name_is : member_name member ≡ name

-- the first, from a place on, that has the name
pub record IsFirst (table : Table) (name : Name) (its : List Reached) (from place : ℕ) : Type 0 where
  pub past : from ≤ place
  pub it : Reached
  pub at : slice_get its place ≡ Some it
  pub has : Has table name it.of
  pub first : (k : ℕ) (other : Reached) → from ≤ k → k < place → slice_get its k ≡ Some other → Has table name other.of → ⊥

-- none has it
abbrev pub LackFrom : Table → Name → List Reached → ℕ → Type 0
LackFrom table name its from = (k : ℕ) (other : Reached) → from ≤ k → slice_get its k ≡ Some other → Has table name other.of → ⊥

-- another that has it stands behind the one at a place, and is not deeper
pub record HasRival (table : Table) (name : Name) (its : List Reached) (place : ℕ) : Type 0 where
  pub it : Reached
  pub at : slice_get its place ≡ Some it
  pub number : ℕ
  pub behind : place < number
  pub other : Reached
  pub other_at : slice_get its number ≡ Some other
  pub has : Has table name other.of
  pub as_deep : other.depth ≡ it.depth

-- each stands behind the one where its last field stands
abbrev pub AreBehind : List Reached → Type 0
AreBehind its = (k : ℕ) (it : Reached) → slice_get its k ≡ Some it → it.from ≤ k

abbrev pub HaveSteps : Table → GoType → List Reached → Type 0
HaveSteps table s its = (k : ℕ) (it : Reached) → slice_get its k ≡ Some it → IsStep table s its k it

-- the way goes from the type of one number to that of another, which is deeper by its length
abbrev pub GoesFrom : List Reached → ℕ → ℕ → List Passed → Type 0
GoesFrom its from to way = (table : Table) (s : GoType) → HaveSteps table s its → (d e : ℕ) (u v : GoType) → IsNumbered table s its from d u → IsNumbered table s its to e v → Passes table u way v × (e ≡ d + length way)

-- it holds this member of the type of this number
abbrev pub Holds : Table → List Passed → TypeRef → Member → Selection → Type 0
Holds table way of m (r.Field w o place f) = (w ≡ way) × (o ≡ of) × (m ≡ field (field_with (type_at table.types) f)) × StandsAt table o place f
Holds table way of m (r.Method w o n) = (w ≡ way) × (o ≡ of) × (m ≡ method (method_with (type_at table.types) n))
Holds table way of m _ = ⊥
