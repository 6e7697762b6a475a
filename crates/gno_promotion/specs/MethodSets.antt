-- Method sets, with the methods that embedded fields promote. Go specification, "Method sets", "Selectors" and "Struct types".
use Rattle.std.specs.Prelude.{ℕ, ◌≡◌, ◌≢◌, ◌<◌, ◌⊎◌, ⊤, List, [], ◌∷◌, ◌++◌, map, length, slice_get, codes, Bool, true, false, ◌||◌, Some}
use Rattle.std.specs.Ordering.{is_lt}
use Rattle.gno_embedding.specs.Embedding.{Leads, base, is_pointer}
use Rattle.gno_embedding.specs.Reaching.{In}
use Rattle.gno_promotion.specs.declared.found.PromotedOf.{PromotedOf}
use Rattle.gno_terms.specs.declared.term.DefinitionOf.{DefinitionOf}
use Rattle.gno_terms.specs.declared.term.FieldOf.{FieldOf}
use Rattle.gno_terms.specs.declared.term.GoType.{GoType}
use Rattle.gno_terms.specs.declared.term.MethodOf.{MethodOf}
use Rattle.gno_terms.specs.declared.term.TermOf.{TermOf}
use Rattle.gno_terms.specs.declared.term.TermOf.TheVariants as t
use Rattle.gno_terms.specs.Lawful.{Each}
use Rattle.gno_terms.specs.Normal.{by_name}
use Rattle.gno_terms.specs.Tables.{Table, Defines, Underlying}
use Rattle.gno_terms.specs.Terms.{term_of}

-- a field or a method of a type itself
pub data Member : Type 0 where
  field : FieldOf GoType → Member
  method : MethodOf GoType → Member

abbrev pub name_of : Member → List ℕ
name_of (field f) = f.name
name_of (method m) = m.name

abbrev pub package_of : Member → List ℕ
package_of (field f) = f.«package»
package_of (method m) = m.«package»

-- the methods that declarations give a type, by its term
abbrev pub DeclaresBy : Table → GoType → List (MethodOf GoType) → TermOf GoType → Type 0
DeclaresBy table s ms (t.Defined path name local) = (d : DefinitionOf GoType) × Defines table d × (d.of ≡ s) × (ms ≡ d.methods)
DeclaresBy table s ms x = ms ≡ []

-- by declared methods and the underlying type. A defined pointer type has no methods
abbrev pub members : List (MethodOf GoType) → TermOf GoType → List Member
members declared (t.Struct fs) = map method declared ++ map field fs
members declared (t.Interface ms) = map method declared ++ map method ms
members declared (t.Pointer a) = []
members declared x = map method declared

pub record HasMembers (table : Table) (s : GoType) (ms : List Member) : Type 0 where
  pub declared : List (MethodOf GoType)
  pub declares : DeclaresBy table s declared (term_of s)
  pub underlying : GoType
  pub by : Underlying table s underlying
  pub are : ms ≡ members declared (term_of underlying)

-- a member that embedded fields lead to, by their places and its own place among the members there
pub record IsEntry (table : Table) (s : GoType) (path : List ℕ) (followed : Bool) (place : ℕ) (member : Member) : Type 0 where
  pub of : GoType
  pub leads : Leads table s path followed of
  pub members : List Member
  pub has : HasMembers table of members
  pub at : slice_get members place ≡ Some member

-- a method is selected: its entry is less deep than each other of its name
pub record IsPromoted (table : Table) (s : GoType) (m : MethodOf GoType) (followed : Bool) : Type 0 where
  pub path : List ℕ
  pub place : ℕ
  pub entry : IsEntry table s path followed place (method m)
  pub least : (p : List ℕ) (f : Bool) (k : ℕ) (other : Member) → IsEntry table s p f k other → name_of other ≡ m.name → package_of other ≡ m.«package» → (length path < length p) ⊎ ((p ≡ path) × (k ≡ place))
  -- the blank identifier names nothing
  pub named : m.name ≢ codes "_"

abbrev pub is_interface : {A : Type 0} → TermOf A → Bool
is_interface (t.Interface ms) = true
is_interface x = false

-- a method of a pointer receiver wants a pointer; a pointer to an interface has no methods
pub record InMethodSet (table : Table) (s : GoType) (m : MethodOf GoType) : Type 0 where
  pub followed : Bool
  pub promoted : IsPromoted table (base s) m followed
  pub receives : m.pointer ≡ true → is_pointer (term_of s) || followed ≡ true
  pub no_interface : is_pointer (term_of s) ≡ true → (u : GoType) → Underlying table (base s) u → is_interface (term_of u) ≡ false

-- in byte order, each name once
abbrev pub Ascend : {A : Type 0} → List (MethodOf A) → Type 0
Ascend [] = ⊤
Ascend (m ∷ []) = ⊤
Ascend (m ∷ n ∷ ms) = (is_lt (by_name m n) ≡ true) × Ascend (n ∷ ms)

-- the method set as a list
pub record IsMethodSet (table : Table) (s : GoType) (ms : List (MethodOf GoType)) : Type 0 where
  pub sound : Each (InMethodSet table s) ms
  pub all : (m : MethodOf GoType) → InMethodSet table s m → In m ms
  pub order : Ascend ms

abbrev pub method_in : {A : Type 0} → PromotedOf A → MethodOf A
method_in p = p.method

-- all methods that are selected
pub record AreSelected (table : Table) (s : GoType) (ps : List (PromotedOf GoType)) : Type 0 where
  pub sound : Each (λ p. IsPromoted table s p.method p.followed) ps
  pub all : (m : MethodOf GoType) (followed : Bool) → IsPromoted table s m followed → In (record { method = m; followed = followed }) ps
  pub order : Ascend (map method_in ps)
