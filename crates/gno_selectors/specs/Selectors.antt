-- Which field or method a selector names. Go specification, "Selectors".
use Rattle.std.specs.Prelude.{ℕ, ◌≡◌, ◌<◌, ◌≤◌, ◌⊎◌, ⊤, List, [], ◌∷◌, map, reverse, length, codes, Bool}
use Rattle.gno_embedding.specs.Embedding.{Embeds}
use Rattle.gno_embedding.specs.Nodes.{IsFieldAt}
use Rattle.gno_promotion.specs.MethodSets.{IsEntry, Member, field, method, name_of, package_of}
use Rattle.gno_selectors.specs.declared.selection.Passed.{Passed}
use Rattle.gno_selectors.specs.declared.selection.Selection.{Selection}
use Rattle.gno_selectors.specs.declared.selection.Selection.TheVariants as r
use Rattle.gno_terms.specs.declared.term.FieldOf.{FieldOf}
use Rattle.gno_terms.specs.declared.term.GoType.{GoType}
use Rattle.gno_terms.specs.declared.term.TypeRef.{TypeRef}
use Rattle.gno_terms.specs.Tables.{Table, Below, Is, type_at}
use Rattle.gno_terms.specs.Terms.{field_with, method_with}

-- the embedded fields that are passed, outermost first, lead from one type to another
abbrev pub Passes : Table → GoType → List Passed → GoType → Type 0
Passes table s [] u = u ≡ s
Passes table s (p ∷ way) u = (v : GoType) × Embeds table s p.place p.pointer v × Passes table v way u

abbrev pub place_of : Passed → ℕ
place_of p = p.place

-- the places of the fields that are passed, the last one first
abbrev pub path_of : List Passed → List ℕ
path_of way = map place_of (reverse way)

-- a field or a method of this name, which the type has of itself or by embedded fields
pub record IsNamed (table : Table) (s : GoType) (name «package» : List ℕ) (path : List ℕ) (place : ℕ) (member : Member) : Type 0 where
  pub followed : Bool
  pub entry : IsEntry table s path followed place member
  pub name_is : name_of member ≡ name
  pub package_is : package_of member ≡ «package»

-- the blank identifier names nothing
abbrev pub IsBlank : List ℕ → Type 0
IsBlank name = name ≡ codes "_"

-- it is less deep than each other of its name
pub record Selects (table : Table) (s : GoType) (name «package» : List ℕ) (path : List ℕ) (place : ℕ) (member : Member) : Type 0 where
  pub named : IsNamed table s name «package» path place member
  pub least : (p : List ℕ) (k : ℕ) (other : Member) → IsNamed table s name «package» p k other → (length path < length p) ⊎ ((p ≡ path) × (k ≡ place))
  pub no_blank : IsBlank name → ⊥

-- two of this name are equally deep, and none is less deep
pub record IsAmbiguous (table : Table) (s : GoType) (name «package» : List ℕ) : Type 0 where
  pub path : List ℕ
  pub place : ℕ
  pub member : Member
  pub named : IsNamed table s name «package» path place member
  pub rival_path : List ℕ
  pub rival_place : ℕ
  pub rival : Member
  pub rival_named : IsNamed table s name «package» rival_path rival_place rival
  pub as_deep : length rival_path ≡ length path
  pub apart : rival_path ≡ path → rival_place ≡ place → ⊥
  pub least : (p : List ℕ) (k : ℕ) (other : Member) → IsNamed table s name «package» p k other → length path ≤ length p
  pub no_blank : IsBlank name → ⊥

-- the type has nothing of this name, or it is the blank identifier
abbrev pub IsMissing : Table → GoType → List ℕ → List ℕ → Type 0
IsMissing table s name «package» = IsBlank name ⊎ ((p : List ℕ) (k : ℕ) (other : Member) → IsNamed table s name «package» p k other → ⊥)

-- the way leads to the type of this number, where the name selects this member
pub record IsSelected (table : Table) (s : GoType) (name «package» : List ℕ) (way : List Passed) (of : TypeRef) (member : Member) : Type 0 where
  pub type : GoType
  pub is : Is table of type
  pub passes : Passes table s way type
  pub place : ℕ
  pub selects : Selects table s name «package» (path_of way) place member

-- a field stands at its place among those of the type that the way leads to
abbrev pub StandsAt : Table → TypeRef → ℕ → FieldOf TypeRef → Type 0
StandsAt table of place f = (u : GoType) → Is table of u → IsFieldAt table u place f

-- what the name selects
abbrev pub IsSelection : Table → GoType → List ℕ → List ℕ → Selection → Type 0
IsSelection table s name «package» r.Missing = IsMissing table s name «package»
IsSelection table s name «package» r.Ambiguous = IsAmbiguous table s name «package»
IsSelection table s name «package» (r.Field way of place f) = IsSelected table s name «package» way of (field (field_with (type_at table.types) f)) × StandsAt table of place f
IsSelection table s name «package» (r.Method way of m) = IsSelected table s name «package» way of (method (method_with (type_at table.types) m))

-- the numbers in it are among the first n
abbrev pub IsSelectionBelow : ℕ → Selection → Type 0
IsSelectionBelow n (r.Field way of place f) = Below n of × Below n f.of
IsSelectionBelow n (r.Method way of m) = Below n of × Below n m.of
IsSelectionBelow n _ = ⊤
