-- Embedded fields, and what they lead to. Go specification, "Struct types" and "Selectors".
use Rattle.std.specs.Prelude.{ℕ, ◌≡◌, List, [], ◌∷◌, Bool, true, false, ◌||◌, Some, slice_get}
use Rattle.gno_terms.specs.declared.term.FieldOf.{FieldOf}
use Rattle.gno_terms.specs.declared.term.GoType.{GoType}
use Rattle.gno_terms.specs.declared.term.TermOf.{TermOf}
use Rattle.gno_terms.specs.declared.term.TermOf.TheVariants as t
use Rattle.gno_terms.specs.Tables.{Table, Underlying}
use Rattle.gno_terms.specs.Terms.{term_of}

abbrev pub is_pointer : {A : Type 0} → TermOf A → Bool
is_pointer (t.Pointer a) = true
is_pointer x = false

abbrev pub base_by : {A : Type 0} → A → TermOf A → A
base_by s (t.Pointer a) = a
base_by s x = s

-- what a pointer type points at, and any other type itself
abbrev pub base : GoType → GoType
base s = base_by s (term_of s)

abbrev pub fields_in : {A : Type 0} → TermOf A → List (FieldOf A)
fields_in (t.Struct fs) = fs
fields_in x = []

-- it has an underlying type
abbrev pub IsKnown : Table → GoType → Type 0
IsKnown table s = (u : GoType) × Underlying table s u

-- the field at this place of a type is embedded, and leads to another type: to its own, or, if that is a pointer, to what it points at
pub record Embeds (table : Table) (s : GoType) (place : ℕ) (pointer : Bool) (u : GoType) : Type 0 where
  pub underlying : GoType
  pub by : Underlying table s underlying
  pub field : FieldOf GoType
  pub at : slice_get (fields_in (term_of underlying)) place ≡ Some field
  pub embedded : field.embedded ≡ true
  pub is_pointer : is_pointer (term_of field.of) ≡ pointer
  pub to : base field.of ≡ u

-- embedded fields lead from a type to another, by their places, the last one first. Whether one of them is a pointer: `followed`
pub data Leads (table : Table) (s : GoType) : List ℕ → Bool → GoType → Type 0 where
  here : Leads table s [] false s
  along : {path : List ℕ} {followed : Bool} {u : GoType} (place : ℕ) (pointer : Bool) (v : GoType) → Leads table s path followed u → Embeds table u place pointer v → Leads table s (place ∷ path) (followed || pointer) v

-- each type that they lead to has an underlying type
abbrev pub IsComplete : Table → GoType → Type 0
IsComplete table s = (path : List ℕ) (followed : Bool) (u : GoType) → Leads table s path followed u → IsKnown table u
