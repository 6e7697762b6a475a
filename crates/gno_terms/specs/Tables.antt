-- What the numbers of a table stand for.
use Rattle.std.specs.Prelude.{ℕ, ◌≡◌, ◌<◌, List, [], ◌∷◌, map, length, Option, Some, None, slice_get, codes, false}
use Rattle.gno_base.specs.declared.kind.Kind.TheVariants.{Text}
use Rattle.gno_terms.specs.declared.term.GoType.{GoType}
use Rattle.gno_terms.specs.declared.term.TypeRef.{TypeRef}
use Rattle.gno_terms.specs.declared.term.TermOf.{TermOf}
use Rattle.gno_terms.specs.declared.term.TermOf.TheVariants as t
use Rattle.gno_terms.specs.declared.term.MethodOf.{MethodOf}
use Rattle.gno_terms.specs.declared.term.DefinitionOf.{DefinitionOf}
use Rattle.gno_terms.specs.Lawful.{Each}
use Rattle.gno_terms.specs.Terms.{type_of, term_of, term_with, method_with, parts}

-- the types that stand in a table, by their numbers, and what declarations say of defined ones
pub record Table : Type 0 where
  pub types : List GoType
  pub definitions : List (DefinitionOf GoType)

-- a number stands for a type
abbrev pub Is : Table → TypeRef → GoType → Type 0
Is table r s = slice_get table.types r.0 ≡ Some s

-- a later table says the same of each number
abbrev pub Grows : Table → Table → Type 0
Grows table later = (r : TypeRef) (s : GoType) → Is table r s → Is later r s

abbrev pub type_or : Option GoType → GoType
type_or None = type_of t.Error
type_or (Some s) = s

-- the type that a number stands for
abbrev pub type_at : List GoType → TypeRef → GoType
type_at types r = type_or (slice_get types r.0)

-- the type whose parts have these numbers
abbrev pub deep : List GoType → TermOf TypeRef → GoType
deep types x = type_of (term_with (type_at types) x)

-- the number is one of the first n
abbrev pub Below : ℕ → TypeRef → Type 0
Below n r = r.0 < n

-- each part is
abbrev pub PartsBelow : ℕ → TermOf TypeRef → Type 0
PartsBelow n x = Each (Below n) (parts x)

-- a declaration says so
abbrev pub Defines : Table → DefinitionOf GoType → Type 0
Defines table d = (k : ℕ) × (slice_get table.definitions k ≡ Some d)

-- the package of a defined type
abbrev pub IsOfPath : List ℕ → GoType → Type 0
IsOfPath path s = (name : List ℕ) × (local : ℕ) × (term_of s ≡ t.Defined path name local)

-- Go specification, "Errors": what the predeclared type `error` is
abbrev pub error_interface : GoType
error_interface = type_of (t.Interface (record { name = codes "Error"; «package» = []; of = type_of (t.Function [] false (type_of (t.Basic Text) ∷ [])); pointer = false } ∷ []))

-- Go specification, "Underlying types"
abbrev pub UnderlyingBy : Table → GoType → GoType → TermOf GoType → Type 0
UnderlyingBy table s u (t.Defined path name local) = (d : DefinitionOf GoType) × Defines table d × (d.of ≡ s) × (d.underlying ≡ u)
UnderlyingBy table s u t.Error = u ≡ error_interface
UnderlyingBy table s u x = u ≡ s

abbrev pub Underlying : Table → GoType → GoType → Type 0
Underlying table s u = UnderlyingBy table s u (term_of s)
