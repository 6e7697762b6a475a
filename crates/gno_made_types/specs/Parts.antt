-- Numbers of the parts that a type may be made of, and what they stand for. This project's own.
use Rattle.std.specs.Prelude.{ℕ, ◌≡◌, List, length}
use Rattle.gno_judging.specs.Found.{TypeStands}
use Rattle.gno_terms.specs.Lawful.{IsTyped}
use Rattle.gno_terms.specs.Normal.{package_of}
use Rattle.gno_terms.specs.Tables.{Below, Table, type_at}
use Rattle.gno_terms.specs.declared.term.FieldOf.{FieldOf}
use Rattle.gno_terms.specs.declared.term.GoType.{GoType}
use Rattle.gno_terms.specs.declared.term.MethodOf.{MethodOf}
use Rattle.gno_terms.specs.declared.term.TypeRef.{TypeRef}
use Rattle.gno_type_reading.specs.Known.{IsOwnedMethod, IsOwnedName}

-- the number stands for a type that may be a part of another one
pub record IsPart (table : Table) (r : TypeRef) : Type 0 where
  pub below : Below (length table.types) r
  pub typed : IsTyped (type_at table.types r)

-- a field of such a type, whose name belongs to a package unless it is exported
pub record IsPartField (table : Table) (x : FieldOf TypeRef) : Type 0 where
  pub of : IsPart table x.of
  pub named : IsOwnedName x.name x.«package»

-- a method of an interface
pub record IsPartMethod (table : Table) (x : MethodOf TypeRef) : Type 0 where
  pub of : IsPart table x.of
  pub owned : IsOwnedMethod table.types x

-- ---- what they stand for

pub record FieldStands (table : Table) (x : FieldOf TypeRef) (y : FieldOf GoType) : Type 0 where
  pub name : x.name ≡ y.name
  pub «package» : x.«package» ≡ y.«package»
  pub embedded : x.embedded ≡ y.embedded
  pub of : TypeStands table x.of y.of

pub record MethodStands (table : Table) (x : MethodOf TypeRef) (y : MethodOf GoType) : Type 0 where
  pub name : x.name ≡ y.name
  pub «package» : x.«package» ≡ y.«package»
  pub of : TypeStands table x.of y.of
  pub pointer : x.pointer ≡ y.pointer

-- a field that the package of a path declares
abbrev pub IsFieldOf : List ℕ → FieldOf GoType → Type 0
IsFieldOf path f = f.«package» ≡ package_of f.name path
