-- What is known of the types that were read.
use Rattle.std.specs.Prelude.{ℕ, ◌≡◌, List, false, true}
use Rattle.gno_scan.specs.Names.{IsName}
use Rattle.gno_terms.specs.declared.term.GoType.{GoType}
use Rattle.gno_terms.specs.declared.term.MethodOf.{MethodOf}
use Rattle.gno_terms.specs.declared.term.TermOf.{TermOf}
use Rattle.gno_terms.specs.declared.term.TypeRef.{TypeRef}
use Rattle.gno_terms.specs.Lawful.{IsLawful, IsOwned, IsTyped, is_function, is_untyped}
use Rattle.gno_terms.specs.Tables.{Table, Is, type_at}
use Rattle.gno_terms.specs.Terms.{term_of}
use Rattle.gno_type_reading.specs.TypeTexts.{IsDefinedBy, OverDefined}

-- the number stands for a type that may be a part, over types that are defined
pub record Known (table : Table) (r : TypeRef) : Type 0 where
  pub type : GoType
  pub is : Is table r type
  pub typed : IsTyped type
  pub over : OverDefined table type

-- a term of such parts may be read
pub record MayStand (table : Table) (x : TermOf GoType) : Type 0 where
  pub lawful : IsLawful x
  pub typed : is_untyped x ≡ false
  pub known : IsDefinedBy table x

abbrev pub IsOwnedName : List ℕ → List ℕ → Type 0
IsOwnedName name path = IsName name × IsOwned name path

abbrev pub IsOwnedMethod : List GoType → MethodOf TypeRef → Type 0
IsOwnedMethod types m = IsOwnedName m.name m.«package» × (is_function (term_of (type_at types m.of)) ≡ true) × (m.pointer ≡ false)
