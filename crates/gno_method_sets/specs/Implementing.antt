-- Which types implement an interface. Go specification, "Implementing an interface".
use Rattle.std.specs.Prelude.{◌≡◌, List}
use Rattle.gno_promotion.specs.MethodSets.{InMethodSet}
use Rattle.gno_terms.specs.declared.term.GoType.{GoType}
use Rattle.gno_terms.specs.declared.term.MethodOf.{MethodOf}
use Rattle.gno_terms.specs.declared.term.TermOf.TheVariants as t
use Rattle.gno_terms.specs.Lawful.{Each}
use Rattle.gno_terms.specs.Normal.{Identical}
use Rattle.gno_terms.specs.Tables.{Table, Underlying}
use Rattle.gno_terms.specs.Terms.{term_of}

-- a method of this name and of an identical type is in the method set
pub record HasMethod (table : Table) (s : GoType) (wanted : MethodOf GoType) : Type 0 where
  pub method : MethodOf GoType
  pub in_set : InMethodSet table s method
  pub name : method.name ≡ wanted.name
  pub package_is : method.«package» ≡ wanted.«package»
  pub type : Identical method.of wanted.of

-- the method set has each method of the interface
pub record Implements (table : Table) (s : GoType) (interface : GoType) : Type 0 where
  pub underlying : GoType
  pub by : Underlying table interface underlying
  pub methods : List (MethodOf GoType)
  pub is_interface : term_of underlying ≡ t.Interface methods
  pub has : Each (HasMethod table s) methods
