-- A form and the type that it took, where types are named by their numbers. This project's own.
use Rattle.gno_giving.specs.declared.in_type.InType.{InType}
use Rattle.gno_judging.specs.Found.{FormStands, TypeStands}
use Rattle.gno_terms.specs.Tables.{Table}
use Rattle.gno_typing.specs.Giving as giving

pub record InTypeStands (table : Table) (x : InType) (y : giving.InType) : Type 0 where
  pub of : TypeStands table x.of y.of
  pub form : FormStands table x.form y.form
