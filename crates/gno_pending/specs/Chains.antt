-- What is found of a chain up to an operation, where types are named by their numbers. This project's own.
use Rattle.std.specs.Prelude.{◌≡◌, List, Bool, Option}
use Rattle.gno_constants.specs.declared.constant.Constant.{Constant}
use Rattle.gno_judging.specs.Found.{FormStands, PendingsStand}
use Rattle.gno_judging.specs.Noting.{noted}
use Rattle.gno_judging.specs.Stands.{BothStand}
use Rattle.gno_scan.specs.declared.token.Pos.{Pos}
use Rattle.gno_terms.specs.declared.term.GoType.{GoType}
use Rattle.gno_terms.specs.declared.term.TypeRef.{TypeRef}
use Rattle.gno_terms.specs.Tables.{Table}
use Rattle.gno_type_classes.specs.Unnumbered.{unnumbered}
use Rattle.gno_typing.specs.Giving.{AreGiven, IsGiven}
use Rattle.gno_typing.specs.Verdicts.{Verdict}
use Rattle.gno_typing.specs.declared.fault.Fault.{Fault}
use Rattle.gno_typing.specs.declared.form.FormOf.{FormOf}
use Rattle.gno_typing.specs.declared.pending.PendingOf.{PendingOf}
use Rattle.gno_typing.specs.declared.pending.PendingOperationOf.{PendingOperationOf}

-- Of the chain `x` the operations `left` are left. What is found of these behind `next` is found of the chain.
pub record GivenSoFar (table : Table) (u : GoType) (x : PendingOf GoType) (first : Option Fault) (left : List (PendingOperationOf TypeRef)) (form : Option (FormOf TypeRef)) (now : Option Fault) : Type 0 where
  pub rest : List (PendingOperationOf GoType)
  pub left_stands : PendingsStand table left rest
  pub next : Verdict (FormOf GoType)
  pub goes_on : (y : Verdict (FormOf GoType)) → AreGiven (unnumbered table) u next rest y → IsGiven (unnumbered table) u x y
  pub form_stands : BothStand (FormStands table) form next.form
  pub notes : now ≡ noted first next.faults
