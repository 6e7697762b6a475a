-- What is found of a chain up to an operation where its place names no type, where types are named by their numbers. This project's own.
use Rattle.std.specs.Prelude.{◌≡◌, List, Bool, Option}
use Rattle.gno_constants.specs.declared.constant.Constant.{Constant}
use Rattle.gno_giving.specs.InTypes.{InTypeStands}
use Rattle.gno_giving.specs.declared.in_type.InType.{InType}
use Rattle.gno_judging.specs.Found.{PendingsStand}
use Rattle.gno_judging.specs.Noting.{noted}
use Rattle.gno_judging.specs.Stands.{BothStand}
use Rattle.gno_judging.specs.Waiting.{IsWaiting, MayFollow}
use Rattle.gno_pending.specs.declared.defaults.Front.{Front}
use Rattle.gno_pending.specs.declared.defaults.Front.TheVariants as front
use Rattle.gno_scan.specs.declared.token.Pos.{Pos}
use Rattle.gno_terms.specs.declared.term.GoType.{GoType}
use Rattle.gno_terms.specs.declared.term.TypeRef.{TypeRef}
use Rattle.gno_terms.specs.Tables.{Table}
use Rattle.gno_type_classes.specs.Unnumbered.{unnumbered}
use Rattle.gno_typing.specs.Giving as giving
use Rattle.gno_typing.specs.Giving.{AreDefaulted, IsDefaulted}
use Rattle.gno_typing.specs.Verdicts.{Verdict}
use Rattle.gno_typing.specs.declared.fault.Fault.{Fault}
use Rattle.gno_typing.specs.declared.pending.PendingOf.{PendingOf}
use Rattle.gno_typing.specs.declared.pending.PendingOf.TheVariants as p
use Rattle.gno_typing.specs.declared.pending.PendingOperationOf.{PendingOperationOf}

-- Of the chain `x` the operations `left` are left. What is found of these behind `next` is found of the chain.
pub record JudgedSoFar (table : Table) (x : PendingOf GoType) (first : Option Fault) (left : List (PendingOperationOf TypeRef)) (now : Option Fault) (form : Option InType) : Type 0 where
  pub rest : List (PendingOperationOf GoType)
  pub left_stands : PendingsStand table left rest
  pub follows : MayFollow rest
  pub next : Verdict giving.InType
  pub goes_on : (y : Verdict giving.InType) → AreDefaulted (unnumbered table) next rest y → IsDefaulted (unnumbered table) x y
  pub form_stands : BothStand (InTypeStands table) form next.form
  pub notes : now ≡ noted first next.faults

-- The chain begins with a constant, and nothing is found of it yet.
pub record FirstConstant (table : Table) (x : PendingOf GoType) (first : Option Fault) (left : List (PendingOperationOf TypeRef)) (now : Option Fault) (pos : Pos) (value : Constant) (rune : Bool) : Type 0 where
  pub rest : List (PendingOperationOf GoType)
  pub left_stands : PendingsStand table left rest
  pub is : x ≡ p.Chain (p.Constant pos value rune) rest
  pub waits : IsWaiting x
  pub notes : now ≡ first

abbrev pub DefaultedSoFar : Table → PendingOf GoType → Option Fault → List (PendingOperationOf TypeRef) → Option Fault → Front → Type 0
DefaultedSoFar table x first left now (front.Constant pos value rune) = FirstConstant table x first left now pos value rune
DefaultedSoFar table x first left now (front.Judged form) = JudgedSoFar table x first left now form
