-- What two operands become where no place names a type, where types are named by their numbers. This project's own.
use Rattle.std.specs.Prelude.{◌≡◌, ◌++◌, Bool, Option}
use Rattle.gno_constants.specs.declared.constant.Constant.{Constant}
use Rattle.gno_giving.specs.InTypes.{InTypeStands}
use Rattle.gno_judging.specs.Noting.{noted}
use Rattle.gno_judging.specs.Stands.{BothStand}
use Rattle.gno_judging.specs.Waiting.{IsWaiting}
use Rattle.gno_pending.specs.declared.defaults.Defaults.{Defaults}
use Rattle.gno_scan.specs.declared.token.Pos.{Pos}
use Rattle.gno_terms.specs.declared.term.GoType.{GoType}
use Rattle.gno_terms.specs.Tables.{Table}
use Rattle.gno_type_classes.specs.Unnumbered.{unnumbered}
use Rattle.gno_typing.specs.Giving as giving
use Rattle.gno_typing.specs.Giving.{AreDefaults}
use Rattle.gno_typing.specs.Verdicts.{Verdict}
use Rattle.gno_typing.specs.declared.fault.Fault.{Fault}
use Rattle.gno_typing.specs.declared.pending.PendingOf.{PendingOf}
use Rattle.gno_typing.specs.declared.pending.PendingOf.TheVariants as p

-- one of both waits at least, and the other one waits or is a constant
pub data OneWaits (l r : PendingOf GoType) : Type 0 where
  left_constant : (pos : Pos) (value : Constant) (rune : Bool) → l ≡ p.Constant pos value rune → IsWaiting r → OneWaits l r
  right_constant : (pos : Pos) (value : Constant) (rune : Bool) → IsWaiting l → r ≡ p.Constant pos value rune → OneWaits l r
  both : IsWaiting l → IsWaiting r → OneWaits l r

-- Two verdicts are right. What was given stands for their forms; and their faults were noted, those of the left operand first.
pub record DefaultsAnswer (table : Table) (l r : PendingOf GoType) (old new : Option Fault) (x : Defaults) : Type 0 where
  pub left : Verdict giving.InType
  pub right : Verdict giving.InType
  pub judged : AreDefaults (unnumbered table) l r left right
  pub left_stands : BothStand (InTypeStands table) x.left left.form
  pub right_stands : BothStand (InTypeStands table) x.right right.form
  pub notes : new ≡ noted old (left.faults ++ right.faults)
