-- Two operands of which one at least waits.
use Rattle.std.proofs.Common.{◌≡◌, sym, ap, ◌∙◌, List, ◌++◌, Bool, Option, None}
use Rattle.gno_constants.specs.declared.constant.Constant.{Constant}
use Rattle.gno_giving.specs.InTypes.{InTypeStands}
use Rattle.gno_giving.specs.declared.in_type.InType.{InType}
use Rattle.gno_judging.proofs.Noting.{noted_append}
use Rattle.gno_judging.specs.Answers.{Answers}
use Rattle.gno_judging.specs.Noting.{noted}
use Rattle.gno_judging.specs.Stands.{BothStand}
use Rattle.gno_judging.specs.Found.{PendingStands}
use Rattle.gno_judging.specs.Waiting.{IsWaiting}
use Rattle.gno_pending.proofs.WaitingForms.{no_constant, no_constant_stands}
use Rattle.gno_pending.specs.Defaults.{DefaultsAnswer, OneWaits}
use Rattle.gno_pending.specs.Defaults.{OneWaits as one}
use Rattle.gno_pending.specs.declared.defaults.Defaults.{Defaults}
use Rattle.gno_scan.specs.declared.token.Pos.{Pos}
use Rattle.gno_terms.specs.declared.term.GoType.{GoType}
use Rattle.gno_terms.specs.declared.term.TypeRef.{TypeRef}
use Rattle.gno_terms.specs.Tables.{Table}
use Rattle.gno_type_classes.specs.Unnumbered.{unnumbered}
use Rattle.gno_typing.specs.Giving as giving
use Rattle.gno_typing.specs.Giving.{IsBeside, IsDefaulted}
use Rattle.gno_typing.specs.Giving.{AreDefaults as are}
use Rattle.gno_typing.specs.declared.fault.Fault.{Fault}
use Rattle.gno_typing.specs.declared.pending.PendingOf.{PendingOf}
use Rattle.gno_typing.specs.declared.pending.PendingOf.TheVariants as p

-- beside a constant the other one waits
pub right_waits : {l r : PendingOf GoType} (at : Pos) (value : Constant) (rune : Bool) → l ≡ p.Constant at value rune → OneWaits l r → IsWaiting r
right_waits at value rune is (one.left_constant at' value' rune' e h) = h
right_waits at value rune is (one.right_constant at' value' rune' h e) = absurd (no_constant at value rune is h)
right_waits at value rune is (one.both h k) = k

-- what is no constant waits
module _ (table : Table) where
  pub left_other : {l r : PendingOf GoType} {x : PendingOf TypeRef} → PendingStands table x l → ((at : Pos) (value : Constant) (rune : Bool) → x ≡ p.Constant at value rune → ⊥) → OneWaits l r → IsWaiting l
  left_other stands not (one.left_constant at value rune e h) = absurd (no_constant_stands table stands not at value rune e)
  left_other stands not (one.right_constant at value rune h e) = h
  left_other stands not (one.both h k) = h

  pub right_other : {l r : PendingOf GoType} {x : PendingOf TypeRef} → PendingStands table x r → ((at : Pos) (value : Constant) (rune : Bool) → x ≡ p.Constant at value rune → ⊥) → OneWaits l r → IsWaiting r
  right_other stands not (one.left_constant at value rune e h) = h
  right_other stands not (one.right_constant at value rune h e) = absurd (no_constant_stands table stands not at value rune e)
  right_other stands not (one.both h k) = k

module _ (table : Table) (l r : PendingOf GoType) (old : Option Fault) (left right : Option InType) where
  pub constant_left : (at : Pos) (value : Constant) (rune : Bool) (fresh apart mid new : Option Fault) → l ≡ p.Constant at value rune → fresh ≡ None
      → Answers (IsDefaulted (unnumbered table) r) (InTypeStands table) fresh apart right
      → ((y : Option giving.InType) → BothStand (InTypeStands table) right y → Answers (IsBeside (unnumbered table) l y) (InTypeStands table) old mid left)
      → ((fs : List Fault) → apart ≡ noted None fs → new ≡ noted mid fs)
      → DefaultsAnswer table l r old new (record { left = left; right = right })
  constant_left at value rune fresh apart mid new is fresh_is z beside noted_all =
      let x = beside z.verdict.form z.stands in
      record {
        left = x.verdict;
        right = z.verdict;
        judged = are.constant_left at value rune is z.judged x.judged;
        left_stands = x.stands;
        right_stands = z.stands;
        notes = noted_all z.verdict.faults (z.notes ∙ ap (λ n. noted n z.verdict.faults) fresh_is) ∙ ap (λ n. noted n z.verdict.faults) x.notes ∙ sym (noted_append old x.verdict.faults z.verdict.faults);
      }

  pub constant_right : (at : Pos) (value : Constant) (rune : Bool) (mid new : Option Fault) → r ≡ p.Constant at value rune
      → Answers (IsDefaulted (unnumbered table) l) (InTypeStands table) old mid left
      → ((y : Option giving.InType) → BothStand (InTypeStands table) left y → Answers (IsBeside (unnumbered table) r y) (InTypeStands table) mid new right)
      → DefaultsAnswer table l r old new (record { left = left; right = right })
  constant_right at value rune mid new is x beside =
      let z = beside x.verdict.form x.stands in
      record {
        left = x.verdict;
        right = z.verdict;
        judged = are.constant_right at value rune is x.judged z.judged;
        left_stands = x.stands;
        right_stands = z.stands;
        notes = z.notes ∙ ap (λ n. noted n z.verdict.faults) x.notes ∙ sym (noted_append old x.verdict.faults z.verdict.faults);
      }

  pub neither : (mid new : Option Fault) → Answers (IsDefaulted (unnumbered table) l) (InTypeStands table) old mid left → Answers (IsDefaulted (unnumbered table) r) (InTypeStands table) mid new right
      → DefaultsAnswer table l r old new (record { left = left; right = right })
  neither mid new x z = record {
    left = x.verdict;
    right = z.verdict;
    judged = are.neither x.judged z.judged;
    left_stands = x.stands;
    right_stands = z.stands;
    notes = z.notes ∙ ap (λ n. noted n z.verdict.faults) x.notes ∙ sym (noted_append old x.verdict.faults z.verdict.faults);
  }
