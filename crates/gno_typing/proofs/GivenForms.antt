-- Each value that is given to a place takes a form, or has a fault.
use Rattle.std.proofs.Common.{◌≡◌, sym, subst, ℕ, List, [], Option, Some, Bool, true, false, rules}
use Rattle.gno_scan.specs.declared.token.Pos.{Pos}
use Rattle.gno_terms.specs.declared.term.GoType.{GoType}
use Rattle.gno_terms.specs.Lawful.{is_untyped}
use Rattle.gno_terms.specs.Terms.{term_of}
use Rattle.gno_terms.specs.Tables.{Table}
use Rattle.gno_constants.specs.declared.constant.Constant.{Constant}
use Rattle.gno_typing.specs.Laws.{HasForm}
use Rattle.gno_tree.specs.declared.operator.BinaryOperator.{BinaryOperator}
use Rattle.gno_typing.specs.Verdicts.{Verdict, After, AfterBoth}
use Rattle.gno_typing.specs.Giving.{InType, both, IsGiven, AreGiven, IsDefaulted, AreDefaulted, IsBeside, AreDefaults, IsDefaultConstant, constant_given, constant_of, given, held, in_one_type, pending_given, typed_given}
use Rattle.gno_typing.specs.Giving.{IsGiven as g}
use Rattle.gno_typing.specs.Giving.{AreGiven as gs}
use Rattle.gno_typing.specs.Giving.{IsDefaulted as d}
use Rattle.gno_typing.specs.Giving.{AreDefaulted as ds}
use Rattle.gno_typing.specs.Giving.{IsBeside as i}
use Rattle.gno_typing.specs.Giving.{AreDefaults as two}
use Rattle.gno_typing.specs.declared.form.FormOf.{FormOf}
use Rattle.gno_typing.specs.declared.pending.PendingOf.{PendingOf}
use Rattle.gno_typing.specs.declared.pending.PendingOperationOf.{PendingOperationOf}
use Rattle.gno_typing.specs.declared.value.ValueOf.{ValueOf}
use Rattle.gno_typing.specs.declared.value.ValueOf.TheVariants as v
use Rattle.gno_typing.specs.declared.value.Waits.{Waits}
use Rattle.gno_typing.specs.declared.value.Waits.TheVariants as waits
use Rattle.gno_typing.proofs.Parts.{Formed, Whole, after_both_form, after_form, back, both_whole, front, good_form, made_whole, wants_form, where_form}

module _ (table : Table) where
  mutual
    pub given_whole : {u : GoType} {x : PendingOf GoType} {y : Verdict (FormOf GoType)} → IsGiven table u x y → Whole y
    given_whole (g.comparison pos operator operands boxed left right is judged) = good_form _ _ judged
    given_whole (g.constant pos value rune is judged) = wants_form _ 43 pos _ (good_form _) _ judged
    given_whole (g.unary pos operator operand is z inner y_is) = subst Whole (sym y_is) (made_whole _ z (given_whole inner))
    given_whole (g.chain first rest is z inner behind) = are_given_whole behind (given_whole inner)

    pub are_given_whole : {u : GoType} {x y : Verdict (FormOf GoType)} {os : List (PendingOperationOf GoType)} → AreGiven table u x os y → Whole x → Whole y
    are_given_whole (gs.none y_is) h = subst Whole (sym y_is) h
    are_given_whole (gs.operand pos operator right z inner more) h = are_given_whole more (both_whole _ _ z h (given_whole inner))
    are_given_whole (gs.count pos operator count more) h = are_given_whole more (made_whole _ _ h)

  beside_whole : {x : PendingOf GoType} {other : Option InType} {y : Verdict InType} → IsBeside table x other y → (a : InType) → other ≡ Some a → Whole y
  beside_whole (i.unknown judged) a is = absurd (search (rules, is))
  beside_whole (i.known other z given y_is) a is = subst Whole (sym y_is) (made_whole _ z (given_whole given))

  -- a constant, and a value beside it that waits
  beside_both : {A : Type 0} (go : InType → InType → A) (x : PendingOf GoType) (left z : Verdict InType) → Whole z → IsBeside table x z.form left → Whole (both go left z)
  beside_both go x left z h beside none = let a = h (back left.faults z.faults none) in both_whole go left z (beside_whole beside a.0 a.1) h none

  both_beside : {A : Type 0} (go : InType → InType → A) (x : PendingOf GoType) (left z : Verdict InType) → Whole left → IsBeside table x left.form z → Whole (both go left z)
  both_beside go x left z h beside none = let a = h (front left.faults z.faults none) in both_whole go left z h (beside_whole beside a.0 a.1) none

  next_whole : (x z next : Verdict InType) (pos : Pos) (operator : BinaryOperator) → Whole x → Whole z → AfterBoth (λ a. a ≡ x) (λ a. a ≡ z) (in_one_type pos operator) next → Whole next
  next_whole x z next pos operator h k it = after_both_form (λ a. a ≡ x) (λ a. a ≡ z) (in_one_type pos operator) (λ a is. subst Whole (sym is) h) (λ a is. subst Whole (sym is) k) (λ a b. wants_form _ 47 pos _ (good_form _)) next it

  mutual
    pub defaulted_whole : {x : PendingOf GoType} {y : Verdict InType} → IsDefaulted table x y → Whole y
    defaulted_whole (d.comparison pos operator operands boxed left right is z inner y_is) = subst Whole (sym y_is) (made_whole _ z (given_whole inner))
    defaulted_whole (d.unary pos operator operand is z inner y_is) = subst Whole (sym y_is) (made_whole _ z (defaulted_whole inner))
    defaulted_whole (d.chain first rest is z inner behind) = are_defaulted_whole behind (defaulted_whole inner)
    defaulted_whole (d.shifted first_pos value rune pos operator count rest is z inner behind) = are_defaulted_whole behind (made_whole _ z (given_whole inner))
    defaulted_whole (d.beside first_pos value rune pos operator right rest is z inner left beside behind) = are_defaulted_whole behind (beside_both _ _ left z (defaulted_whole inner) beside)

    pub are_defaulted_whole : {x y : Verdict InType} {os : List (PendingOperationOf GoType)} → AreDefaulted table x os y → Whole x → Whole y
    are_defaulted_whole (ds.none y_is) h = subst Whole (sym y_is) h
    are_defaulted_whole (ds.constant {x} pos operator right_pos value rune z beside behind) h = are_defaulted_whole behind (both_beside _ _ x z h beside)
    are_defaulted_whole (ds.operand {x} pos operator right z inner next made_next behind) h = are_defaulted_whole behind (next_whole x z next pos operator h (defaulted_whole inner) made_next)
    are_defaulted_whole (ds.count {x} pos operator count behind) h = are_defaulted_whole behind (made_whole _ x h)

  pub are_defaults_formed : {l r : PendingOf GoType} {x y : Verdict InType} → AreDefaults table l r x y → x.faults ≡ [] → y.faults ≡ [] → Formed x.form × Formed y.form
  are_defaults_formed (two.constant_left pos value rune is right beside) n o = let b = defaulted_whole right o in (beside_whole beside b.0 b.1 n, b)
  are_defaults_formed (two.constant_right pos value rune is left beside) n o = let a = defaulted_whole left n in (a, beside_whole beside a.0 a.1 o)
  are_defaults_formed (two.neither left right) n o = (defaulted_whole left n, defaulted_whole right o)

  typed_form : (code : ℕ) (at : Pos) (u s : GoType) (form : FormOf GoType) → HasForm (typed_given table code at u s form)
  typed_form code at u s form = wants_form _ code at _ (where_form _ _ _ (good_form _) (good_form _))

  pub held_form : (code : ℕ) (at : Pos) (u : GoType) (x : InType) → HasForm (held table code at u x)
  held_form code at u x = wants_form _ code at _ (good_form _)

  pub default_form : (pos : Pos) (s : GoType) (x : Constant) → HasForm (IsDefaultConstant table pos s x)
  default_form pos s x v it = wants_form _ 43 pos _ (good_form _) v it.verdict

  pub held_constant : (code : ℕ) (at : Pos) (u : GoType) (pos : Pos) (s : GoType) (x : Constant) → HasForm (After (IsDefaultConstant table pos s x) (held table code at u))
  held_constant code at u pos s x = after_form _ _ (default_form pos s x) (held_form code at u)

  constant_form : (code : ℕ) (at : Pos) (u : GoType) (pos : Pos) (s : GoType) (x : Constant) → HasForm (constant_given table code at u pos s x)
  constant_form code at u pos s x = where_form _ _ _ (held_constant code at u pos s x) (wants_form _ code at _ (wants_form _ 43 pos _ (good_form _)))

  pub pending_form : (code : ℕ) (at : Pos) (u : GoType) (needs : Waits) (x : PendingOf GoType) → HasForm (pending_given table code at u needs x)
  pending_form code at u waits.Boolean x = where_form _ _ _ (after_form _ _ (λ v. defaulted_whole) (held_form code at u)) (wants_form _ code at _ (λ v. given_whole))
  pending_form code at u (waits.Integer shift) x = where_form _ _ _ (after_form _ _ (λ v. defaulted_whole) (held_form code at u)) (wants_form _ 46 shift _ (λ v. given_whole))

  by_untyped : (untyped : Bool) (code : ℕ) (at : Pos) (u : GoType) (pos : Pos) (s : GoType) (x : Constant) → HasForm (constant_of untyped table code at u pos s x)
  by_untyped true code at u pos s x = constant_form code at u pos s x
  by_untyped false code at u pos s x = typed_form code at u s _

  pub given_form : (code : ℕ) (at : Pos) (u : GoType) (x : ValueOf GoType) → HasForm (given table code at u x)
  given_form code at u (v.Constant pos s x) = by_untyped (is_untyped (term_of s)) code at u pos s x
  given_form code at u (v.Nil pos) = wants_form _ code at _ (good_form _)
  given_form code at u (v.Typed pos s stands calls form) = typed_form code at u s form
  given_form code at u (v.Pending pos needs calls form) = pending_form code at u needs form
