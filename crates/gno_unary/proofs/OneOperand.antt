-- What the rule says of an operator before each value.
use Rattle.std.proofs.Common.{◌≡◌, refl, Bool, true, Option}
use Rattle.gno_constants.specs.declared.constant.Constant.{Constant}
use Rattle.gno_judging.specs.Answers.{Answers}
use Rattle.gno_scan.specs.declared.token.Pos.{Pos}
use Rattle.gno_terms.specs.declared.term.GoType.{GoType}
use Rattle.gno_terms.specs.declared.term.TermOf.{TermOf}
use Rattle.gno_terms.specs.Tables.{Table, Underlying}
use Rattle.gno_terms.specs.Terms.{term_of}
use Rattle.gno_tree.specs.declared.operator.UnaryOperator.{UnaryOperator}
use Rattle.gno_tree.specs.declared.operator.UnaryOperator.TheVariants as o
use Rattle.gno_typed.specs.declared.expr.TypedExprOf.TheVariants as w
use Rattle.gno_typing.specs.Classes.{IsOf, is_integer}
use Rattle.gno_typing.specs.Forms.{closed}
use Rattle.gno_typing.specs.Unary.{UnaryConstant, takes, takes_waiting, unary, unary_exact, worked_out}
use Rattle.gno_typing.specs.Verdicts.{Verdict, bad, good, wants}
use Rattle.gno_typing.specs.declared.fault.Fault.{Fault}
use Rattle.gno_typing.specs.declared.form.FormOf.{FormOf}
use Rattle.gno_typing.specs.declared.form.FormOf.TheVariants as f
use Rattle.gno_typing.specs.declared.pending.PendingOf.{PendingOf}
use Rattle.gno_typing.specs.declared.pending.PendingOf.TheVariants as p
use Rattle.gno_typing.specs.declared.value.Standing.{Standing}
use Rattle.gno_typing.specs.declared.value.Standing.TheVariants as standing
use Rattle.gno_typing.specs.declared.value.ValueOf.{ValueOf}
use Rattle.gno_typing.specs.declared.value.ValueOf.TheVariants as v
use Rattle.gno_typing.specs.declared.value.Waits.{Waits}

module _ (P : (Verdict (ValueOf GoType) → Type 0) → Type 0) (table : Table) (place : Pos) (operator : UnaryOperator) where
  pub before_constant : (at : Pos) (s : GoType) (x : Constant) → P (wants (IsOf (takes operator) table s) 46 place (UnaryConstant table place operator s x)) → P (unary table place operator (v.Constant at s x))
  unfolding unary
  before_constant at s x h = h

  pub before_nil : (at : Pos) → P (bad 46 place) → P (unary table place operator (v.Nil at))
  unfolding unary
  before_nil at h = h

  pub before_typed : (at : Pos) (s : GoType) (stands : Standing) (calls : Bool) (form : FormOf GoType) → P (wants (IsOf (takes operator) table s) 46 place (good (v.Typed place s standing.Result calls (f.Whole (w.Unary place s operator (closed form)))))) → P (unary table place operator (v.Typed at s stands calls form))
  unfolding unary
  before_typed at s stands calls form h = h

  pub before_waiting : (at : Pos) (needs : Waits) (calls : Bool) (form : PendingOf GoType) → P (wants (takes_waiting operator needs ≡ true) 46 place (good (v.Pending place needs calls (p.Unary place operator form)))) → P (unary table place operator (v.Pending at needs calls form))
  unfolding unary
  before_waiting at needs calls form h = h

-- each operator but `!`
pub takes_integers : (P : (TermOf GoType → Bool) → Type 0) (operator : UnaryOperator) → (operator ≡ o.Not → ⊥) → P is_integer → P (takes operator)
takes_integers P o.Plus not h = h
takes_integers P o.Minus not h = h
takes_integers P o.Not not h = absurd (not refl)
takes_integers P o.Complement not h = h
takes_integers P o.Dereference not h = h
takes_integers P o.Address not h = h

-- a constant, in its underlying type
module _ {A : Type 0} (R : A → ValueOf GoType → Type 0) (table : Table) (place : Pos) (operator : UnaryOperator) (old new : Option Fault) where
  pub of_underlying : (s : GoType) (x : Constant) (y : Option A) (u : GoType) → Underlying table s u → Answers (worked_out table place s (unary_exact operator (term_of u) x)) R old new y → Answers (UnaryConstant table place operator s x) R old new y
  of_underlying s x y u by h = record { verdict = h.verdict; judged = record { underlying = u; by = by; verdict = h.judged }; stands = h.stands; notes = h.notes }
