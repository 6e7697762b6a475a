-- What the rule on conversions says.
use Rattle.std.proofs.Common.{ℕ, ◌≡◌, refl, sym, subst, Bool, true, false, Option, ℤ, rules}
use Rattle.std.specs.Prelude.{◌&&◌}
use Rattle.gno_constants.specs.declared.constant.Constant.{Constant}
use Rattle.gno_constants.specs.declared.constant.Constant.TheVariants as c
use Rattle.gno_judging.specs.Answers.{Answers}
use Rattle.gno_scan.specs.declared.token.Pos.{Pos}
use Rattle.gno_terms.specs.Tables.{Table}
use Rattle.gno_terms.specs.Terms.{term_of}
use Rattle.gno_terms.specs.declared.term.GoType.{GoType}
use Rattle.gno_typing.specs.Classes.{IsOf, is_text}
use Rattle.gno_typing.specs.Conversions.{conversion, converted, converted_boolean, converted_integer, is_whole_constant}
use Rattle.gno_typing.specs.Operands.{as_value}
use Rattle.gno_typing.specs.Verdicts.{After, Verdict, good}
use Rattle.gno_typing.specs.declared.fault.Fault.{Fault}
use Rattle.gno_typing.specs.declared.operand.OperandOf.{OperandOf}
use Rattle.gno_typing.specs.declared.operand.OperandOf.TheVariants as o
use Rattle.gno_typing.specs.declared.pending.PendingOf.{PendingOf}
use Rattle.gno_typing.specs.declared.value.ValueOf.{ValueOf}
use Rattle.gno_typing.specs.declared.value.ValueOf.TheVariants as v
use Rattle.gno_typing.specs.declared.value.Waits.{Waits}
use Rattle.gno_typing.specs.declared.value.Waits.TheVariants as waits

module _ {A : Type 0} (R : A → OperandOf GoType → Type 0) (rules : Table) (place : Pos) (u : GoType) (y : OperandOf GoType) (old new : Option Fault) (r : Option A) where
  pub the_conversion : Answers (After (After (as_value y) (converted rules place u)) (λ y. good (o.Value y))) R old new r → Answers (conversion rules place u y) R old new r
  unfolding conversion
  the_conversion h = h

module _ {A : Type 0} (R : A → ValueOf GoType → Type 0) (rules : Table) (place : Pos) (u : GoType) (at : Pos) (calls : Bool) (y : PendingOf GoType) (old new : Option Fault) (r : Option A) (needs : Waits) where
  pub of_boolean : needs ≡ waits.Boolean → Answers (converted_boolean rules place u calls y) R old new r → Answers (converted rules place u (v.Pending at needs calls y)) R old new r
  of_boolean e h = subst (λ (needs : Waits). Answers (converted rules place u (v.Pending at needs calls y)) R old new r) (sym e) h

  pub of_integer : (shift : Pos) → needs ≡ waits.Integer shift → Answers (converted_integer rules place u calls shift y) R old new r → Answers (converted rules place u (v.Pending at needs calls y)) R old new r
  of_integer shift e h = subst (λ (needs : Waits). Answers (converted rules place u (v.Pending at needs calls y)) R old new r) (sym e) h

-- ---- the character of a whole number

and_false : (b : Bool) → (b && false) ≡ true → ⊥
and_false true e = search (rules, e)
and_false false e = search (rules, e)

and_true : (b : Bool) → b ≡ true → (b && true) ≡ true
and_true true e = refl
and_true false e = e

of_and : (b : Bool) → (b && true) ≡ true → b ≡ true
of_and true e = refl
of_and false e = e

module _ (table : Table) (u : GoType) where
  pub a_character : (n : ℤ) → IsOf is_text table u → IsOf (λ term. is_text term && is_whole_constant (c.Whole n)) table u
  a_character n h = record { underlying = h.underlying; by = h.by; holds = and_true (is_text (term_of h.underlying)) h.holds }

  pub a_text : (n : ℤ) → IsOf (λ term. is_text term && is_whole_constant (c.Whole n)) table u → IsOf is_text table u
  a_text n h = record { underlying = h.underlying; by = h.by; holds = of_and (is_text (term_of h.underlying)) h.holds }

  pub no_character : (x : Constant) → ((n : ℤ) → x ≡ c.Whole n → ⊥) → IsOf (λ term. is_text term && is_whole_constant x) table u → ⊥
  no_character (c.Whole n) absent h = absent n refl
  no_character (c.Bool b) absent h = and_false (is_text (term_of h.underlying)) h.holds
  no_character (c.Text bytes) absent h = and_false (is_text (term_of h.underlying)) h.holds
