-- What is answered of what an operator gives exactly.
use Rattle.std.proofs.Common.{◌≡◌, refl, sym, subst, [], ◌∷◌, Option, None}
use Rattle.gno_constants.specs.declared.constant.Constant.{Constant}
use Rattle.gno_constants.specs.Exact.{Exact, IsTooWide}
use Rattle.gno_constants.specs.Exact.Exact.{Value, NoQuotient, NoShift, NotDefined}
use Rattle.gno_judging.specs.Answers.{Answers}
use Rattle.gno_judging.specs.Noting.{noted}
use Rattle.gno_judging.proofs.Answers.{fails}
use Rattle.gno_scan.specs.declared.token.Pos.{Pos}
use Rattle.gno_terms.specs.declared.term.GoType.{GoType}
use Rattle.gno_terms.specs.Tables.{Table, Underlying}
use Rattle.gno_terms.specs.Terms.{term_of}
use Rattle.gno_tree.specs.declared.operator.UnaryOperator.{UnaryOperator}
use Rattle.gno_typing.specs.Classes.{MayBe}
use Rattle.gno_typing.specs.Unary.{UnaryConstant, unary_exact, worked_out}
use Rattle.gno_typing.specs.Verdicts.{good, wants}
use Rattle.gno_typing.specs.declared.fault.Fault.{Fault}
use Rattle.gno_typing.specs.declared.value.ValueOf.{ValueOf}
use Rattle.gno_typing.specs.declared.value.ValueOf.TheVariants as v

module _ {A : Type 0} (R : A → ValueOf GoType → Type 0) (rules : Table) (place : Pos) (s : GoType) (old new : Option Fault) where
  pub too_wide : (e : Exact) → IsTooWide e → new ≡ noted old (record { code = 42; pos = place } ∷ []) → Answers (worked_out rules place s e) R old new None
  too_wide (Value x) h n = fails R (IsTooWide (Value x) → ⊥) 42 place (wants (MayBe rules x s) 43 place (good (v.Constant place s x))) old new (λ no. no h) n
  too_wide NoQuotient h n = absurd h
  too_wide NoShift h n = absurd h
  too_wide NotDefined h n = absurd h

  pub it_is : (e d : Exact) → e ≡ d → (x : Option A) → Answers (worked_out rules place s d) R old new x → Answers (worked_out rules place s e) R old new x
  it_is e d h x a = subst (λ d. Answers (worked_out rules place s d) R old new x) (sym h) a

pub not_defined : (e : Exact) → ((e ≡ NotDefined → ⊥) → ⊥) → e ≡ NotDefined
not_defined (Value x) h = absurd (h (λ e. cc))
not_defined NoQuotient h = absurd (h (λ e. cc))
not_defined NoShift h = absurd (h (λ e. cc))
not_defined NotDefined h = refl

-- of a constant behind an operator
pub of_underlying : {A : Type 0} (R : A → ValueOf GoType → Type 0) (table : Table) (place : Pos) (operator : UnaryOperator) (s : GoType) (x : Constant) (old new : Option Fault) (y : Option A) (u : GoType) → Underlying table s u → Answers (worked_out table place s (unary_exact operator (term_of u) x)) R old new y → Answers (UnaryConstant table place operator s x) R old new y
of_underlying R table place operator s x old new y u by h = record { verdict = h.verdict; judged = record { underlying = u; by = by; verdict = h.judged }; stands = h.stands; notes = h.notes }
