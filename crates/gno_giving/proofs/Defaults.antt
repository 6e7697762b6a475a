-- Constants in their own types, or in their default types.
use Rattle.std.proofs.Common.{◌≡◌, refl, sym, ap, subst, Bool, true, false, Option, Some, None, rules}
use Rattle.gno_assignability.specs.Assignability.{IsValue, default_kind}
use Rattle.gno_base.specs.declared.kind.Kind.{Kind}
use Rattle.gno_base.specs.declared.kind.Kind.TheVariants as k
use Rattle.gno_constants.specs.declared.constant.Constant.{Constant}
use Rattle.gno_giving.specs.declared.in_type.InType.{InType}
use Rattle.gno_judging.specs.Answers.{Answers}
use Rattle.gno_scan.specs.declared.token.Pos.{Pos}
use Rattle.gno_terms.specs.Lawful.{IsTyped, is_untyped}
use Rattle.gno_type_rows.proofs.Pushed.{term_of_type}
use Rattle.gno_terms.specs.Tables.{Table}
use Rattle.gno_terms.specs.Terms.{term_of}
use Rattle.gno_terms.specs.declared.term.GoType.{GoType}
use Rattle.gno_terms.specs.declared.term.TermOf.{TermOf}
use Rattle.gno_terms.specs.declared.term.TermOf.TheVariants as t
use Rattle.gno_typed.specs.declared.expr.TypedExprOf.TheVariants as w
use Rattle.gno_typing.specs.Classes.{IsDefault, basic}
use Rattle.gno_typing.specs.Giving as giving
use Rattle.gno_typing.specs.Giving.{IsDefaultConstant, in_type}
use Rattle.gno_typing.specs.Operands.{settled_constant}
use Rattle.gno_typing.specs.Verdicts.{good, wants}
use Rattle.gno_typing.specs.declared.fault.Fault.{Fault}
use Rattle.gno_typing.specs.declared.form.FormOf.TheVariants as f

module _ {A : Type 0} where
  -- the default types are four
  pub int_is_left : (x : TermOf A) (kind : Kind) → default_kind x ≡ Some kind → (kind ≡ k.Bool → ⊥) → (kind ≡ k.Text → ⊥) → (kind ≡ k.Int32 → ⊥) → kind ≡ k.Int
  int_is_left t.UntypedBool kind e bool text rune = absurd (bool (search (rules, e)))
  int_is_left t.UntypedWhole kind e bool text rune = search (rules, e)
  int_is_left t.UntypedRune kind e bool text rune = absurd (rune (search (rules, e)))
  int_is_left t.UntypedText kind e bool text rune = absurd (text (search (rules, e)))
  int_is_left _ kind e bool text rune = absurd (search (rules, e))

  pub untyped_by : (x : TermOf A) (kind : Kind) → default_kind x ≡ Some kind → is_untyped x ≡ true
  untyped_by t.UntypedBool kind e = refl
  untyped_by t.UntypedWhole kind e = refl
  untyped_by t.UntypedRune kind e = refl
  untyped_by t.UntypedText kind e = refl
  untyped_by _ kind e = absurd (search (rules, e))

  pub typed_by : (x : TermOf A) → default_kind x ≡ None → (x ≡ t.UntypedNil → ⊥) → is_untyped x ≡ false
  typed_by t.UntypedBool e not_nil = absurd (search (rules, e))
  typed_by t.UntypedWhole e not_nil = absurd (search (rules, e))
  typed_by t.UntypedRune e not_nil = absurd (search (rules, e))
  typed_by t.UntypedText e not_nil = absurd (search (rules, e))
  typed_by t.UntypedNil e not_nil = absurd (not_nil refl)
  typed_by _ e not_nil = refl

pub basic_is_typed : (kind : Kind) → IsTyped (basic kind)
basic_is_typed kind = ap is_untyped (term_of_type (t.Basic kind))

-- an untyped constant, by the kind of its default type
pub by_default : (R : InType → giving.InType → Type 0) (table : Table) (at : Pos) (s : GoType) (x : Constant) (kind : Kind) (old new : Option Fault) (it : Option InType) → IsDefault s kind
    → Answers (wants (IsValue x kind) 43 at (good (in_type (basic kind) (f.Whole (w.Constant at (basic kind) x))))) R old new it → Answers (IsDefaultConstant table at s x) R old new it
by_default R table at s x kind old new it default h = record { verdict = h.verdict; judged = record { kind = kind; default = default; verdict = h.judged }; stands = h.stands; notes = h.notes }

-- a constant by whether its type is untyped
pub settled_by : (R : InType → giving.InType → Type 0) (table : Table) (at : Pos) (s : GoType) (x : Constant) (b : Bool) → is_untyped (term_of s) ≡ b → (old new : Option Fault) (it : Option InType) → Answers (settled_constant b table at s x) R old new it → Answers (settled_constant (is_untyped (term_of s)) table at s x) R old new it
settled_by R table at s x b e old new it h = subst (λ (b : Bool). Answers (settled_constant b table at s x) R old new it) (sym e) h
