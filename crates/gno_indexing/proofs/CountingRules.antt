-- What the rules on values that count elements say.
use Rattle.std.proofs.Common.{ℕ, ◌≡◌, refl, sym, ap, ◌∙◌, subst, [], ◌∷◌, Bool, true, false, Option, Some, None, ℤ, rules, inl, inr}
use Rattle.std.specs.Prelude.{◌↔◌, ◌⊎◌}
use Rattle.gno_assignability.specs.Assignability.{default_kind}
use Rattle.gno_base.specs.declared.kind.Kind.TheVariants as k
use Rattle.gno_constants.specs.declared.constant.Constant.{Constant}
use Rattle.gno_constants.specs.declared.constant.Constant.TheVariants as c
use Rattle.gno_judging.proofs.Answers.{fails, gives, holds, refuses}
use Rattle.gno_judging.specs.Answers.{Answers}
use Rattle.gno_judging.specs.Found.{ConstantTypeStands, PendingStands, ValueStands}
use Rattle.gno_judging.specs.Found.{ValueStands as value}
use Rattle.gno_judging.specs.Noting.{noted}
use Rattle.gno_judging.specs.Waiting.{IsWaiting}
use Rattle.gno_scan.specs.declared.token.Pos.{Pos}
use Rattle.gno_seen.proofs.Others.{NotConstant, NotTyped, NotWaiting, by_neither, by_settled}
use Rattle.gno_indexing.specs.Counting.{CountedStands, is_of_wholes}
use Rattle.gno_indexing.specs.declared.number.Counted.{Counted}
use Rattle.gno_terms.specs.Lawful.{IsTyped, is_untyped}
use Rattle.gno_terms.specs.Tables.{Table}
use Rattle.gno_terms.specs.Terms.{term_of}
use Rattle.gno_terms.specs.declared.term.GoType.{GoType}
use Rattle.gno_terms.specs.declared.term.TermOf.{TermOf}
use Rattle.gno_terms.specs.declared.term.TermOf.TheVariants as t
use Rattle.gno_terms.specs.declared.term.TypeRef.{TypeRef}
use Rattle.gno_type_rows.proofs.Pushed.{term_of_type}
use Rattle.gno_typing.specs.Classes.{IsOf, basic, is_integer}
use Rattle.gno_typing.specs.Giving.{IsGiven}
use Rattle.gno_typing.specs.Indexes as indexes
use Rattle.gno_typing.specs.Indexes.{IsWide, counted, is_untyped_whole, taken, taken_type, whole_in}
use Rattle.gno_typing.specs.Verdicts.{After, Verdict, bad, good, wants}
use Rattle.gno_typing.specs.declared.fault.Fault.{Fault}
use Rattle.gno_typing.specs.declared.form.FormOf.{FormOf}
use Rattle.gno_typing.specs.declared.pending.PendingOf.{PendingOf}
use Rattle.gno_typing.specs.declared.value.Standing.TheVariants as st
use Rattle.gno_typing.specs.declared.value.ValueOf.{ValueOf}
use Rattle.gno_typing.specs.declared.value.ValueOf.TheVariants as v
use Rattle.gno_typing.specs.declared.value.Waits.{Waits}
use Rattle.gno_typing.specs.declared.value.Waits.TheVariants as waits

pub untyped_whole_by : {A : Type 0} (x : TermOf A) → is_of_wholes (default_kind x) ≡ is_untyped_whole x
untyped_whole_by t.UntypedWhole = refl
untyped_whole_by t.UntypedRune = refl
untyped_whole_by _ = refl

pub int_is_typed : IsTyped (basic k.Int)
int_is_typed = ap is_untyped (term_of_type (t.Basic k.Int))

-- ---- a constant

abbrev TakenBy : Bool → Pos → GoType → Constant → Verdict (ValueOf GoType) → Type 0
TakenBy b at s x = wants (IsWide b x → ⊥) 43 at (good (v.Constant at (taken_type b s) x))

not_wide : (x : Constant) → IsWide false x → ⊥
not_wide (c.Whole n) h = h
not_wide (c.Bool b) h = h
not_wide (c.Text bytes) h = h

module _ (table rules : Table) (at : Pos) (s : GoType) (x : Constant) (old new : Option Fault) where
  taken_by : (r : Option (ValueOf TypeRef)) (b : Bool) → b ≡ is_untyped_whole (term_of s) → Answers (TakenBy b at s x) (ValueStands table) old new r → Answers (taken rules (v.Constant at s x)) (ValueStands table) old new r
  taken_by r b e h = subst (λ (b : Bool). Answers (TakenBy b at s x) (ValueStands table) old new r) e h

  pub taken_wide : (b : Bool) → b ≡ is_untyped_whole (term_of s) → b ≡ true → IsWide true x → new ≡ noted old (record { code = 43; pos = at } ∷ []) → Answers (taken rules (v.Constant at s x)) (ValueStands table) old new None
  taken_wide b e is wide n = taken_by None true (sym is ∙ e) (fails (ValueStands table) (IsWide true x → ⊥) 43 at (good (v.Constant at (basic k.Int) x)) old new (λ narrow. narrow wide) n)

module _ (table rules : Table) (at : Pos) (r : TypeRef) (s : GoType) (x : Constant) (old : Option Fault) where
  pub taken_itself : (b : Bool) → b ≡ is_untyped_whole (term_of s) → b ≡ false → ConstantTypeStands table r s → Answers (taken rules (v.Constant at s x)) (ValueStands table) old old (Some (v.Constant at r x))
  taken_itself b e is h = taken_by table rules at s x old old (Some (v.Constant at r x)) false (sym is ∙ e)
      (holds (ValueStands table) (IsWide false x → ⊥) 43 at (good (v.Constant at s x)) old old _ (not_wide x) (gives (ValueStands table) old _ _ (value.constant at x h)))

  pub taken_as_int : (b : Bool) → b ≡ is_untyped_whole (term_of s) → b ≡ true → (IsWide true x → ⊥) → ConstantTypeStands table r (basic k.Int) → Answers (taken rules (v.Constant at s x)) (ValueStands table) old old (Some (v.Constant at r x))
  taken_as_int b e is absent h = taken_by table rules at s x old old (Some (v.Constant at r x)) true (sym is ∙ e)
      (holds (ValueStands table) (IsWide true x → ⊥) 43 at (good (v.Constant at (basic k.Int) x)) old old _ absent (gives (ValueStands table) old _ _ (value.constant at x h)))

-- ---- a value that waits

module _ (table rules : Table) (at : Pos) (calls : Bool) (y : PendingOf GoType) where
  pub taken_boolean : (x : PendingOf TypeRef) (needs : Waits) (old : Option Fault) → needs ≡ waits.Boolean → PendingStands table x y → IsWaiting y → Answers (taken rules (v.Pending at needs calls y)) (ValueStands table) old old (Some (v.Pending at needs calls x))
  taken_boolean x needs old e h w = subst (λ (needs : Waits). Answers (taken rules (v.Pending at needs calls y)) (ValueStands table) old old (Some (v.Pending at needs calls x))) (sym e) (gives (ValueStands table) old _ _ (value.waiting at waits.Boolean calls h w))

  pub taken_integer : (needs : Waits) (first : Pos) (old new : Option Fault) (r : Option (ValueOf TypeRef)) → needs ≡ waits.Integer first → Answers (After (IsGiven rules (basic k.Int) y) (λ z. good (v.Typed at (basic k.Int) st.Result calls z))) (ValueStands table) old new r
      → Answers (taken rules (v.Pending at needs calls y)) (ValueStands table) old new r
  taken_integer needs first old new r e h = subst (λ (needs : Waits). Answers (taken rules (v.Pending at needs calls y)) (ValueStands table) old new r) (sym e) h

pub taken_other : (table rules : Table) (x : ValueOf TypeRef) (y : ValueOf GoType) (old : Option Fault) → ValueStands table x y → NotConstant x → NotWaiting x → Answers (taken rules y) (ValueStands table) old old (Some x)
taken_other table rules x y old h absent no_waits = by_settled (λ x y. Answers (taken rules y) (ValueStands table) old old (Some x)) table x y h absent no_waits (λ at k. gives (ValueStands table) old _ _ k) (λ at r s stands calls a b k. gives (ValueStands table) old _ _ k)

-- ---- what counts elements

pub counted_other : (table rules : Table) (no_integer out_of_bounds : ℕ) (InBounds : ℤ → Type 0) (place : Pos) (x : ValueOf TypeRef) (y : ValueOf GoType) (old new : Option Fault) → ValueStands table x y → NotConstant x → NotTyped x → new ≡ noted old (record { code = no_integer; pos = place } ∷ [])
    → Answers (counted rules no_integer out_of_bounds InBounds place y) (CountedStands table) old new None
counted_other table rules no_integer out_of_bounds InBounds place x y old new h absent no_type e = by_neither (λ y. Answers (counted rules no_integer out_of_bounds InBounds place y) (CountedStands table) old new None) table x y h absent no_type
    (λ at. refuses (CountedStands table) no_integer place old new e) (λ at waits calls form. refuses (CountedStands table) no_integer place old new e)

-- bounds that say the same
module _ (rules : Table) (no_integer out_of_bounds : ℕ) (P Q : ℤ → Type 0) (same : (n : ℤ) → P n ↔ Q n) (place : Pos) where
  counts_as : (y : ValueOf GoType) (z : Verdict indexes.Counted) → counted rules no_integer out_of_bounds P place y z → counted rules no_integer out_of_bounds Q place y z
  counts_as (v.Constant at s x) z (inl (is, inl (p, h))) = inl (is, inl ((same (whole_in x)).0 p, h))
  counts_as (v.Constant at s x) z (inl (is, inr (p, h))) = inl (is, inr (λ q. p ((same (whole_in x)).1 q), h))
  counts_as (v.Constant at s x) z (inr h) = inr h
  counts_as (v.Nil at) z h = h
  counts_as (v.Typed at s stands calls form) z h = h
  counts_as (v.Pending at needs calls form) z h = h

  pub counted_by : {A : Type 0} (R : A → indexes.Counted → Type 0) (y : ValueOf GoType) (old new : Option Fault) (r : Option A) → Answers (counted rules no_integer out_of_bounds P place y) R old new r → Answers (counted rules no_integer out_of_bounds Q place y) R old new r
  counted_by R y old new r h = record { verdict = h.verdict; judged = counts_as y h.verdict h.judged; stands = h.stands; notes = h.notes }
