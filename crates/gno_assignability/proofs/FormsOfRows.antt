-- The form of a type and of its row.
use Rattle.std.proofs.Common.{◌≡◌, refl, sym, ap, ◌∙◌, subst, Bool, true, false, Some, None, rules}
use Rattle.gno_assignability.specs.Assignability.{default_kind, has_nil, is_named}
use Rattle.gno_base.specs.declared.kind.Kind.{Kind}
use Rattle.gno_embedding.specs.Embedding.{IsComplete, IsKnown, base, base_by}
use Rattle.gno_method_sets.proofs.Rows.{complete_known}
use Rattle.gno_terms.specs.Lawful.{is_untyped}
use Rattle.gno_terms.specs.Tables.{Table, UnderlyingBy}
use Rattle.gno_terms.specs.Terms.{term_of, term_with}
use Rattle.gno_terms.specs.declared.term.GoType.{GoType}
use Rattle.gno_terms.specs.declared.term.TermOf.{TermOf}
use Rattle.gno_terms.specs.declared.term.TermOf.TheVariants as t

is_nil : {A : Type 0} → TermOf A → Bool
is_nil t.UntypedNil = true
is_nil _ = false

is_basic : {A : Type 0} → TermOf A → Bool
is_basic (t.Basic kind) = true
is_basic _ = false

module _ {A B : Type 0} (f : A → B) where
  pub has_nil_itself : (x : TermOf A) → has_nil (term_with f x) ≡ has_nil x
  has_nil_itself (t.Pointer a) = refl
  has_nil_itself (t.Function ps variadic rs) = refl
  has_nil_itself (t.Slice a) = refl
  has_nil_itself (t.Map a b) = refl
  has_nil_itself (t.Interface ms) = refl
  has_nil_itself _ = refl

  pub is_named_itself : (x : TermOf A) → is_named (term_with f x) ≡ is_named x
  is_named_itself (t.Basic kind) = refl
  is_named_itself t.Error = refl
  is_named_itself t.Realm = refl
  is_named_itself (t.Defined path name local) = refl
  is_named_itself _ = refl

  pub default_kind_itself : (x : TermOf A) → default_kind (term_with f x) ≡ default_kind x
  default_kind_itself t.UntypedBool = refl
  default_kind_itself t.UntypedWhole = refl
  default_kind_itself t.UntypedRune = refl
  default_kind_itself t.UntypedText = refl
  default_kind_itself _ = refl

  pub not_nil_itself : (x : TermOf A) → (x ≡ t.UntypedNil → ⊥) → term_with f x ≡ t.UntypedNil → ⊥
  unfolding is_nil
  not_nil_itself x h e = search (rules, sym (not_nil x h) ∙ ap is_nil e)
    where
      not_nil : (x : TermOf A) → (x ≡ t.UntypedNil → ⊥) → is_nil (term_with f x) ≡ false
      not_nil t.UntypedNil h = absurd (h refl)
      not_nil _ h = refl

  pub not_basic_itself : (x : TermOf A) → ((kind : Kind) → x ≡ t.Basic kind → ⊥) → (kind : Kind) → term_with f x ≡ t.Basic kind → ⊥
  unfolding is_basic
  not_basic_itself x h kind e = search (rules, sym (not_basic x h) ∙ ap is_basic e)
    where
      not_basic : (x : TermOf A) → ((kind : Kind) → x ≡ t.Basic kind → ⊥) → is_basic (term_with f x) ≡ false
      not_basic (t.Basic kind) h = absurd (h kind refl)
      not_basic _ h = refl

pub with_default : (x : TermOf GoType) (kind : Kind) → default_kind x ≡ Some kind → is_untyped x ≡ true
with_default t.UntypedBool kind e = refl
with_default t.UntypedWhole kind e = refl
with_default t.UntypedRune kind e = refl
with_default t.UntypedText kind e = refl
with_default t.UntypedNil kind e = refl
with_default (t.Basic k) kind e = absurd (search (rules, e))
with_default t.Error kind e = absurd (search (rules, e))
with_default t.Realm kind e = absurd (search (rules, e))
with_default (t.Defined path name local) kind e = absurd (search (rules, e))
with_default (t.Pointer a) kind e = absurd (search (rules, e))
with_default (t.Slice a) kind e = absurd (search (rules, e))
with_default (t.Array n a) kind e = absurd (search (rules, e))
with_default (t.Map a b) kind e = absurd (search (rules, e))
with_default (t.Function ps variadic rs) kind e = absurd (search (rules, e))
with_default (t.Struct fs) kind e = absurd (search (rules, e))
with_default (t.Interface ms) kind e = absurd (search (rules, e))

pub without_default : (x : TermOf GoType) → (x ≡ t.UntypedNil → ⊥) → default_kind x ≡ None → is_untyped x ≡ false
without_default t.UntypedBool h e = absurd (search (rules, e))
without_default t.UntypedWhole h e = absurd (search (rules, e))
without_default t.UntypedRune h e = absurd (search (rules, e))
without_default t.UntypedText h e = absurd (search (rules, e))
without_default t.UntypedNil h e = absurd (h refl)
without_default _ h e = refl

-- a pointer has an underlying type, and any other complete type
known_by : (table : Table) (s : GoType) (x : TermOf GoType) → term_of s ≡ x → IsKnown table (base_by s x) → (u : GoType) × UnderlyingBy table s u x
known_by table s (t.Pointer a) e h = (s, refl)
known_by table s _ e h = subst (λ (y : TermOf GoType). (u : GoType) × UnderlyingBy table s u y) e h

pub known : (table : Table) (s : GoType) → IsComplete table (base s) → IsKnown table s
known table s h = known_by table s (term_of s) refl (complete_known table (base s) h)
