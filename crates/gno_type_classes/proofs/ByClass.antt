-- The class of a type, by the row of its underlying type.
use Rattle.std.proofs.Common.{◌≡◌, refl, sym, ap, ◌∙◌, subst, Bool, false, rules}
use Rattle.std.specs.Prelude.{IsTrue, ◌↔◌}
use Rattle.gno_assignability.specs.Assignability.{IsValue}
use Rattle.gno_base.specs.declared.kind.Kind.{Kind}
use Rattle.gno_constants.specs.declared.constant.Constant.{Constant}
use Rattle.gno_embedding.specs.Embedding.{IsKnown}
use Rattle.gno_terms.specs.Tables.{Table, type_at}
use Rattle.gno_terms.specs.Terms.{term_with}
use Rattle.gno_terms.specs.declared.term.GoType.{GoType}
use Rattle.gno_terms.specs.declared.term.TermOf.{TermOf}
use Rattle.gno_terms.specs.declared.term.TermOf.TheVariants as t
use Rattle.gno_terms.specs.declared.term.TypeRef.{TypeRef}
use Rattle.gno_type_classes.specs.Unnumbered.{unnumbered}
use Rattle.gno_type_classes.specs.Rows.{IsUnder}
use Rattle.gno_typing.specs.Classes.{IsOf, IsRepresentable, IsValueBy}

pub is_of : (table : Table) (s : GoType) (x : TermOf TypeRef) → IsUnder table s x → (class : TermOf GoType → Bool) (b : Bool) → b ≡ class (term_with (type_at table.types) x) → IsTrue b ↔ IsOf class (unnumbered table) s
is_of table s x under class b e = (
  λ y. record { underlying = under.known.0; by = under.known.1; holds = ap class (under.is under.known.0 under.known.1) ∙ sym e ∙ y },
  λ h. e ∙ sym (ap class (under.is h.underlying h.by)) ∙ h.holds,
)

pub of_none : (table : Table) (s : GoType) (class : TermOf GoType → Bool) → (IsKnown (unnumbered table) s → ⊥) → IsTrue false ↔ IsOf class (unnumbered table) s
of_none table s class h = (λ e. absurd (search (rules, e)), λ o. absurd (h (o.underlying, o.by)))

pub representable : (table : Table) (s : GoType) (x : TermOf TypeRef) → IsUnder table s x → (c : Constant) (b : Bool) → (IsTrue b ↔ IsValueBy c (term_with (type_at table.types) x)) → IsTrue b ↔ IsRepresentable (unnumbered table) c s
representable table s x under c b h = (
  λ y. record { underlying = under.known.0; by = under.known.1; value = subst (IsValueBy c) (sym (under.is under.known.0 under.known.1)) (h.0 y) },
  λ r. h.1 (subst (IsValueBy c) (under.is r.underlying r.by) r.value),
)

pub not_representable : (table : Table) (s : GoType) (c : Constant) → (IsKnown (unnumbered table) s → ⊥) → IsTrue false ↔ IsRepresentable (unnumbered table) c s
not_representable table s c h = (λ e. absurd (search (rules, e)), λ r. absurd (h (r.underlying, r.by)))

pub value_by : (c : Constant) (f : TypeRef → GoType) (x : TermOf TypeRef) (kind : Kind) → x ≡ t.Basic kind → (b : Bool) → (IsTrue b ↔ IsValue c kind) → IsTrue b ↔ IsValueBy c (term_with f x)
value_by c f x kind e b h = subst (λ (y : TermOf TypeRef). IsTrue b ↔ IsValueBy c (term_with f y)) (sym e) h

no_value_by : (c : Constant) (f : TypeRef → GoType) (x : TermOf TypeRef) → ((kind : Kind) → x ≡ t.Basic kind → ⊥) → IsValueBy c (term_with f x) → ⊥
no_value_by c f (t.Basic kind) h v = h kind refl
no_value_by c f _ h v = v

pub by_no_value : (c : Constant) (f : TypeRef → GoType) (x : TermOf TypeRef) → ((kind : Kind) → x ≡ t.Basic kind → ⊥) → IsTrue false ↔ IsValueBy c (term_with f x)
by_no_value c f x h = (λ e. absurd (search (rules, e)), λ v. absurd (no_value_by c f x h v))
