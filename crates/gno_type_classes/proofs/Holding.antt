-- The type whose fields and methods count.
use Rattle.std.proofs.Common.{◌≡◌, refl, sym, ap, ◌∙◌, subst, Bool, true, false, rules}
use Rattle.std.specs.Prelude.{not}
use Rattle.gno_embedding.proofs.Paths.{same_underlying}
use Rattle.gno_embedding.specs.Embedding.{base_by}
use Rattle.gno_embedding.specs.Walking.{HasOneDefinition}
use Rattle.gno_terms.specs.Tables.{Table, Underlying}
use Rattle.gno_terms.specs.Terms.{term_of}
use Rattle.gno_terms.specs.declared.term.GoType.{GoType}
use Rattle.gno_type_classes.specs.Unnumbered.{unnumbered}
use Rattle.gno_typing.specs.Classes.{IsOf}
use Rattle.gno_typing.specs.Selectors.{Follows, HasHolder, Holder, is_pointer_or_interface, is_pointer_term}
use Rattle.gno_typing.specs.Selectors.{HasHolder as h}

not_true : (b : Bool) → not b ≡ true → b ≡ false
not_true true e = absurd (search (rules, e))
not_true false e = refl

pub has_members_of : (table : Table) (u b : GoType) → Underlying (unnumbered table) u b → is_pointer_or_interface (term_of b) ≡ false → IsOf (λ x. not (is_pointer_or_interface x)) (unnumbered table) u
has_members_of table u b by free = record { underlying = b; by = by; holds = ap not free }

pub pointed_holder : (table : Table) (s u : GoType) → Follows (unnumbered table) s u → IsOf (λ x. not (is_pointer_or_interface x)) (unnumbered table) u → (b : Bool) → b ≡ not (is_pointer_term (term_of s)) → HasHolder (unnumbered table) s (record { of = u; pointer = true; fields_alone = b })
pointed_holder table s u follows of b e =
    h.pointed u of.underlying follows of.by (not_true (is_pointer_or_interface (term_of of.underlying)) of.holds) (ap (λ (x : Bool). record { of = u; pointer = true; fields_alone = x }) e)

pub itself_holder : (table : Table) (s : GoType) → ((u : GoType) → Follows (unnumbered table) s u → ⊥) → HasHolder (unnumbered table) s (record { of = s; pointer = false; fields_alone = false })
itself_holder table s none = h.itself none refl

module _ (table : Table) (one : HasOneDefinition (unnumbered table)) where
  pub one_follows : (s u v : GoType) → Follows (unnumbered table) s u → Follows (unnumbered table) s v → u ≡ v
  one_follows s u v a b = ap (base_by u) (sym a.is ∙ ap term_of (same_underlying (unnumbered table) one s a.underlying b.underlying a.by b.by) ∙ b.is)

  pub no_holder : (s u : GoType) → Follows (unnumbered table) s u → ((b : GoType) → Underlying (unnumbered table) u b → is_pointer_or_interface (term_of b) ≡ false → ⊥) → (x : Holder) → HasHolder (unnumbered table) s x → ⊥
  no_holder s u follows none x (h.itself other e) = other u follows
  no_holder s u follows none x (h.pointed v b own by free e) = none b (subst (λ (w : GoType). Underlying (unnumbered table) w b) (one_follows s v u own follows) by) free
