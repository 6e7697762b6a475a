-- What a row says of the underlying type.
use Rattle.std.proofs.Common.{◌≡◌, refl, sym, ap, ◌∙◌, subst, ℕ, List, Some}
use Rattle.gno_embedding.specs.Embedding.{IsKnown}
use Rattle.gno_terms.specs.declared.term.GoType.{GoType}
use Rattle.gno_terms.specs.declared.term.TypeRef.{TypeRef}
use Rattle.gno_terms.specs.declared.term.TermOf.{TermOf}
use Rattle.gno_terms.specs.declared.term.TermOf.TheVariants as t
use Rattle.gno_terms.specs.declared.term.DefinitionOf.{DefinitionOf}
use Rattle.gno_terms.specs.Tables.{Table, Is, Defines, Underlying, UnderlyingBy, deep, type_at, type_or, error_interface}
use Rattle.gno_terms.specs.Terms.{term_of, term_with}
use Rattle.gno_type_rows.specs.RowTypes.{definition_with}
use Rattle.gno_type_rows.proofs.Pushed.{term_of_type}

module _ (table : Table) (r : TypeRef) (x : TermOf TypeRef) (row : Is table r (deep table.types x)) (s : GoType) (is : Is table r s) where
  term_is : term_of s ≡ term_with (type_at table.types) x
  term_is = ap (λ o. term_of (type_or o)) (sym is ∙ row) ∙ term_of_type (term_with (type_at table.types) x)

  by_term : (u : GoType) → UnderlyingBy table s u (term_with (type_at table.types) x) → Underlying table s u
  by_term u h = subst (UnderlyingBy table s u) (sym term_is) h

  of_term : (u : GoType) → Underlying table s u → UnderlyingBy table s u (term_with (type_at table.types) x)
  of_term u h = subst (UnderlyingBy table s u) term_is h

  pub of_error : x ≡ t.Error → (u : GoType) → u ≡ error_interface → Underlying table s u
  of_error e u h = by_term u (subst (λ y. UnderlyingBy table s u (term_with (type_at table.types) y)) (sym e) h)

  module _ (path name : List ℕ) (local : ℕ) (e : x ≡ t.Defined path name local) where
    pub of_defined : (d : DefinitionOf TypeRef) → d.of ≡ r → Defines table (definition_with (type_at table.types) d) → Underlying table s (type_at table.types d.underlying)
    of_defined d own defines =
        by_term (type_at table.types d.underlying)
        (subst (λ y. UnderlyingBy table s (type_at table.types d.underlying) (term_with (type_at table.types) y)) (sym e)
        (definition_with (type_at table.types) d, defines, ap (type_at table.types) own ∙ ap type_or is, refl))

    pub undefined : (u : GoType) → Underlying table s u → ((d : DefinitionOf GoType) → Defines table d → Is table r d.of → ⊥) → ⊥
    undefined u h none =
        let told : UnderlyingBy table s u (term_with (type_at table.types) (t.Defined path name local)) = subst (λ y. UnderlyingBy table s u (term_with (type_at table.types) y)) e (of_term u h) in
        none told.0 told.1 (is ∙ ap Some (sym told.2))

  itself : (y : TermOf TypeRef) → ((path name : List ℕ) (local : ℕ) → y ≡ t.Defined path name local → ⊥) → (y ≡ t.Error → ⊥) → UnderlyingBy table s s (term_with (type_at table.types) y)
  itself (t.Defined path name local) f g = absurd (f path name local refl)
  itself t.Error f g = absurd (g refl)
  itself _ f g = refl

  pub of_other : ((path name : List ℕ) (local : ℕ) → x ≡ t.Defined path name local → ⊥) → (x ≡ t.Error → ⊥) → Underlying table s s
  of_other f g = by_term s (itself x f g)

  known_by : (y : TermOf TypeRef) → ((path name : List ℕ) (local : ℕ) → y ≡ t.Defined path name local → ⊥) → (u : GoType) × UnderlyingBy table s u (term_with (type_at table.types) y)
  known_by (t.Defined path name local) f = absurd (f path name local refl)
  known_by t.Error f = (error_interface, refl)
  known_by _ f = (s, refl)

  pub known_other : ((path name : List ℕ) (local : ℕ) → x ≡ t.Defined path name local → ⊥) → IsKnown table s
  known_other f = let k = known_by x f in (k.0, by_term k.0 k.1)
