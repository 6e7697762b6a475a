-- What a row says of the methods that are declared on a type, and of its underlying type.
use Rattle.std.proofs.Common.{◌≡◌, refl, sym, ap, ◌∙◌, subst, ℕ, List, [], Some, map}
use Rattle.std.proofs.lemmas.Option.{same_Some}
use Rattle.gno_embedding.proofs.Opened.{deep_term, type_is}
use Rattle.gno_embedding.specs.Embedding.{IsKnown}
use Rattle.gno_promotion.specs.MethodSets.{DeclaresBy}
use Rattle.gno_terms.specs.declared.term.DefinitionOf.{DefinitionOf}
use Rattle.gno_terms.specs.declared.term.GoType.{GoType}
use Rattle.gno_terms.specs.declared.term.TermOf.{TermOf}
use Rattle.gno_terms.specs.declared.term.TermOf.TheVariants as t
use Rattle.gno_terms.specs.declared.term.TypeRef.{TypeRef}
use Rattle.gno_terms.specs.Tables.{Table, Defines, Is, Underlying, UnderlyingBy, deep, error_interface, type_at}
use Rattle.gno_terms.specs.Terms.{method_with, term_of, term_with}
use Rattle.gno_type_rows.specs.RowTypes.{definition_with}

module _ (table : Table) (of : TypeRef) (x : TermOf TypeRef) (row : Is table of (deep table.types x)) (s : GoType) (is : Is table of s) where
  abbrev at : TypeRef → GoType
  at = type_at table.types

  type_is_deep : s ≡ deep table.types x
  type_is_deep = same_Some s (deep table.types x) (sym is ∙ row)

  term_is : term_of s ≡ term_with at x
  term_is = ap term_of type_is_deep ∙ deep_term table.types x

  -- ---- a defined type

  module _ (path name : List ℕ) (local : ℕ) (e : x ≡ t.Defined path name local) where
    defined_term : term_of s ≡ t.Defined path name local
    defined_term = term_is ∙ ap (term_with at) e

    module _ (d : DefinitionOf TypeRef) (own : d.of ≡ of) (defines : Defines table (definition_with at d)) where
      pub declares_defined : DeclaresBy table s (map (method_with at) d.methods) (term_of s)
      declares_defined = subst (DeclaresBy table s (map (method_with at) d.methods)) (sym defined_term) (definition_with at d, defines, ap at own ∙ type_is table.types of s is, refl)

      pub underlying_defined : (y : TermOf TypeRef) → Is table d.underlying (deep table.types y) → Underlying table s (deep table.types y)
      underlying_defined y under = subst (UnderlyingBy table s (deep table.types y)) (sym defined_term) (definition_with at d, defines, ap at own ∙ type_is table.types of s is, type_is table.types d.underlying (deep table.types y) under)

    pub undefined : IsKnown table s → ((d : DefinitionOf GoType) → Defines table d → Is table of d.of → ⊥) → ⊥
    undefined known none =
        let told : UnderlyingBy table s known.0 (t.Defined path name local) = subst (UnderlyingBy table s known.0) defined_term known.1 in
        none told.0 told.1 (is ∙ ap Some (sym told.2))

  -- ---- another type

  declares_by : (y : TermOf TypeRef) → ((path name : List ℕ) (local : ℕ) → y ≡ t.Defined path name local → ⊥) → DeclaresBy table s [] (term_with at y)
  declares_by (t.Defined path name local) f = absurd (f path name local refl)
  declares_by _ f = refl

  pub declares_nothing : ((path name : List ℕ) (local : ℕ) → x ≡ t.Defined path name local → ⊥) → DeclaresBy table s [] (term_of s)
  declares_nothing f = subst (DeclaresBy table s []) (sym term_is) (declares_by x f)

  pub underlying_error : x ≡ t.Error → (error : TypeRef) → Is table error error_interface → (y : TermOf TypeRef) → Is table error (deep table.types y) → Underlying table s (deep table.types y)
  underlying_error e error at_error y at_y =
      subst (UnderlyingBy table s (deep table.types y)) (sym (term_is ∙ ap (term_with at) e)) (same_Some (deep table.types y) error_interface (sym at_y ∙ at_error))

  itself : (y : TermOf TypeRef) → ((path name : List ℕ) (local : ℕ) → y ≡ t.Defined path name local → ⊥) → (y ≡ t.Error → ⊥) → UnderlyingBy table s s (term_with at y)
  itself (t.Defined path name local) f g = absurd (f path name local refl)
  itself t.Error f g = absurd (g refl)
  itself _ f g = refl

  pub underlying_itself : ((path name : List ℕ) (local : ℕ) → x ≡ t.Defined path name local → ⊥) → (x ≡ t.Error → ⊥) → Underlying table s (deep table.types x)
  underlying_itself f g = subst (Underlying table s) type_is_deep (subst (UnderlyingBy table s s) (sym term_is) (itself x f g))
