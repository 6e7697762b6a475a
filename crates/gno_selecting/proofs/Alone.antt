-- What a name selects, it selects alone.
use Rattle.std.proofs.Common.{◌≡◌, sym, ap, ◌∙◌, subst, ℕ, ◌<◌, List, length, Some, arith, inl, inr, ◌⊎◌}
use Rattle.std.specs.Prelude.{slice_get, ◌≤◌}
use Rattle.std.proofs.lemmas.Option.{same_Some}
use Rattle.gno_embedding.specs.Embedding.{Leads}
use Rattle.gno_embedding.specs.Walking.{HasOneDefinition}
use Rattle.gno_embedding.proofs.Paths.{same_leads}
use Rattle.gno_promotion.specs.MethodSets.{Member, field, method}
use Rattle.gno_promotion.proofs.Leading.{one_members}
use Rattle.gno_selectors.specs.Selectors.{IsAmbiguous, IsMissing, Selects, path_of}
use Rattle.gno_terms.specs.declared.term.FieldOf.{FieldOf}
use Rattle.gno_terms.specs.declared.term.GoType.{GoType}
use Rattle.gno_terms.specs.declared.term.MethodOf.{MethodOf}
use Rattle.gno_terms.specs.Tables.{Table}
use Rattle.gno_typing.specs.Selectors.{FieldFound, IsFieldFound, IsMethodFound, MethodFound}

no_field_and_method : (f : FieldOf GoType) (m : MethodOf GoType) → method m ≡ field f → ⊥
no_field_and_method f m e = cc

module _ (table : Table) (s : GoType) (name «package» : List ℕ) where
  pub missing_ambiguous : IsMissing table s name «package» → IsAmbiguous table s name «package» → ⊥
  missing_ambiguous (inl blank) two = two.no_blank blank
  missing_ambiguous (inr none) two = none two.path two.place two.member two.named

  pub missing_field : IsMissing table s name «package» → (x : FieldFound) → IsFieldFound table s name «package» x → ⊥
  missing_field (inl blank) x it = it.selects.no_blank blank
  missing_field (inr none) x it = none _ _ _ it.selects.named

  pub missing_method : IsMissing table s name «package» → (x : MethodFound) → IsMethodFound table s name «package» x → ⊥
  missing_method (inl blank) x it = it.selects.no_blank blank
  missing_method (inr none) x it = none _ _ _ it.selects.named

  module _ (path : List ℕ) (place : ℕ) (member : Member) (it : Selects table s name «package» path place member) where
    abbrev At : List ℕ → ℕ → Type 0
    At p k = (length path < length p) ⊎ ((p ≡ path) × (k ≡ place))

    no_rival_by : (p q : List ℕ) (j k : ℕ) → length q ≡ length p → length p ≤ length path → (q ≡ p → k ≡ j → ⊥) → At p j → At q k → ⊥
    no_rival_by p q j k deep least apart (inl near) other = omega (arith, near, least)
    no_rival_by p q j k deep least apart (inr same) (inl near) = omega (arith, near, least, deep)
    no_rival_by p q j k deep least apart (inr same) (inr also) = apart (also.0 ∙ sym same.0) (also.1 ∙ sym same.1)

    pub no_rival : IsAmbiguous table s name «package» → ⊥
    no_rival two = no_rival_by two.path two.rival_path two.place two.rival_place two.as_deep (two.least path place member it.named) two.apart (it.least two.path two.place two.member two.named) (it.least two.rival_path two.rival_place two.rival two.rival_named)

  -- ---- a field and a method are not both selected

  nearest : (p q : List ℕ) (j k : ℕ) → (length p < length q) ⊎ ((q ≡ p) × (k ≡ j)) → (length q < length p) ⊎ ((p ≡ q) × (j ≡ k)) → (p ≡ q) × (j ≡ k)
  nearest p q j k (inl near) (inl nearer) = absurd (omega (arith, near, nearer))
  nearest p q j k (inl near) (inr same) = same
  nearest p q j k (inr same) other = (sym same.0, sym same.1)

  one_member : HasOneDefinition table → (p q : List ℕ) (j k : ℕ) (m n : Member) → p ≡ q → j ≡ k → Selects table s name «package» p j m → Selects table s name «package» q k n → m ≡ n
  one_member one p q j k m n path place a b =
      let it = a.named.entry in
      let also = b.named.entry in
      let of = same_leads table one s q a.named.followed b.named.followed it.of also.of (subst (λ z. Leads table s z a.named.followed it.of) path it.leads) also.leads in
      let all = one_members table one it.of also.of it.members also.members of.1 it.has also.has in
      same_Some m n (sym it.at ∙ ap (slice_get it.members) place ∙ ap (λ ms. slice_get ms k) all ∙ also.at)

  pub no_field_beside : HasOneDefinition table → (path : List ℕ) (place : ℕ) (m : MethodOf GoType) → Selects table s name «package» path place (method m) → (x : FieldFound) → IsFieldFound table s name «package» x → ⊥
  no_field_beside one path place m a x it =
      let b = it.selects in
      let at = nearest path (path_of x.way) place it.place (a.least (path_of x.way) it.place (field x.field) b.named) (b.least path place (method m) a.named) in
      no_field_and_method x.field m (one_member one path (path_of x.way) place it.place (method m) (field x.field) at.0 at.1 a b)
