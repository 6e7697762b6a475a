-- Which definitions stand beside rows.
use Rattle.std.proofs.Common.{◌≡◌, refl, ap, ℕ, zero, suc, List, [], ◌∷◌, Option, Some, None, rules}
use Rattle.std.specs.Prelude.{slice_get}
use Rattle.gno_terms.specs.declared.term.GoType.{GoType}
use Rattle.gno_terms.specs.declared.term.TypeRef.{TypeRef}
use Rattle.gno_terms.specs.declared.term.DefinitionOf.{DefinitionOf}
use Rattle.gno_terms.specs.Tables.{type_at}
use Rattle.gno_type_rows.specs.RowTypes.{definition_with, definitions_in}

module _ (types : List GoType) where
  abbrev made : DefinitionOf TypeRef → DefinitionOf GoType
  made = definition_with (type_at types)

  -- a definition beside a row
  pub record Beside (ds : List (Option (DefinitionOf TypeRef))) (d : DefinitionOf GoType) : Type 0 where
    pub number : ℕ
    pub by : DefinitionOf TypeRef
    pub there : slice_get ds number ≡ Some (Some by)
    pub is : made by ≡ d

  abbrev Told : List (Option (DefinitionOf TypeRef)) → DefinitionOf GoType → Type 0
  Told ds d = (k : ℕ) × (slice_get (definitions_in types ds) k ≡ Some d)

  some_or : DefinitionOf GoType → Option (DefinitionOf GoType) → DefinitionOf GoType
  some_or d None = d
  some_or d (Some e) = e

  next : {o : Option (DefinitionOf TypeRef)} {ds : List (Option (DefinitionOf TypeRef))} {d : DefinitionOf GoType} → Beside ds d → Beside (o ∷ ds) d
  next b = record { number = suc b.number; by = b.by; there = b.there; is = b.is }

  pub beside : (ds : List (Option (DefinitionOf TypeRef))) (d : DefinitionOf GoType) (k : ℕ) → slice_get (definitions_in types ds) k ≡ Some d → Beside ds d
  unfolding some_or
  beside [] d k e = absurd (search (rules, e))
  beside (None ∷ ds) d k e = next (beside ds d k e)
  beside (Some x ∷ ds) d zero e = record { number = zero; by = x; there = refl; is = ap (some_or d) e }
  beside (Some x ∷ ds) d (suc k) e = next (beside ds d k e)

  later : (x : DefinitionOf TypeRef) (ds : List (Option (DefinitionOf TypeRef))) (d : DefinitionOf GoType) → Told ds d → Told (Some x ∷ ds) d
  later x ds d t = (suc t.0, t.1)

  some_in : DefinitionOf TypeRef → Option (Option (DefinitionOf TypeRef)) → DefinitionOf TypeRef
  some_in d (Some (Some e)) = e
  some_in d _ = d

  pub told : (ds : List (Option (DefinitionOf TypeRef))) (n : ℕ) (x : DefinitionOf TypeRef) → slice_get ds n ≡ Some (Some x) → Told ds (made x)
  unfolding some_in
  told [] n x e = absurd (search (rules, e))
  told (None ∷ ds) zero x e = absurd (search (rules, e))
  told (Some y ∷ ds) zero x e = (zero, ap (λ z. Some (made z)) (ap (some_in x) e))
  told (None ∷ ds) (suc n) x e = told ds n x e
  told (Some y ∷ ds) (suc n) x e = later y ds (made x) (told ds n x e)
