-- Which types have an underlying type, by their rows.
use Rattle.std.proofs.Common.{◌≡◌, refl, sym, ap, ◌∙◌, subst, ℕ, List, length, Bool, true, false, rules}
use Rattle.std.specs.Prelude.{IsTrue, ◌↔◌}
use Rattle.gno_embedding.proofs.Paths.{same_underlying}
use Rattle.gno_embedding.specs.Embedding.{IsKnown}
use Rattle.gno_embedding.specs.Walking.{HasOneDefinition}
use Rattle.gno_method_sets.proofs.Rows.{below_it, term_is}
use Rattle.gno_terms.specs.declared.term.DefinitionOf.{DefinitionOf}
use Rattle.gno_terms.specs.declared.term.GoType.{GoType}
use Rattle.gno_terms.specs.declared.term.TermOf.{TermOf}
use Rattle.gno_terms.specs.declared.term.TermOf.TheVariants as t
use Rattle.gno_terms.specs.declared.term.TypeRef.{TypeRef}
use Rattle.gno_terms.specs.Tables.{Below, Defines, Is, Table, Underlying, UnderlyingBy, deep, error_interface, type_at}
use Rattle.gno_terms.specs.Terms.{term_of, term_with}
use Rattle.gno_type_classes.specs.Unnumbered.{unnumbered}
use Rattle.gno_type_classes.specs.Rows.{IsUnder}

-- a number that is not there stands for nothing
pub not_there : {P : Type 0} (table : Table) (r : TypeRef) (s : GoType) (b : Bool) → (IsTrue b ↔ Below (length table.types) r) → b ≡ false → Is table r s → P
not_there table r s b h e is = absurd (search (rules, sym e ∙ h.1 (below_it table r s is)))

pub there_it : (table : Table) (r : TypeRef) (b : Bool) → (IsTrue b ↔ Below (length table.types) r) → b ≡ true → Below (length table.types) r
there_it table r b h e = h.0 e

other_known : {A : Type 0} (table : Table) (s : GoType) (f : A → GoType) (x : TermOf A) → ((path name : List ℕ) (local : ℕ) → x ≡ t.Defined path name local → ⊥) → (u : GoType) × UnderlyingBy (unnumbered table) s u (term_with f x)
other_known table s f (t.Defined path name local) h = absurd (h path name local refl)
other_known table s f t.Error h = (error_interface, refl)
other_known table s f _ h = (s, refl)

module _ (table : Table) (r : TypeRef) (s : GoType) (is : Is table r s) (x : TermOf TypeRef) (row : Is table r (deep table.types x)) where
  its : term_of s ≡ term_with (type_at table.types) x
  its = term_is table r s x is row

  pub defined_known : (path name : List ℕ) (local : ℕ) → x ≡ t.Defined path name local → (b : Bool) → (IsTrue b ↔ ((d : DefinitionOf GoType) × Defines (unnumbered table) d × (d.of ≡ s))) → IsTrue b ↔ IsKnown (unnumbered table) s
  defined_known path name local e b h = (forth, back)
    where
      term : term_of s ≡ t.Defined path name local
      term = its ∙ ap (term_with (type_at table.types)) e

      forth : IsTrue b → IsKnown (unnumbered table) s
      forth y = let d = h.0 y in (d.0.underlying, subst (UnderlyingBy (unnumbered table) s d.0.underlying) (sym term) (d.0, d.1, d.2, refl))

      back : IsKnown (unnumbered table) s → IsTrue b
      back k = let d = subst (UnderlyingBy (unnumbered table) s k.0) term k.1 in h.1 (d.0, d.1, d.2)

  pub undefined_known : ((path name : List ℕ) (local : ℕ) → x ≡ t.Defined path name local → ⊥) → IsKnown (unnumbered table) s
  undefined_known h = let k = other_known table s (type_at table.types) x h in (k.0, subst (UnderlyingBy (unnumbered table) s k.0) (sym its) k.1)

-- the row of an underlying type is what is under the type
pub row_under : (table : Table) → HasOneDefinition (unnumbered table) → (s : GoType) (r : TypeRef) (x : TermOf TypeRef) → ((u : GoType) × Underlying (unnumbered table) s u × Is table r u) → Is table r (deep table.types x) → IsUnder table s x
row_under table one s r x u row = record {
  known = (u.0, u.1);
  is = λ v by. ap term_of (same_underlying (unnumbered table) one s v u.0 by u.1) ∙ term_is table r u.0 x u.2 row;
}
