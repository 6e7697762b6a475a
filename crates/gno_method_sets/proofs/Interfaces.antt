-- Which types implement an interface, by its row.
use Rattle.std.proofs.Common.{◌≡◌, refl, sym, ap, ◌∙◌, subst, List, [], map, Bool, true, false, rules}
use Rattle.std.specs.Prelude.{IsTrue, ◌↔◌}
use Rattle.gno_embedding.proofs.Paths.{same_underlying}
use Rattle.gno_embedding.specs.Walking.{HasOneDefinition}
use Rattle.gno_method_sets.proofs.Rows.{no_interface, term_is}
use Rattle.gno_method_sets.specs.Implementing.{HasMethod, Implements}
use Rattle.gno_promotion.specs.MethodSets.{is_interface}
use Rattle.gno_terms.specs.Lawful.{Each}
use Rattle.gno_terms.specs.Tables.{Table, Is, Underlying, deep, type_at}
use Rattle.gno_terms.specs.Terms.{method_with, term_of, term_with}
use Rattle.gno_terms.specs.declared.term.GoType.{GoType}
use Rattle.gno_terms.specs.declared.term.MethodOf.{MethodOf}
use Rattle.gno_terms.specs.declared.term.TermOf.{TermOf}
use Rattle.gno_terms.specs.declared.term.TermOf.TheVariants as t
use Rattle.gno_terms.specs.declared.term.TypeRef.{TypeRef}

methods_in : TermOf GoType → List (MethodOf GoType)
methods_in (t.Interface ms) = ms
methods_in x = []

module _ (table : Table) (one : HasOneDefinition table) (s i u : GoType) (by : Underlying table i u) (r : TypeRef) (is : Is table r u) (x : TermOf TypeRef) (row : Is table r (deep table.types x)) where
  pub by_methods : (ms : List (MethodOf TypeRef)) → x ≡ t.Interface ms → (result : Bool) → (IsTrue result ↔ Each (HasMethod table s) (map (method_with (type_at table.types)) ms)) → IsTrue result ↔ Implements table s i
  unfolding methods_in
  by_methods ms e result h =
      let its : term_of u ≡ t.Interface (map (method_with (type_at table.types)) ms) = term_is table r u x is row ∙ ap (term_with (type_at table.types)) e in (
        λ y. record { underlying = u; by = by; methods = map (method_with (type_at table.types)) ms; is_interface = its; has = h.0 y },
        λ w. h.1 (subst (Each (HasMethod table s))
            (ap methods_in (sym w.is_interface ∙ ap term_of (same_underlying table one i w.underlying u w.by by) ∙ its)) w.has),
      )

  pub no_methods_of : ((ms : List (MethodOf TypeRef)) → x ≡ t.Interface ms → ⊥) → IsTrue false ↔ Implements table s i
  no_methods_of h = (
    λ e. absurd (search (rules, e)),
    λ w. search (rules, sym (ap is_interface (term_is table r u x is row) ∙ no_interface (type_at table.types) x h) ∙ ap (λ z. is_interface (term_of z)) (sym (same_underlying table one i w.underlying u w.by by)) ∙ ap is_interface w.is_interface),
  )
