use Rattle.std.proofs.Common.{◌≡◌, refl, sym, ℕ, subst, length, List, map, Some, get_or, arith}
use Rattle.std.specs.Prelude.{slice_get}
use Rattle.std.proofs.lemmas.Option.{slice_get_read}
use Rattle.gno_embedding.specs.Embedding.{IsComplete}
use Rattle.gno_promotion.specs.MethodSets.{AreSelected}
use Rattle.gno_promotion.specs.Searches.{promoted_with}
use Rattle.gno_promotion.specs.declared.found.PromotedOf.{PromotedOf}
use Rattle.gno_promotion.specs.declared.found.Search.{Search}
use Rattle.gno_promotion.specs.declared.found.Search.TheVariants as r
use Rattle.gno_terms.specs.declared.term.GoType.{GoType}
use Rattle.gno_terms.specs.declared.term.TypeRef.{TypeRef}
use Rattle.gno_terms.specs.Lawful.{Each}
use Rattle.gno_terms.specs.Tables.{Table, Below, Is, type_at}
use Rattle.gno_type_rows.proofs.Pushed.{at_it}
use Rattle.gno_type_table.specs.Kept.{IsAt}
use Rattle.gno_type_table.proofs.Blocked.{incomplete}
use Rattle.gno_type_table.proofs.table.TypeTable.promoted.Goals as goal

module _ (table : Table) (searches : List Search) (kept : (n : ℕ) (y : Search) → slice_get searches n ≡ Some y → IsAt table n y) (size : length searches ≡ length table.types) (t : TypeRef) (below : Below (length table.types) t)
    (x : Search) (read : x ≡ get_or searches t.0 x) where
  at : IsAt table t.0 x
  at = kept t.0 x (slice_get_read searches (length searches) t.0 x refl (omega (arith, below, size)) read)

  own : Is table t (type_at table.types t)
  own = at_it table.types t below

  -- its embedded fields lead to a type that is not known
  waits : (ts : List TypeRef) → x ≡ r.Blocked ts → ((s : GoType) → Is table t s → IsComplete table s) → ⊥
  waits ts e complete = incomplete table (type_at table.types t) ts (subst (IsAt table t.0) e at (type_at table.types t) own) (complete (type_at table.types t) own)

  selected : (ts : List TypeRef) (ms : List (PromotedOf TypeRef)) → x ≡ r.Found ts ms → (s : GoType) → Is table t s → AreSelected table s (map (promoted_with (type_at table.types)) ms)
  selected ts ms e s is = (subst (IsAt table t.0) e at s is).selected

  each_below : (ts : List TypeRef) (ms : List (PromotedOf TypeRef)) → x ≡ r.Found ts ms → Each (λ p. Below (length table.types) p.method.of) ms
  each_below ts ms e = (subst (IsAt table t.0) e at (type_at table.types t) own).below

pub unreachable-requires : goal.unreachable-requires
unreachable-requires c =
    waits c.self.inside.rows c.self.inside.searches.items c.self.invariant.kept.each c.self.invariant.kept.size c.args.t (subst (λ (v : Table). Below (length v.types) c.args.t) (sym c.self.view_is) c.requires.below)
    c.index.result.now c.index.ensures c.in-Blocked.field-0 c.in-Blocked.is
    (subst (λ (v : Table). (s : GoType) → Is v c.args.t s → IsComplete v s) (sym c.self.view_is) c.requires.complete)

pub returns-clause-selected : goal.returns-clause-selected
returns-clause-selected c =
    subst (λ (ms : List (PromotedOf TypeRef)). (s : GoType) → Is c.args.self.now c.args.t s → AreSelected c.args.self.now s (map (promoted_with (type_at c.args.self.now.types)) ms)) (sym c.as_slice.ensures)
    (subst (λ (v : Table). (s : GoType) → Is v c.args.t s → AreSelected v s (map (promoted_with (type_at v.types)) c.in-Found.methods)) c.self.view_is
    (selected c.self.inside.rows c.self.inside.searches.items c.self.invariant.kept.each c.self.invariant.kept.size c.args.t (subst (λ (v : Table). Below (length v.types) c.args.t) (sym c.self.view_is) c.requires.below)
    c.index.result.now c.index.ensures c.in-Found.reached c.in-Found.methods c.in-Found.is))

pub returns-clause-below : goal.returns-clause-below
returns-clause-below c =
    subst (λ (ms : List (PromotedOf TypeRef)). Each (λ p. Below (length c.args.self.now.types) p.method.of) ms) (sym c.as_slice.ensures)
    (subst (λ (v : Table). Each (λ (p : PromotedOf TypeRef). Below (length v.types) p.method.of) c.in-Found.methods) c.self.view_is
    (each_below c.self.inside.rows c.self.inside.searches.items c.self.invariant.kept.each c.self.invariant.kept.size c.args.t (subst (λ (v : Table). Below (length v.types) c.args.t) (sym c.self.view_is) c.requires.below)
    c.index.result.now c.index.ensures c.in-Found.reached c.in-Found.methods c.in-Found.is))
