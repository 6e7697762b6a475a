-- A search that found the methods of a type is that of a complete type.
use Rattle.std.proofs.Common.{◌≡◌, refl, subst, ℕ, List, [], ◌∷◌, Bool, true, false, length, get_or, Some, arith, inl, rules}
use Rattle.std.specs.Prelude.{slice_get, IsTrue, ◌↔◌}
use Rattle.std.proofs.lemmas.Option.{slice_get_read}
use Rattle.gno_embedding.proofs.Paths.{along_of, nothing_of}
use Rattle.gno_embedding.specs.Embedding.{IsComplete, Leads}
use Rattle.gno_embedding.specs.Reaching.{IsAmong, IsClosed}
use Rattle.gno_promotion.specs.declared.found.PromotedOf.{PromotedOf}
use Rattle.gno_promotion.specs.declared.found.Search.{Search}
use Rattle.gno_promotion.specs.declared.found.Search.TheVariants as r
use Rattle.gno_terms.specs.declared.term.GoType.{GoType}
use Rattle.gno_terms.specs.declared.term.TypeRef.{TypeRef}
use Rattle.gno_terms.specs.Tables.{Table, Below, Is}
use Rattle.gno_type_table.specs.Kept.{IsAt}
use Rattle.gno_type_table.proofs.Blocked.{incomplete}

led_among : (table : Table) (s : GoType) (ts : List TypeRef) → IsClosed table s ts → (path : List ℕ) (followed : Bool) (u : GoType) → Leads table s path followed u → IsAmong table s ts u
led_among table s ts closed [] followed u leads = inl (nothing_of table s followed u leads).1
led_among table s ts closed (q ∷ qs) followed u leads =
    let a = along_of table s q qs followed u leads in
    closed.closed a.by q a.pointer u (led_among table s ts closed qs a.before a.by a.leads) a.embeds

module _ (table : Table) (searches : List Search) (kept : (n : ℕ) (y : Search) → slice_get searches n ≡ Some y → IsAt table n y) (size : length searches ≡ length table.types) (t : TypeRef) (below : Below (length table.types) t)
    (x : Search) (read : x ≡ get_or searches t.0 x) (s : GoType) (is : Is table t s) where
  at : IsAt table t.0 x
  at = kept t.0 x (slice_get_read searches (length searches) t.0 x refl (omega (arith, below, size)) read)

  pub found_complete : (ts : List TypeRef) (ms : List (PromotedOf TypeRef)) → x ≡ r.Found ts ms → IsTrue true ↔ IsComplete table s
  found_complete ts ms e =
      let closed = (subst (IsAt table t.0) e at s is).closed in
      (λ _ path followed u leads. closed.known u (led_among table s ts closed path followed u leads), λ _. refl)

  pub blocked_incomplete : (ts : List TypeRef) → x ≡ r.Blocked ts → IsTrue false ↔ IsComplete table s
  blocked_incomplete ts e = (λ f. absurd (search (rules, f)), λ complete. absurd (incomplete table s ts (subst (IsAt table t.0) e at s is) complete))
