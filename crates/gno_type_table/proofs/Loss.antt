-- Searches where definitions are taken back.
use Rattle.std.proofs.Common.{◌≡◌, refl, sym, ap, subst, ℕ, suc, ◌<◌, List, [], ◌∷◌, map, length, Option, Some, None, inl, inr, take, arith, rules}
use Rattle.std.specs.Prelude.{slice_get}
use Rattle.gno_embedding.specs.Embedding.{IsKnown}
use Rattle.gno_embedding.specs.Reaching.{IsAmong, IsBlocked, IsChain, IsClosed, IsFrom}
use Rattle.gno_promotion.specs.declared.found.PromotedOf.{PromotedOf}
use Rattle.gno_promotion.specs.declared.found.Search.{Search}
use Rattle.gno_promotion.specs.declared.found.Search.TheVariants as r
use Rattle.gno_promotion.specs.MethodSets.{AreSelected}
use Rattle.gno_promotion.specs.Searches.{IsSearch, promoted_with}
use Rattle.gno_terms.specs.declared.term.GoType.{GoType}
use Rattle.gno_terms.specs.declared.term.TypeRef.{TypeRef}
use Rattle.gno_terms.specs.Lawful.{Each}
use Rattle.gno_terms.specs.Tables.{Table, Below, Is, type_at}
use Rattle.gno_type_table.specs.Kept.{Extends, last_in, reached_in}
use Rattle.gno_type_table.proofs.Blocked.{IsEnd, end_unknown, ends_unknown, search_chain}
use Rattle.gno_type_table.proofs.Found.{selected_down}
use Rattle.gno_type_table.proofs.Growth.{known, embeds_down, embeds_up}
use Rattle.gno_type_table.proofs.Taking.{Stands, stands, Took, took, took_at, take_take, last_taken}

-- nothing was reached from a type that is not known
pub unknown_blocked : (table : Table) (s : GoType) → (IsKnown table s → ⊥) → IsBlocked table s []
unknown_blocked table s f = record { chain = λ i t h. absurd (none i t h); ends = f }
  where
    none : (i : ℕ) (t : TypeRef) → slice_get [] i ≡ Some t → ⊥
    none i t h = search (rules, h)

module _ (small mid : Table) (types : mid.types ≡ small.types) (extends : Extends small mid) (s : GoType) where
  is_down : (t : TypeRef) (u : GoType) → Is mid t u → Is small t u
  is_down t u h = subst (λ l. slice_get l t.0 ≡ Some u) types h

  among_same : (ts : List TypeRef) (u : GoType) → IsAmong mid s ts u → IsAmong small s ts u
  among_same ts u (inl e) = inl e
  among_same ts u (inr h) = inr (h.0, h.1, is_down h.0 u h.2)

  among_back : (ts : List TypeRef) (u : GoType) → IsAmong small s ts u → IsAmong mid s ts u
  among_back ts u (inl e) = inl e
  among_back ts u (inr h) = inr (h.0, h.1, extends.grows h.0 u h.2)

  end_same : (o : Option TypeRef) (u : GoType) → IsEnd small s o u → IsEnd mid s o u
  end_same None u h = h
  end_same (Some t) u h = extends.grows t u h

  -- the first m of a chain are one where all before the last are known
  chain_down : (m : ℕ) (ts : List TypeRef) → IsChain mid s ts → IsKnown small s → ((j : ℕ) (t : TypeRef) (u : GoType) → suc j < m → slice_get ts j ≡ Some t → Is small t u → IsKnown small u) → IsChain small s (take m ts)
  chain_down m ts chain own each i t h = by (took_at m ts i t h)
    where
      known_by : (u : GoType) → i < m → IsAmong small s (take i ts) u → IsKnown small u
      known_by u w (inl e) = subst (IsKnown small) (sym e) own
      known_by u w (inr a) = taken (stands (take i ts) a.0 a.1)
        where
          before : (j : ℕ) → Took i ts j a.0 → IsKnown small u
          before j (took v g) = each j a.0 u (omega (arith, v, w)) g a.2

          taken : Stands (take i ts) a.0 → IsKnown small u
          taken b = before b.at (took_at i ts b.at a.0 b.is)

      by : Took m ts i t → IsFrom small s (take i (take m ts)) t
      by (took w g) =
          let f : IsFrom mid s (take i ts) t = chain i t g in
          let a : IsAmong small s (take i ts) f.by = among_same (take i ts) f.by f.among in
          record {
            by = f.by;
            among = subst (λ l. IsAmong small s l f.by) (sym (take_take i m ts (omega (arith, w)))) a;
            place = f.place;
            pointer = f.pointer;
            type = f.type;
            embeds = embeds_down small mid extends f.by f.place f.pointer f.type (known_by f.by w a) f.embeds;
            is = is_down t f.type f.is;
          }

  -- ---- the type and all that were reached are known
  module _ (own : IsKnown small s) where
    abbrev AllKnown : List TypeRef → Type 0
    AllKnown ts = (j : ℕ) (t : TypeRef) (u : GoType) → slice_get ts j ≡ Some t → Is small t u → IsKnown small u

    known_among : (ts : List TypeRef) → AllKnown ts → (u : GoType) → IsAmong small s ts u → IsKnown small u
    known_among ts all u (inl e) = subst (IsKnown small) (sym e) own
    known_among ts all u (inr h) = let a = stands ts h.0 h.1 in all a.at h.0 u a.is h.2

    whole : (ts : List TypeRef) → take (length ts) ts ≡ ts
    whole [] = refl
    whole (t ∷ ts) = ap (λ l. t ∷ l) (whole ts)

    all_chain : (ts : List TypeRef) → IsChain mid s ts → AllKnown ts → IsChain small s ts
    all_chain ts chain all = subst (IsChain small s) (whole ts) (chain_down (length ts) ts chain own (λ j t u w h is. all j t u h is))

    closed_down : (ts : List TypeRef) → IsClosed mid s ts → AllKnown ts → IsClosed small s ts
    closed_down ts closed all = record {
      chain = all_chain ts closed.chain all;
      known = known_among ts all;
      closed = λ u place pointer v a e. among_same ts v (closed.closed u place pointer v (among_back ts u a) (embeds_up small mid extends u place pointer v e));
    }

    pub kept_search : (search : Search) → IsSearch mid s search → AllKnown (reached_in search) → IsSearch small s search
    kept_search (r.Blocked ts) h all = record {
      chain = all_chain ts h.chain all;
      ends = ends_unknown small s ts (λ u e k. end_unknown mid s ts h.ends u (end_same (last_in ts) u e) (known small mid extends u k));
    }
    kept_search (r.Found ts ms) h all =
        let closed = closed_down ts h.closed all in
        record {
          closed = closed;
          selected = selected_down small mid extends s ts closed (map (promoted_with (type_at small.types)) ms) (subst (λ l. AreSelected mid s (map (promoted_with (type_at l)) ms)) types h.selected);
          below = subst (λ l. Each (λ (p : PromotedOf TypeRef). Below (length l) p.method.of) ms) types h.below;
        }

    -- one that was reached is not known, and all before it are
    pub cut_search : (search : Search) → IsSearch mid s search → (k m : ℕ) (t : TypeRef) → slice_get (reached_in search) k ≡ Some t → ((u : GoType) → Is small t u → IsKnown small u → ⊥)
        → ((j : ℕ) (v : TypeRef) (u : GoType) → j < k → slice_get (reached_in search) j ≡ Some v → Is small v u → IsKnown small u) → m ≡ suc k → IsBlocked small s (take m (reached_in search))
    cut_search search h k m t there unknown before size =
        let ts = reached_in search in
        subst (λ n. IsBlocked small s (take n ts)) (sym size)
        (record {
          chain = chain_down (suc k) ts (search_chain mid s search h) own (λ j v u w g is. before j v u (omega (arith, w)) g is);
          ends = ends_unknown small s (take (suc k) ts) (λ u e. unknown u (subst (λ o. IsEnd small s o u) (last_taken k ts t there) e));
        })
