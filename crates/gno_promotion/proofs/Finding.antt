-- What a search finds.
use Rattle.std.proofs.Common.{◌≡◌, refl, sym, ap, ap₂, ◌∙◌, subst, ℕ, Bool, true, false, not, ◌&&◌, if◌then◌else◌, List, [], ◌∷◌, ◌++◌, length, map, inr, arith}
use Rattle.std.specs.Prelude.{slice_get}
use Rattle.std.proofs.lemmas.List.{map-append}
use Rattle.gno_embedding.specs.Reaching.{AreReached, IsClosed, IsReached, number_of}
use Rattle.gno_embedding.specs.declared.ways.Reached.{Reached}
use Rattle.gno_promotion.specs.Candidates.{AreGathered, AreOfReached, IsBelow, IsKnownAt, by_names, candidate_with, goes_on, picked, picked_one, promoted, stands_out}
use Rattle.gno_promotion.specs.declared.candidate.CandidateOf.{CandidateOf}
use Rattle.gno_promotion.specs.declared.found.PromotedOf.{PromotedOf}
use Rattle.gno_promotion.specs.MethodSets.{AreSelected, HasMembers, IsEntry, Member}
use Rattle.gno_promotion.specs.Searches.{IsFound, promoted_with}
use Rattle.gno_promotion.proofs.Entries.{Entries, Entry, IsBeside, IsGood, Met, candidate, of_sources}
use Rattle.gno_promotion.proofs.Leading.{IsOneDefinition}
use Rattle.gno_promotion.proofs.Picking.{depth_of, one_or_none, order, ordered}
use Rattle.gno_promotion.proofs.Selecting.{Cover, selected}
use Rattle.gno_promotion.proofs.Sorted.{by_members, by_names_is}
use Rattle.gno_promotion.proofs.Sorting.{each_from, each_in, in_in_order, in_order_map, in_order_pairs}
use Rattle.gno_promotion.proofs.Sources.{AllSources, Found, IsOneNumber, all_sources, in_numbers}
use Rattle.gno_terms.specs.declared.term.GoType.{GoType}
use Rattle.gno_terms.specs.declared.term.TypeRef.{TypeRef}
use Rattle.gno_terms.specs.Lawful.{Each}
use Rattle.gno_terms.specs.Tables.{Table, Below, type_at}
use Rattle.gno_terms.proofs.Ordered.{in_order, Each-in_order}
use Rattle.gno_terms.proofs.Parts.{Each-append}

-- ---- what is picked looks at no type

module _ {A B : Type 0} (f : A → B) where
  one_with : (c : CandidateOf A) (r : Bool) → map (promoted_with f) (if r then promoted c ∷ [] else []) ≡ (if r then promoted (candidate_with f c) ∷ [] else [])
  one_with c true = refl
  one_with c false = refl

  picked_with : (behind : Bool) (cs : List (CandidateOf A)) → map (promoted_with f) (picked behind cs) ≡ picked behind (map (candidate_with f) cs)
  picked_with behind [] = refl
  picked_with behind (c ∷ []) = map-append (promoted_with f) (picked_one behind c (slice_get [] 0)) [] ∙ ap (λ us. us ++ []) (one_with c (not behind && stands_out c (slice_get [] 0)))
  picked_with behind (c ∷ d ∷ cs) =
      map-append (promoted_with f) (picked_one behind c (slice_get (d ∷ cs) 0)) (picked (goes_on c (slice_get (d ∷ cs) 0)) (d ∷ cs))
      ∙ ap₂ (λ us vs. us ++ vs) (one_with c (not behind && stands_out c (slice_get (d ∷ cs) 0))) (picked_with (goes_on c (slice_get (d ∷ cs) 0)) (d ∷ cs))

-- ---- all numbers are in the table

module _ (table : Table) where
  abbrev at : TypeRef → GoType
  at = type_at table.types

  abbrev IsIn : PromotedOf TypeRef → Type 0
  IsIn p = Below (length table.types) p.method.of

  picked_below : (behind : Bool) (cs : List (CandidateOf TypeRef)) → Each (IsBelow table) cs → Each IsIn (picked behind cs)
  picked_below behind [] h = tt
  picked_below behind (c ∷ cs) h = Each-append IsIn (picked_one behind c (slice_get cs 0)) (picked (goes_on c (slice_get cs 0)) cs)
      (one_or_none IsIn (promoted c) (not behind && stands_out c (slice_get cs 0)) (λ e. h.0)) (picked_below (goes_on c (slice_get cs 0)) cs h.1)

  reached_below : (its : List Reached) (cs : List (CandidateOf TypeRef)) → AreOfReached table its cs → Each (IsBelow table) cs
  reached_below [] cs are = subst (Each (IsBelow table)) (sym are) tt
  reached_below (it ∷ its) cs are = subst (Each (IsBelow table)) (sym are.all) (Each-append (IsBelow table) are.own are.rest are.members.below (reached_below its are.rest are.more))

  gathered_below : (s : GoType) (its : List Reached) (cs : List (CandidateOf TypeRef)) → AreGathered table s its cs → Each IsIn (picked false (by_names cs))
  gathered_below s its cs g =
      let all : Each (IsBelow table) cs = subst (Each (IsBelow table)) (sym g.all) (Each-append (IsBelow table) g.own g.rest g.members.below (reached_below its g.rest g.more)) in
      picked_below false (by_names cs) (subst (Each (IsBelow table)) (sym (by_names_is cs)) (Each-in_order by_members (IsBelow table) cs all))

  -- ---- the underlying types of all are known

  pub known_at : (s : GoType) (its : List Reached) → AreReached table s its → Each (IsKnownAt table) its
  known_at s its are = each_from (IsKnownAt table) its (λ it i.
      let r : IsReached table s it = each_in (IsReached table s) its are.each it i in
      record { type = r.type; is = r.is; known = are.closed.known r.type (inr (it.of, in_numbers table s it its i, r.is)) })

  module _ (number : IsOneNumber table) (one : IsOneDefinition table) (s : GoType) (its : List Reached) (are : AreReached table s its) (cs : List (CandidateOf TypeRef)) (g : AreGathered table s its cs) where
    abbrev made : List (CandidateOf GoType)
    made = map (candidate_with at) cs

    sources : AllSources table s made
    sources = all_sources table s number its cs are g

    entries : Entries table one s sources.sources made
    entries = of_sources table one s sources.sources made sources.each sources.pairs sources.from

    abbrev sorted : List Entry
    sorted = in_order ordered entries.entries

    covers : (path : List ℕ) (followed : Bool) (place : ℕ) (member : Member) → (e : IsEntry table s path followed place member) → Cover sorted e.of path place member
    covers path followed place member e =
        let w : Found sources.sources e.of (length path) = sources.found path followed e.of e.leads in
        let h : Met entries.entries w.source place member = entries.met w.source w.in_sources e.members (subst (λ u. HasMembers table u e.members) (sym w.of) e.has) place member e.at in
        record {
          entry = h.entry;
          in_all = in_in_order ordered h.entry entries.entries h.in_entries;
          of_is = ap (λ x. x.of) h.source ∙ w.of;
          place_is = h.place_is;
          member_is = h.member_is;
          near = let y : depth_of h.entry ≡ w.source.way.depth = ap (λ x. x.way.depth) h.source in let z = w.near in omega (arith, y, z);
        }

    same_list : map (promoted_with at) (picked false (by_names cs)) ≡ picked false (map candidate sorted)
    same_list =
        picked_with at false (by_names cs)
        ∙ ap (picked false)
        (ap (map (candidate_with at)) (by_names_is cs)
        ∙ sym (in_order_map by_members (candidate_with at) cs)
        ∙ ap (in_order by_members) entries.are
        ∙ in_order_map by_members candidate entries.entries)

    pub found : (reached : List TypeRef) (methods : List (PromotedOf TypeRef)) → reached ≡ map number_of its → methods ≡ picked false (by_names cs) → IsFound table s reached methods
    found reached methods e h = record {
      closed = subst (IsClosed table s) (sym e) are.closed;
      selected = subst (AreSelected table s) (sym (ap (map (promoted_with at)) h ∙ same_list))
          (selected table one s sorted (Each-in_order ordered (IsGood table s) entries.entries entries.each) covers (in_order_pairs ordered order IsBeside entries.entries entries.pairs));
      below = subst (Each IsIn) (sym h) (gathered_below s its cs g);
    }
