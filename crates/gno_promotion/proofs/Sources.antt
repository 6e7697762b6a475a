-- The types that embedded fields lead to, each with a shortest way, and the members of each.
use Rattle.std.proofs.Common.{◌≡◌, refl, sym, ap, ◌∙◌, subst, ℕ, ◌≤◌, List, [], ◌∷◌, ◌++◌, length, map, Bool, true, false, true≢false, inl, inr, arith}
use Rattle.std.specs.Prelude.{◌≢◌, ◌⊎◌}
use Rattle.std.proofs.lemmas.List.{map-append}
use Rattle.gno_embedding.specs.Embedding.{Leads, here}
use Rattle.gno_embedding.specs.Reaching.{AreDistinct, AreReached, In, IsReached, Rises, number_of}
use Rattle.gno_embedding.specs.declared.ways.Reached.{Reached}
use Rattle.gno_promotion.specs.Candidates.{AreGathered, AreMembers, AreOfReached, BeginWith, candidate_of, candidate_with, no_way, way_of}
use Rattle.gno_promotion.specs.declared.candidate.CandidateOf.{CandidateOf}
use Rattle.gno_promotion.specs.declared.candidate.Way.{Way}
use Rattle.gno_promotion.specs.MethodSets.{HasMembers, Member}
use Rattle.gno_promotion.proofs.Gathering.{one_type}
use Rattle.gno_promotion.proofs.Sorting.{Pairs, each_in, each_from}
use Rattle.gno_terms.specs.declared.term.GoType.{GoType}
use Rattle.gno_terms.specs.declared.term.TypeRef.{TypeRef}
use Rattle.gno_terms.specs.Lawful.{Each}
use Rattle.gno_terms.specs.Tables.{Table, Is, type_at}

pub record Source : Type 0 where
  pub of : GoType
  pub path : List ℕ
  pub way : Way

pub record IsSource (table : Table) (s : GoType) (w : Source) : Type 0 where
  pub leads : Leads table s w.path w.way.followed w.of
  pub depth : length w.path ≡ w.way.depth
  pub once : w.way.twice ≡ false → (p : List ℕ) (followed : Bool) → Leads table s p followed w.of → length p ≡ w.way.depth → p ≡ w.path
  pub twice : w.way.twice ≡ true → (p : List ℕ) × (followed : Bool) × Leads table s p followed w.of × (length p ≡ w.way.depth) × (p ≢ w.path)

-- not deeper, and another type
pub record IsNearer (w v : Source) : Type 0 where
  pub depth : w.way.depth ≤ v.way.depth
  pub other : w.of ≡ v.of → ⊥

-- first the members of this type, and then others
pub record From (table : Table) (w : Source) (More : List (CandidateOf GoType) → Type 0) (cs : List (CandidateOf GoType)) : Type 0 where
  pub members : List Member
  pub has : HasMembers table w.of members
  pub rest : List (CandidateOf GoType)
  pub more : More rest
  pub are : cs ≡ map (candidate_of w.way) members ++ rest

abbrev pub AreFrom : Table → List Source → List (CandidateOf GoType) → Type 0
AreFrom table [] cs = cs ≡ []
AreFrom table (w ∷ ws) cs = From table w (AreFrom table ws) cs

-- no two numbers stand for one type
abbrev pub IsOneNumber : Table → Type 0
IsOneNumber table = (a b : TypeRef) (s : GoType) → Is table a s → Is table b s → a ≡ b

-- a number among some, and the source of its type
pub record IsOf (table : Table) (its : List Reached) (w : Source) : Type 0 where
  pub it : Reached
  pub in_its : In it its
  pub is : Is table it.of w.of
  pub way : w.way ≡ way_of it

pub record Found (ws : List Source) (u : GoType) (depth : ℕ) : Type 0 where
  pub source : Source
  pub in_sources : In source ws
  pub of : source.of ≡ u
  pub near : source.way.depth ≤ depth

module _ (table : Table) (s : GoType) where
  pub record Sources (its : List Reached) (cs : List (CandidateOf GoType)) : Type 0 where
    pub sources : List Source
    pub each : Each (IsSource table s) sources
    pub are_of : Each (IsOf table its) sources
    pub others : Each (λ w. w.of ≡ s → ⊥) sources
    pub pairs : Pairs IsNearer sources
    pub from : AreFrom table sources cs
    pub found : (it : Reached) → In it its → (u : GoType) → Is table it.of u → Found sources u it.depth

  -- the type itself too
  pub record AllSources (cs : List (CandidateOf GoType)) : Type 0 where
    pub sources : List Source
    pub each : Each (IsSource table s) sources
    pub pairs : Pairs IsNearer sources
    pub from : AreFrom table sources cs
    pub found : (path : List ℕ) (followed : Bool) (u : GoType) → Leads table s path followed u → Found sources u (length path)

  abbrev at : TypeRef → GoType
  at = type_at table.types

  abbrev source_of : (it : Reached) → IsReached table s it → Source
  source_of it r = record { of = r.type; path = r.path; way = way_of it }

  is_source : (it : Reached) (r : IsReached table s it) → IsSource table s (source_of it r)
  is_source it r = record { leads = r.leads; depth = r.depth; once = r.once; twice = r.twice }

  rises_more : (a : Reached) (its : List Reached) → Rises (a ∷ its) → Rises its
  rises_more a [] h = tt
  rises_more a (b ∷ its) h = h.1

  above : (a : Reached) (its : List Reached) → Rises (a ∷ its) → (x : Reached) → In x its → a.depth ≤ x.depth
  above a [] h x i = elim i [ ]
  above a (b ∷ its) h x (inl e) = let z : x.depth ≡ b.depth = ap (λ y. y.depth) e in omega (arith, h.0, z)
  above a (b ∷ its) h x (inr i) = let z = above b its h.1 x i in omega (arith, h.0, z)

  pub in_numbers : (x : Reached) (its : List Reached) → In x its → In x.of (map number_of its)
  in_numbers x [] i = elim i [ ]
  in_numbers x (y ∷ its) (inl e) = inl (ap number_of e)
  in_numbers x (y ∷ its) (inr i) = inr (in_numbers x its i)

  wider : (it : Reached) (its : List Reached) (w : Source) → IsOf table its w → IsOf table (it ∷ its) w
  wider it its w h = record { it = h.it; in_its = inr h.in_its; is = h.is; way = h.way }

  found_more : (w : Source) (ws : List Source) (u : GoType) (n : ℕ) → Found ws u n → Found (w ∷ ws) u n
  found_more w ws u n f = record { source = f.source; in_sources = inr f.in_sources; of = f.of; near = f.near }

  joined : (w : Source) (own rest cs : List (CandidateOf TypeRef)) → AreMembers table w.of w.way own → cs ≡ own ++ rest → (More : List (CandidateOf GoType) → Type 0) → More (map (candidate_with at) rest)
      → From table w More (map (candidate_with at) cs)
  joined w own rest cs are all More more = record {
    members = are.members;
    has = are.has;
    rest = map (candidate_with at) rest;
    more = more;
    are = ap (map (candidate_with at)) all ∙ map-append (candidate_with at) own rest ∙ ap (λ us. us ++ map (candidate_with at) rest) are.are;
  }

  module _ (one : IsOneNumber table) where
    differ : (it : Reached) (its : List Reached) (w : Source) (u : GoType) → (In it.of (map number_of its) → ⊥) → Is table it.of u → IsOf table its w → u ≡ w.of → ⊥
    differ it its w u none is h same =
        let number : h.it.of ≡ it.of = one h.it.of it.of w.of h.is (subst (Is table it.of) same is) in
        none (subst (λ r. In r (map number_of its)) number (in_numbers h.it its h.in_its))

    step : (it : Reached) (its : List Reached) (cs : List (CandidateOf TypeRef)) (r : IsReached table s it) → Rises (it ∷ its) → (In it.of (map number_of its) → ⊥)
        → (b : BeginWith table it (AreOfReached table its) cs) → Sources its (map (candidate_with at) b.rest) → Sources (it ∷ its) (map (candidate_with at) cs)
    step it its cs r rises none b rest =
        let w : Source = source_of it r in
        let members : AreMembers table w.of w.way b.own = subst (λ u. AreMembers table u (way_of it) b.own) (one_type table it.of b.of r.type b.is r.is) b.members in
        record {
          sources = w ∷ rest.sources;
          each = (is_source it r, rest.each);
          are_of = (record { it = it; in_its = inl refl; is = r.is; way = refl }, each_from (IsOf table (it ∷ its)) rest.sources (λ v i. wider it its v (each_in (IsOf table its) rest.sources rest.are_of v i)));
          others = (r.other, rest.others);
          pairs = (
            each_from (IsNearer w) rest.sources (λ v i.
                let h : IsOf table its v = each_in (IsOf table its) rest.sources rest.are_of v i in
                record {
                  depth = let z = above it its rises h.it h.in_its in let y : v.way.depth ≡ h.it.depth = ap (λ x. x.depth) h.way in omega (arith, z, y);
                  other = differ it its v r.type none r.is h;
                }),
            rest.pairs,
          );
          from = joined w b.own b.rest cs members b.all (AreFrom table rest.sources) rest.from;
          found = λ x i u is. found_by it its cs r rest x i u is;
        }
      where
        found_by : (it : Reached) (its : List Reached) (cs : List (CandidateOf TypeRef)) (r : IsReached table s it) {ds : List (CandidateOf GoType)} (rest : Sources its ds) (x : Reached) → In x (it ∷ its) → (u : GoType) → Is table x.of u → Found (source_of it r ∷ rest.sources) u x.depth
        found_by it its cs r rest x (inl e) u is = record {
          source = source_of it r;
          in_sources = inl refl;
          of = one_type table it.of r.type u r.is (subst (λ y. Is table y.of u) e is);
          near = let z : x.depth ≡ it.depth = ap (λ y. y.depth) e in omega (arith, z);
        }
        found_by it its cs r rest x (inr i) u is = found_more (source_of it r) rest.sources u x.depth (rest.found x i u is)

    of_reached : (its : List Reached) (cs : List (CandidateOf TypeRef)) → Each (IsReached table s) its → Rises its → AreDistinct (map number_of its) → AreOfReached table its cs → Sources its (map (candidate_with at) cs)
    of_reached [] cs each rises distinct are = record {
      sources = [];
      each = tt;
      are_of = tt;
      others = tt;
      pairs = tt;
      from = ap (map (candidate_with at)) are;
      found = λ it i. elim i [ ];
    }
    of_reached (it ∷ its) cs each rises distinct are = step it its cs each.0 rises distinct.0 are
        (of_reached its are.rest each.1 (rises_more it its rises) distinct.1 are.more)

    no_path : (p : List ℕ) → length p ≡ 0 → p ≡ []
    no_path [] e = refl
    no_path (x ∷ p) e = absurd (omega (arith, e))

    abbrev itself : Source
    itself = record { of = s; path = []; way = no_way }

    is_itself : IsSource table s itself
    is_itself = record {
      leads = here;
      depth = refl;
      once = λ e p followed leads short. no_path p short;
      twice = λ e. absurd (true≢false (sym e));
    }

    found_itself : (ws : List Source) (u : GoType) (n : ℕ) → u ≡ s → Found (itself ∷ ws) u n
    found_itself ws u n e = record { source = itself; in_sources = inl refl; of = sym e; near = omega arith }

    closer : (ws : List Source) (u : GoType) (m n : ℕ) → m ≤ n → Found ws u m → Found ws u n
    closer ws u m n h f = record { source = f.source; in_sources = f.in_sources; of = f.of; near = let z = f.near in omega (arith, h, z) }

    pub all_sources : (its : List Reached) (cs : List (CandidateOf TypeRef)) → AreReached table s its → AreGathered table s its cs → AllSources (map (candidate_with at) cs)
    all_sources its cs are g =
        let rest : Sources its (map (candidate_with at) g.rest) = of_reached its g.rest are.each are.rises are.distinct g.more in
        record {
          sources = itself ∷ rest.sources;
          each = (is_itself, rest.each);
          pairs = (each_from (IsNearer itself) rest.sources (λ v i. record { depth = omega arith; other = λ e. each_in (λ w. w.of ≡ s → ⊥) rest.sources rest.others v i (sym e) }), rest.pairs);
          from = joined itself g.own g.rest cs g.members g.all (AreFrom table rest.sources) rest.from;
          found = λ path followed u leads. found_in rest path u (are.least path followed u leads);
        }
      where
        found_in : {ds : List (CandidateOf GoType)} (rest : Sources its ds) (path : List ℕ) (u : GoType) → (u ≡ s) ⊎ ((it : Reached) × In it its × Is table it.of u × (it.depth ≤ length path)) → Found (itself ∷ rest.sources) u (length path)
        found_in rest path u (inl e) = found_itself rest.sources u (length path) e
        found_in rest path u (inr h) = found_more itself rest.sources u (length path) (closer rest.sources u h.0.depth (length path) h.3 (rest.found h.0 h.1 u h.2))
