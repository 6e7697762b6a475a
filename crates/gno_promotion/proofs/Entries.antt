-- The members that embedded fields lead to, each with its place.
use Rattle.std.proofs.Common.{◌≡◌, refl, sym, ap, ap₂, ◌∙◌, subst, ℕ, zero, suc, ◌+◌, ◌≤◌, List, [], ◌∷◌, ◌++◌, map, inl, inr, arith, Some, rules}
use Rattle.std.specs.Prelude.{slice_get}
use Rattle.std.proofs.lemmas.List.{map-append}
use Rattle.gno_embedding.specs.Embedding.{Leads}
use Rattle.gno_embedding.specs.Reaching.{In}
use Rattle.gno_promotion.specs.Candidates.{candidate_of}
use Rattle.gno_promotion.specs.declared.candidate.CandidateOf.{CandidateOf}
use Rattle.gno_promotion.specs.MethodSets.{HasMembers, Member}
use Rattle.gno_promotion.proofs.Leading.{IsOneDefinition, one_members, one_way, some_eq}
use Rattle.gno_promotion.proofs.Sorting.{Pairs, each_in, each_from, in_left, in_right, pairs_append}
use Rattle.gno_promotion.proofs.Sources.{AreFrom, From, IsNearer, IsSource, Source}
use Rattle.gno_terms.specs.declared.term.GoType.{GoType}
use Rattle.gno_terms.specs.Lawful.{Each}
use Rattle.gno_terms.specs.Tables.{Table}
use Rattle.gno_terms.proofs.Parts.{Each-append}

pub record Entry : Type 0 where
  pub source : Source
  pub place : ℕ
  pub member : Member

abbrev pub candidate : Entry → CandidateOf GoType
candidate e = candidate_of e.source.way e.member

-- not deeper, and another entry
pub record IsBeside (e d : Entry) : Type 0 where
  pub depth : e.source.way.depth ≤ d.source.way.depth
  pub other : e.source.path ≡ d.source.path → e.place ≡ d.place → ⊥

pub record IsGood (table : Table) (s : GoType) (e : Entry) : Type 0 where
  pub source : IsSource table s e.source
  pub members : List Member
  pub has : HasMembers table e.source.of members
  pub at : slice_get members e.place ≡ Some e.member

-- an entry of a source
pub record Met (es : List Entry) (w : Source) (place : ℕ) (member : Member) : Type 0 where
  pub entry : Entry
  pub in_entries : In entry es
  pub source : entry.source ≡ w
  pub place_is : entry.place ≡ place
  pub member_is : entry.member ≡ member

-- ---- the entries of one source

-- with places from k on
abbrev entries_from : Source → ℕ → List Member → List Entry
entries_from w k [] = []
entries_from w k (m ∷ ms) = record { source = w; place = k; member = m } ∷ entries_from w (suc k) ms

record At (w : Source) (k : ℕ) (ms : List Member) (e : Entry) : Type 0 where
  pub index : ℕ
  pub source : e.source ≡ w
  pub place : e.place ≡ index + k
  pub at : slice_get ms index ≡ Some e.member

next : (w : Source) (k : ℕ) (m : Member) (ms : List Member) (e : Entry) → At w (suc k) ms e → At w k (m ∷ ms) e
next w k m ms e a = record { index = suc a.index; source = a.source; place = let z = a.place in omega (arith, z); at = a.at }

all_at : (w : Source) (k : ℕ) (ms : List Member) → Each (At w k ms) (entries_from w k ms)
all_at w k [] = tt
all_at w k (m ∷ ms) = (
  record { index = 0; source = refl; place = omega arith; at = refl },
  each_from (At w k (m ∷ ms)) (entries_from w (suc k) ms) (λ e i. next w k m ms e (each_in (At w (suc k) ms) (entries_from w (suc k) ms) (all_at w (suc k) ms) e i)),
)

beside_next : (w : Source) (k : ℕ) (m : Member) (ms : List Member) (e : Entry) → At w (suc k) ms e → IsBeside (record { source = w; place = k; member = m }) e
beside_next w k m ms e a = record {
  depth = let z : e.source.way.depth ≡ w.way.depth = ap (λ v. v.way.depth) a.source in omega (arith, z);
  other = λ p q. let z = a.place in absurd (omega (arith, q, z));
}

pairs_from : (w : Source) (k : ℕ) (ms : List Member) → Pairs IsBeside (entries_from w k ms)
pairs_from w k [] = tt
pairs_from w k (m ∷ ms) = (
  each_from (IsBeside (record { source = w; place = k; member = m })) (entries_from w (suc k) ms) (λ e i. beside_next w k m ms e (each_in (At w (suc k) ms) (entries_from w (suc k) ms) (all_at w (suc k) ms) e i)),
  pairs_from w (suc k) ms,
)

met_next : (w : Source) (k : ℕ) (m : Member) (es : List Entry) (e : Entry) (place : ℕ) → Met es w place m → (q : ℕ) → place ≡ q → Met (e ∷ es) w q m
met_next w k m es e place h q same = record { entry = h.entry; in_entries = inr h.in_entries; source = h.source; place_is = h.place_is ∙ same; member_is = h.member_is }

met_from : (w : Source) (k : ℕ) (ms : List Member) (i : ℕ) (m : Member) → slice_get ms i ≡ Some m → Met (entries_from w k ms) w (i + k) m
met_from w k [] i m h = absurd (search (rules, h))
met_from w k (n ∷ ms) zero m h = record { entry = record { source = w; place = k; member = n }; in_entries = inl refl; source = refl; place_is = omega arith; member_is = some_eq h }
met_from w k (n ∷ ms) (suc i) m h = met_next w k m (entries_from w (suc k) ms) (record { source = w; place = k; member = n }) (i + suc k) (met_from w (suc k) ms i m h) (suc i + k) (omega arith)

candidates_from : (w : Source) (k : ℕ) (ms : List Member) → map candidate (entries_from w k ms) ≡ map (candidate_of w.way) ms
candidates_from w k [] = refl
candidates_from w k (m ∷ ms) = ap (λ cs. candidate_of w.way m ∷ cs) (candidates_from w (suc k) ms)

met_left : (es ds : List Entry) (w : Source) (k : ℕ) (m : Member) → Met es w k m → Met (es ++ ds) w k m
met_left es ds w k m h = record { entry = h.entry; in_entries = in_left h.entry es ds h.in_entries; source = h.source; place_is = h.place_is; member_is = h.member_is }

met_right : (es ds : List Entry) (w : Source) (k : ℕ) (m : Member) → Met ds w k m → Met (es ++ ds) w k m
met_right es ds w k m h = record { entry = h.entry; in_entries = in_right h.entry es ds h.in_entries; source = h.source; place_is = h.place_is; member_is = h.member_is }

-- ---- the entries of all sources

module _ (table : Table) (one : IsOneDefinition table) (s : GoType) where
  pub record Entries (ws : List Source) (cs : List (CandidateOf GoType)) : Type 0 where
    pub entries : List Entry
    pub are : cs ≡ map candidate entries
    pub each : Each (IsGood table s) entries
    pub are_of : Each (λ e. In e.source ws) entries
    pub pairs : Pairs IsBeside entries
    pub met : (w : Source) → In w ws → (ms : List Member) → HasMembers table w.of ms → (i : ℕ) (m : Member) → slice_get ms i ≡ Some m → Met entries w i m

  good_at : (w : Source) (ms : List Member) (e : Entry) → IsSource table s w → HasMembers table w.of ms → At w 0 ms e → IsGood table s e
  good_at w ms e is has a =
      let place : e.place ≡ a.index = let z = a.place in omega (arith, z) in
      record {
        source = subst (IsSource table s) (sym a.source) is;
        members = ms;
        has = subst (λ v. HasMembers table v.of ms) (sym a.source) has;
        at = ap (slice_get ms) place ∙ a.at;
      }

  beside_other : (w v : Source) (e d : Entry) → IsNearer w v → e.source ≡ w → d.source ≡ v → IsSource table s w → IsSource table s v → IsBeside e d
  beside_other w v e d near at_w at_v is_w is_v = record {
    depth = let y : e.source.way.depth ≡ w.way.depth = ap (λ x. x.way.depth) at_w in let z : d.source.way.depth ≡ v.way.depth = ap (λ x. x.way.depth) at_v in let n = near.depth in omega (arith, y, z, n);
    other = λ same place.
        let path : w.path ≡ v.path = sym (ap (λ x. x.path) at_w) ∙ same ∙ ap (λ x. x.path) at_v in
        near.other (one_way table one s v.path w.way.followed v.way.followed w.of v.of (subst (λ p. Leads table s p w.way.followed w.of) path is_w.leads) is_v.leads).0;
  }

  pub of_sources : (ws : List Source) (cs : List (CandidateOf GoType)) → Each (IsSource table s) ws → Pairs IsNearer ws → AreFrom table ws cs → Entries ws cs
  of_sources [] cs each pairs from = record { entries = []; are = from; each = tt; are_of = tt; pairs = tt; met = λ w i. elim i [ ] }
  of_sources (w ∷ ws) cs each pairs from = step w ws cs each.0 each.1 pairs.0 from (of_sources ws from.rest each.1 pairs.1 from.more)
    where
      step : (w : Source) (ws : List Source) (cs : List (CandidateOf GoType)) → IsSource table s w → Each (IsSource table s) ws → Each (IsNearer w) ws → (from : From table w (AreFrom table ws) cs) → Entries ws from.rest → Entries (w ∷ ws) cs
      step w ws cs is others near from rest =
          let own : List Entry = entries_from w 0 from.members in
          let at : Each (At w 0 from.members) own = all_at w 0 from.members in
          record {
            entries = own ++ rest.entries;
            are = from.are ∙ ap₂ (λ us vs. us ++ vs) (sym (candidates_from w 0 from.members)) rest.are ∙ sym (map-append candidate own rest.entries);
            each = Each-append (IsGood table s) own rest.entries (each_from (IsGood table s) own (λ e i. good_at w from.members e is from.has (each_in (At w 0 from.members) own at e i))) rest.each;
            are_of = Each-append (λ e. In e.source (w ∷ ws)) own rest.entries
                (each_from (λ e. In e.source (w ∷ ws)) own (λ e i. inl (each_in (At w 0 from.members) own at e i).source))
                (each_from (λ e. In e.source (w ∷ ws)) rest.entries (λ e i. inr (each_in (λ d. In d.source ws) rest.entries rest.are_of e i)));
            pairs = pairs_append IsBeside own rest.entries (pairs_from w 0 from.members) rest.pairs
                (each_from (λ e. Each (IsBeside e) rest.entries) own (λ e i. each_from (IsBeside e) rest.entries (λ d j.
                let v : In d.source ws = each_in (λ x. In x.source ws) rest.entries rest.are_of d j in
                beside_other w d.source e d (each_in (IsNearer w) ws near d.source v) (each_in (At w 0 from.members) own at e i).source refl is (each_in (IsSource table s) ws others d.source v))));
            met = λ v i ms has k m h. met_by w ws cs from rest v i ms has k m h;
          }
        where
          met_by : (w : Source) (ws : List Source) (cs : List (CandidateOf GoType)) (from : From table w (AreFrom table ws) cs) (rest : Entries ws from.rest) (v : Source) → In v (w ∷ ws) → (ms : List Member) → HasMembers table v.of ms → (k : ℕ) (m : Member) → slice_get ms k ≡ Some m
              → Met (entries_from w 0 from.members ++ rest.entries) v k m
          met_by w ws cs from rest v (inl e) ms has k m h =
              let same : ms ≡ from.members = one_members table one v.of w.of ms from.members (ap (λ x. x.of) e) has from.has in
              let found : Met (entries_from w 0 from.members) w (k + 0) m = met_from w 0 from.members k m (ap (λ l. slice_get l k) (sym same) ∙ h) in
              met_left (entries_from w 0 from.members) rest.entries v k m (record { entry = found.entry; in_entries = found.in_entries; source = found.source ∙ sym e; place_is = found.place_is ∙ (omega arith); member_is = found.member_is })
          met_by w ws cs from rest v (inr i) ms has k m h = met_right (entries_from w 0 from.members) rest.entries v k m (rest.met v i ms has k m h)
