-- What is picked among all members are the methods that are selected.
use Rattle.std.proofs.Common.{◌≡◌, refl, sym, ap, ap₂, ◌∙◌, subst, ℕ, ◌<◌, ◌≤◌, Bool, true, false, not, ◌&&◌, if◌then◌else◌, List, [], ◌∷◌, ◌++◌, length, map, Option, Some, inl, inr, is_lt, nat_lt, Less, Equal, arith}
use Rattle.std.specs.Prelude.{◌≢◌, ◌⊎◌}
use Rattle.std.specs.Cmp.{tied_back}
use Rattle.std.specs.Ordering.{is_eq}
use Rattle.std.proofs.lemmas.Bool.{and_from, and_parts, cases_lt}
use Rattle.std.proofs.lemmas.Bool.Decides.{Decides-ltb}
use Rattle.gno_embedding.specs.Embedding.{Leads}
use Rattle.gno_embedding.specs.Reaching.{In}
use Rattle.gno_promotion.specs.Candidates.{as_method, goes_on, has_rival, is_method, picked, picked_one, promoted, stands_out}
use Rattle.gno_promotion.specs.declared.candidate.CandidateOf.{CandidateOf}
use Rattle.gno_promotion.specs.declared.found.PromotedOf.{PromotedOf}
use Rattle.gno_promotion.specs.MethodSets.{Ascend, AreSelected, IsEntry, IsPromoted, Member, method, method_in, name_of, package_of}
use Rattle.gno_promotion.proofs.Entries.{Entry, IsGood, candidate}
use Rattle.gno_promotion.proofs.Leading.{IsOneDefinition, one_way}
use Rattle.gno_promotion.proofs.Picking.{IsBefore, IsLess, IsRival, Reaches, Stands, a_method, deeper, depth_of, first, in_one, is_no, less_behind, names_tie, no_is, not_both, one_or_none, order, ordered, reaches_all, reaches_next, stands, stood, tied_names}
use Rattle.gno_promotion.proofs.Sorting.{Pairs, each_in, each_from, in_left, in_right, less, tied}
use Rattle.gno_terms.specs.declared.term.GoType.{GoType}
use Rattle.gno_terms.specs.declared.term.MethodOf.{MethodOf}
use Rattle.gno_terms.specs.Lawful.{Each}
use Rattle.gno_terms.specs.Normal.{by_name}
use Rattle.gno_terms.specs.Tables.{Table}
use Rattle.gno_terms.proofs.NormalTerms.{by_name_total}
use Rattle.gno_terms.proofs.Parts.{Each-append}

abbrev Picked : Type 0
Picked = PromotedOf GoType

abbrev walk : Bool → List Entry → List Picked
walk behind es = picked behind (map candidate es)

-- an entry of the type's, and one of the list that is as near
pub record Cover (all : List Entry) (of : GoType) (path : List ℕ) (place : ℕ) (member : Member) : Type 0 where
  pub entry : Entry
  pub in_all : In entry all
  pub of_is : entry.source.of ≡ of
  pub place_is : entry.place ≡ place
  pub member_is : entry.member ≡ member
  pub near : depth_of entry ≤ length path

-- ---- order

abbrev IsLater : Entry → Picked → Type 0
IsLater c p = by_name (as_method c.member) p.method ≡ Less

each_one : (P : Picked → Type 0) (behind : Bool) (c : Entry) (next : Option (CandidateOf GoType)) → P (promoted (candidate c)) → Each P (picked_one behind (candidate c) next)
each_one P behind c next h = one_or_none P (promoted (candidate c)) (not behind && stands_out (candidate c) next) (λ e. h)

each_picked : (P : Picked → Type 0) (es : List Entry) (behind : Bool) → Each (λ e. P (promoted (candidate e))) es → Each P (walk behind es)
each_picked P [] behind h = tt
each_picked P (c ∷ es) behind h = Each-append P (picked_one behind (candidate c) (first es)) (walk (goes_on (candidate c) (first es)) es)
    (each_one P behind c (first es) h.0) (each_picked P es (goes_on (candidate c) (first es)) h.1)

later_behind : (c d : Entry) → ordered c d ≡ Equal → (ps : List Picked) → Each (IsLater d) ps → Each (IsLater c) ps
later_behind c d k ps h = each_from (IsLater c) ps (λ p i. (by_name_total {A = GoType}).congr (as_method c.member) (as_method d.member) p.method k ∙ each_in (IsLater d) ps h p i)

later_next : (c d : Entry) (ds : List Entry) → IsBefore c d → Each (IsBefore d) ds → Each (IsLater d) (walk (goes_on (candidate d) (first ds)) ds) → Each (IsLater c) (walk (is_eq (ordered c d)) (d ∷ ds))
later_next c d ds (less k) b h = each_picked (IsLater c) (d ∷ ds) (is_eq (ordered c d)) (k, less_behind c d ds k b)
later_next c d ds (tied k q) b h = subst (λ r. Each (IsLater c) (walk r (d ∷ ds))) (sym (ap is_eq k)) (later_behind c d k (walk (goes_on (candidate d) (first ds)) ds) h)

later : (c : Entry) (es : List Entry) → Each (IsBefore c) es → Pairs IsBefore es → Each (IsLater c) (walk (goes_on (candidate c) (first es)) es)
later c [] b p = tt
later c (d ∷ ds) b p = later_next c d ds b.0 p.0 (later d ds p.0 p.1)

ascends_with : (m : MethodOf GoType) (ps : List Picked) → Each (λ p. by_name m p.method ≡ Less) ps → Ascend (map method_in ps) → Ascend (m ∷ map method_in ps)
ascends_with m [] h a = tt
ascends_with m (p ∷ ps) h a = (ap is_lt h.0, a)

ascends_one : (c : Entry) (ps : List Picked) (r : Bool) → Each (IsLater c) ps → Ascend (map method_in ps) → Ascend (map method_in ((if r then promoted (candidate c) ∷ [] else []) ++ ps))
ascends_one c ps true h a = ascends_with (as_method c.member) ps h a
ascends_one c ps false h a = a

ascends : (es : List Entry) (behind : Bool) → Pairs IsBefore es → Ascend (map method_in (walk behind es))
ascends [] behind p = tt
ascends (c ∷ es) behind p = ascends_one c (walk (goes_on (candidate c) (first es)) es) (not behind && stands_out (candidate c) (first es)) (later c es p.0 p.1) (ascends es (goes_on (candidate c) (first es)) p.1)

-- ---- the selection

module _ (table : Table) (one : IsOneDefinition table) (s : GoType) (all : List Entry) (good : Each (IsGood table s) all)
    (covers : (path : List ℕ) (followed : Bool) (place : ℕ) (member : Member) → (e : IsEntry table s path followed place member) → Cover all e.of path place member) where
  good_at : (c : Entry) → In c all → IsGood table s c
  good_at c i = each_in (IsGood table s) all good c i

  entry_of : (c : Entry) → IsGood table s c → (path : List ℕ) (followed : Bool) → Leads table s path followed c.source.of → IsEntry table s path followed c.place c.member
  entry_of c g path followed leads = record { of = c.source.of; leads = leads; members = g.members; has = g.has; at = g.at }

  abbrev Apart : List ℕ → ℕ → List ℕ → ℕ → Type 0
  Apart path place p k = (length path < length p) ⊎ ((p ≡ path) × (k ≡ place))

  -- the same entry, or one of the same place that is farther
  apart_same : (c : Entry) → IsGood table s c → c.source.way.twice ≡ false → (p : List ℕ) (f : Bool) (k : ℕ) → Leads table s p f c.source.of → k ≡ c.place → depth_of c ≤ length p → Apart c.source.path c.place p k
  apart_same c g once p f k leads same near = by (cases_lt (length c.source.path) (length p))
    where
      by : (length c.source.path < length p) ⊎ (length p ≤ length c.source.path) → Apart c.source.path c.place p k
      by (inl h) = inl h
      by (inr h) = inr (g.source.once once p f leads (let z = g.source.depth in omega (arith, h, z, near)), same)

  apart_by : (c : Entry) (es : List Entry) → IsGood table s c → c.source.way.twice ≡ false → has_rival (candidate c) (first es) ≡ false → Each (IsBefore c) es → Pairs IsBefore es
      → (p : List ℕ) (f : Bool) (k : ℕ) (other : Member) (e : IsEntry table s p f k other) (v : Cover all e.of p k other) → ordered c v.entry ≡ Equal → In v.entry (c ∷ es) ⊎ Each (IsLess v.entry) (c ∷ es) → Apart c.source.path c.place p k
  apart_by c es g once alone b pairs p f k other e v tie (inl (inl same)) =
      let of : e.of ≡ c.source.of = sym v.of_is ∙ ap (λ x. x.source.of) same in
      let z : depth_of v.entry ≡ depth_of c = ap (λ x. x.source.way.depth) same in
      apart_same c g once p f k (subst (Leads table s p f) of e.leads) (sym v.place_is ∙ ap (λ x. x.place) same) (let n = v.near in omega (arith, z, n))
  apart_by c es g once alone b pairs p f k other e v tie (inl (inr i)) =
      let far = deeper c es alone b pairs v.entry i tie in
      inl (let n = v.near in let z = g.source.depth in omega (arith, far, n, z))
  apart_by c es g once alone b pairs p f k other e v tie (inr h) = absurd (not_both (ordered v.entry c) (tied_back order c v.entry tie) h.0)

  is_promoted : (c : Entry) (es : List Entry) (behind : Bool) → Reaches all behind (c ∷ es) → behind ≡ false → Stands c (first es) → IsPromoted table s (as_method c.member) c.source.way.followed
  is_promoted c es behind r none h =
      let g : IsGood table s c = good_at c (r.inside c (inl refl)) in
      let member : c.member ≡ method (as_method c.member) = a_method c.member h.is_method in
      record {
        path = c.source.path;
        place = c.place;
        entry = record { of = c.source.of; leads = g.source.leads; members = g.members; has = g.has; at = g.at ∙ ap Some member };
        least = λ p f k other e n q.
            let v : Cover all e.of p k other = covers p f k other e in
            let tie : ordered c v.entry ≡ Equal = names_tie c v.entry (ap name_of member ∙ sym n ∙ sym (ap name_of v.member_is)) (ap package_of member ∙ sym q ∙ sym (ap package_of v.member_is)) in
            apart_by c es g h.once h.alone r.pairs.0 r.pairs.1 p f k other e v tie (r.fresh none v.entry v.in_all);
        named = h.named;
      }

  sound : (es : List Entry) (behind : Bool) → Reaches all behind es → Each (λ p. IsPromoted table s p.method p.followed) (walk behind es)
  sound [] behind r = tt
  sound (c ∷ es) behind r = Each-append (λ p. IsPromoted table s p.method p.followed) (picked_one behind (candidate c) (first es)) (walk (goes_on (candidate c) (first es)) es)
      (one_or_none (λ p. IsPromoted table s p.method p.followed) (promoted (candidate c)) (not behind && stands_out (candidate c) (first es))
      (λ h. let parts = and_parts (not behind) (stands_out (candidate c) (first es)) h in is_promoted c es behind r (is_no behind parts.0) (stands c (first es) parts.1)))
      (sound es (goes_on (candidate c) (first es)) (reaches_next all behind c es r))

  -- ---- each that is selected is picked

  module _ (m : MethodOf GoType) (followed : Bool) (is : IsPromoted table s m followed) where
    -- the entry of the list that is selected
    record Chosen (c : Entry) : Type 0 where
      member : c.member ≡ method m
      path : c.source.path ≡ is.path
      place : c.place ≡ is.place
      depth : depth_of c ≡ length is.path
      followed_is : c.source.way.followed ≡ followed
      once : c.source.way.twice ≡ false

    near_one : (c : Entry) → IsGood table s c → depth_of c ≤ length is.path → Apart is.path is.place c.source.path c.place → c.source.path ≡ is.path
    near_one c g near (inl h) = absurd (let z = g.source.depth in omega (arith, near, h, z))
    near_one c g near (inr h) = h.0

    apart_of : (c : Entry) → IsGood table s c → c.member ≡ method m → (p : List ℕ) (f : Bool) → Leads table s p f c.source.of → Apart is.path is.place p c.place
    apart_of c g e p f leads = is.least p f c.place c.member (entry_of c g p f leads) (ap name_of e) (ap package_of e)

    no_second : (c : Entry) → IsGood table s c → c.member ≡ method m → c.source.path ≡ is.path → (b : Bool) → c.source.way.twice ≡ b → b ≡ false
    no_second c g e path false h = refl
    no_second c g e path true h =
        let t = g.source.twice h in
        absurd (go t.0 t.3 t.4 (apart_of c g e t.0 t.1 t.2))
      where
        go : (p : List ℕ) → length p ≡ depth_of c → p ≢ c.source.path → Apart is.path is.place p c.place → ⊥
        go p len other (inl k) = let z = g.source.depth in let y : length c.source.path ≡ length is.path = ap length path in omega (arith, len, k, z, y)
        go p len other (inr k) = other (k.0 ∙ sym path)

    chosen : (v : Cover all is.entry.of is.path is.place (method m)) → Chosen v.entry
    chosen v =
        let c = v.entry in
        let g : IsGood table s c = good_at c v.in_all in
        let path : c.source.path ≡ is.path = near_one c g v.near (apart_of c g v.member_is c.source.path c.source.way.followed g.source.leads) in
        record {
          member = v.member_is;
          path = path;
          place = v.place_is;
          depth = let z = g.source.depth in let y : length c.source.path ≡ length is.path = ap length path in omega (arith, z, y);
          followed_is = (one_way table one s is.path c.source.way.followed followed c.source.of is.entry.of (subst (λ p. Leads table s p c.source.way.followed c.source.of) path g.source.leads) is.entry.leads).1;
          once = no_second c g v.member_is path c.source.way.twice refl;
        }

    -- another of its name is deeper, or the same
    farther : (c d : Entry) → Chosen c → IsGood table s d → ordered d c ≡ Equal → (length is.path < depth_of d) ⊎ ((d.source.path ≡ c.source.path) × (d.place ≡ c.place))
    farther c d h g tie =
        let names = tied_names d c tie in
        go (is.least d.source.path d.source.way.followed d.place d.member (entry_of d g d.source.path d.source.way.followed g.source.leads) (names.0 ∙ ap name_of h.member) (names.1 ∙ ap package_of h.member))
      where
        go : Apart is.path is.place d.source.path d.place → (length is.path < depth_of d) ⊎ ((d.source.path ≡ c.source.path) × (d.place ≡ c.place))
        go (inl k) = inl (let z = g.source.depth in omega (arith, k, z))
        go (inr k) = inr (k.0 ∙ sym h.path, k.1 ∙ sym h.place)

    no_rival_before : (c : Entry) → Chosen c → IsRival all c → ⊥
    no_rival_before c h r = go (farther c r.by h (good_at r.by r.in_all) r.ties)
      where
        go : (length is.path < depth_of r.by) ⊎ ((r.by.source.path ≡ c.source.path) × (r.by.place ≡ c.place)) → ⊥
        go (inl k) = let z = h.depth in let y = r.beside.depth in omega (arith, k, z, y)
        go (inr k) = r.beside.other k.0 k.1

    is_fresh : (c : Entry) → Chosen c → (behind : Bool) → (behind ≡ true → IsRival all c) → behind ≡ false
    is_fresh c h true r = absurd (no_rival_before c h (r refl))
    is_fresh c h false r = refl

    alone_next : (c d : Entry) → Chosen c → In d all → IsBefore c d → has_rival (candidate c) (Some (candidate d)) ≡ false
    alone_next c d h i (less k) = ap (λ r. is_eq r && not (nat_lt (depth_of c) (depth_of d))) k
    alone_next c d h i (tied k q) = go (farther c d h (good_at d i) (tied_back order c d k))
      where
        go : (length is.path < depth_of d) ⊎ ((d.source.path ≡ c.source.path) × (d.place ≡ c.place)) → has_rival (candidate c) (Some (candidate d)) ≡ false
        go (inl far) =
            let lt : depth_of c < depth_of d = let z = h.depth in omega (arith, far, z) in
            ap₂ (λ r b. is_eq r && not b) k ((Decides-ltb (depth_of c) (depth_of d)).1 lt)
        go (inr same) = absurd (q.other (sym same.0) (sym same.1))

    alone : (c : Entry) (es : List Entry) → Chosen c → ((e : Entry) → In e es → In e all) → Each (IsBefore c) es → has_rival (candidate c) (first es) ≡ false
    alone c [] h i b = refl
    alone c (d ∷ ds) h i b = alone_next c d h (i d (inl refl)) b.0

    picked_of : (c : Entry) → Chosen c → promoted (candidate c) ≡ record { method = m; followed = followed }
    picked_of c h = let a : as_method c.member ≡ m = ap as_method h.member in let b = h.followed_is in λ i. record { method = a i; followed = b i }

    stands_it : (c : Entry) (es : List Entry) (behind : Bool) → Chosen c → Reaches all behind (c ∷ es) → Stands c (first es)
    stands_it c es behind h r = record {
      is_method = ap is_method h.member;
      once = h.once;
      named = λ e. is.named (sym (ap (λ n. (as_method n).name) h.member) ∙ e);
      alone = alone c es h (λ e i. r.inside e (inr i)) r.pairs.0;
    }

    complete : (c : Entry) → Chosen c → (es : List Entry) (behind : Bool) → Reaches all behind es → In c es → In (record { method = m; followed = followed }) (walk behind es)
    complete c h [] behind r i = elim i [ ]
    complete c h (d ∷ es) behind r (inr i) = in_right (record { method = m; followed = followed }) (picked_one behind (candidate d) (first es)) (walk (goes_on (candidate d) (first es)) es)
        (complete c h es (goes_on (candidate d) (first es)) (reaches_next all behind d es r) i)
    complete c h (d ∷ es) behind r (inl same) =
        let k : Chosen d = subst Chosen same h in
        in_left (record { method = m; followed = followed }) (picked_one behind (candidate d) (first es)) (walk (goes_on (candidate d) (first es)) es)
        (in_one (promoted (candidate d)) (record { method = m; followed = followed }) (not behind && stands_out (candidate d) (first es))
        (and_from (not behind) (stands_out (candidate d) (first es)) (no_is behind (is_fresh d k behind r.rival)) (stood d (first es) (stands_it d es behind k r)))
        (sym (picked_of d k)))

  pub selected : Pairs IsBefore all → AreSelected table s (walk false all)
  selected pairs = record {
    sound = sound all false (reaches_all all pairs);
    all = λ m followed is.
        let v : Cover all is.entry.of is.path is.place (method m) = covers is.path followed is.place (method m) is.entry in
        complete m followed is v.entry (chosen m followed is v) all false (reaches_all all pairs) v.in_all;
    order = ascends all false pairs;
  }
