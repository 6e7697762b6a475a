-- What is picked among the sorted members are the methods that are selected.
use Rattle.std.proofs.Common.{◌≡◌, refl, sym, ap, ap₂, ◌∙◌, subst, ℕ, ◌<◌, Bool, true, false, true≢false, not, ◌&&◌, if◌then◌else◌, List, [], ◌∷◌, map, Option, Some, inl, inr, nat_lt, Ordering, Less, Equal, Greater, arith}
use Rattle.std.specs.Prelude.{◌≢◌, ◌⊎◌, codes, slice_get}
use Rattle.std.specs.Cmp.{IsTotalOrder, alike_right, on_total, tied_itself}
use Rattle.std.specs.Cmp.Lexicographic.{slice_cmp, texts_ties, nat_list_cmp_total}
use Rattle.std.specs.Ordering.{is_eq, nat_cmp, ordering_then}
use Rattle.std.specs.Str.{bytes_eq}
use Rattle.std.proofs.lemmas.Bool.{and_from, and_parts}
use Rattle.std.proofs.lemmas.Bool.Decides.{Decides-ltb}
use Rattle.std.proofs.lemmas.Slice.Eq.{bytes_eq-Decides}
use Rattle.gno_embedding.specs.Reaching.{In}
use Rattle.gno_promotion.specs.Candidates.{as_method, by_member, goes_on, has_rival, is_method, stands_out}
use Rattle.gno_promotion.specs.declared.candidate.CandidateOf.{CandidateOf}
use Rattle.gno_promotion.specs.MethodSets.{Member, field, method, name_of, package_of}
use Rattle.gno_promotion.proofs.Entries.{Entry, IsBeside, candidate}
use Rattle.gno_promotion.proofs.Sorted.{by_member_total}
use Rattle.gno_promotion.proofs.Sorting.{Before, Pairs, each_in, each_from, less, tied}
use Rattle.gno_terms.specs.declared.term.GoType.{GoType}
use Rattle.gno_terms.specs.Lawful.{Each}

-- ---- the order of entries

abbrev pub ordered : Entry → Entry → Ordering
ordered e d = by_member (candidate e) (candidate d)

pub order : IsTotalOrder ordered
order = on_total candidate (by_member_total {A = GoType})

by_texts : List ℕ → List ℕ → List ℕ → List ℕ → Ordering
by_texts m p n q = ordering_then (slice_cmp nat_cmp m n) (slice_cmp nat_cmp p q)

same_name : (m : Member) → (as_method m).name ≡ name_of m
same_name (field f) = refl
same_name (method m) = refl

same_package : (m : Member) → (as_method m).«package» ≡ package_of m
same_package (field f) = refl
same_package (method m) = refl

ordered_by : (e d : Entry) → ordered e d ≡ by_texts (as_method e.member).name (as_method e.member).«package» (as_method d.member).name (as_method d.member).«package»
unfolding by_texts
ordered_by e d = refl

same_texts : (m p : List ℕ) → by_texts m p m p ≡ Equal
unfolding by_texts
same_texts m p = ap₂ ordering_then (tied_itself nat_list_cmp_total m) (tied_itself nat_list_cmp_total p)

pub names_tie : (e d : Entry) → name_of e.member ≡ name_of d.member → package_of e.member ≡ package_of d.member → ordered e d ≡ Equal
names_tie e d n p =
    ordered_by e d
    ∙ ap₂ (λ a b. by_texts a b (as_method d.member).name (as_method d.member).«package») (same_name e.member ∙ n ∙ sym (same_name d.member)) (same_package e.member ∙ p ∙ sym (same_package d.member))
    ∙ same_texts (as_method d.member).name (as_method d.member).«package»

both_equal : (r q : Ordering) → ordering_then r q ≡ Equal → (r ≡ Equal) × (q ≡ Equal)
both_equal Less q e = absurd (cc)
both_equal Equal q e = (refl, e)
both_equal Greater q e = absurd (cc)

text_eq : (xs ys : List ℕ) → slice_cmp nat_cmp xs ys ≡ Equal → xs ≡ ys
text_eq xs ys e = (bytes_eq-Decides xs ys).0 (texts_ties xs ys ∙ ap is_eq e)

tied_texts : (m p n q : List ℕ) → by_texts m p n q ≡ Equal → (m ≡ n) × (p ≡ q)
unfolding by_texts
tied_texts m p n q e =
    let h = both_equal (slice_cmp nat_cmp m n) (slice_cmp nat_cmp p q) e in
    (text_eq m n h.0, text_eq p q h.1)

pub tied_names : (e d : Entry) → ordered e d ≡ Equal → (name_of e.member ≡ name_of d.member) × (package_of e.member ≡ package_of d.member)
tied_names e d h =
    let t = tied_texts (as_method e.member).name (as_method e.member).«package» (as_method d.member).name (as_method d.member).«package» (sym (ordered_by e d) ∙ h) in
    (sym (same_name e.member) ∙ t.0 ∙ same_name d.member, sym (same_package e.member) ∙ t.1 ∙ same_package d.member)

-- ---- what stands behind

abbrev pub IsLess : Entry → Entry → Type 0
IsLess e d = ordered e d ≡ Less

abbrev pub IsBefore : Entry → Entry → Type 0
IsBefore = Before ordered IsBeside

abbrev pub first : List Entry → Option (CandidateOf GoType)
first es = slice_get (map candidate es) 0

abbrev pub depth_of : Entry → ℕ
depth_of e = e.source.way.depth

pub not_both : (r : Ordering) → r ≡ Equal → r ≡ Less → ⊥
not_both r p q = let h : Equal ≡ Less = sym p ∙ q in absurd (cc)

less_before : (c d e : Entry) → IsLess c d → IsBefore d e → IsLess c e
less_before c d e h (less k) = order.trans c d e h k
less_before c d e h (tied k q) = sym (alike_right order d e c k) ∙ h

-- behind what is less all is less
pub less_behind : (c d : Entry) (es : List Entry) → IsLess c d → Each (IsBefore d) es → Each (IsLess c) es
less_behind c d es h b = each_from (IsLess c) es (λ e i. less_before c d e h (each_in (IsBefore d) es b e i))

before_less : (e c x : Entry) → IsBefore e c → IsLess c x → IsLess e x
before_less e c x (less k) h = order.trans e c x k h
before_less e c x (tied k q) h = order.congr e c x k ∙ h

-- where the next one does not tie, all behind are less
next_less : (c d : Entry) (ds : List Entry) → is_eq (ordered c d) ≡ false → IsBefore c d → Each (IsBefore d) ds → Each (IsLess c) (d ∷ ds)
next_less c d ds h (less k) b = (k, less_behind c d ds k b)
next_less c d ds h (tied k q) b = absurd (true≢false (sym (ap is_eq k) ∙ h))

goes_on_less : (c : Entry) (es : List Entry) → goes_on (candidate c) (first es) ≡ false → Each (IsBefore c) es → Pairs IsBefore es → Each (IsLess c) es
goes_on_less c [] h b p = tt
goes_on_less c (d ∷ ds) h b p = next_less c d ds h b.0 p.0

deeper_behind : (c d e : Entry) → ordered c d ≡ Equal → depth_of c < depth_of d → ordered c e ≡ Equal → (e ≡ d) ⊎ IsBefore d e → depth_of c < depth_of e
deeper_behind c d e k h t (inl same) = let z : depth_of e ≡ depth_of d = ap (λ x. x.source.way.depth) same in omega (arith, h, z)
deeper_behind c d e k h t (inr (less m)) = absurd (not_both (ordered c e) t (order.congr c d e k ∙ m))
deeper_behind c d e k h t (inr (tied m q)) = let z = q.depth in omega (arith, h, z)

no_rival : (c d : Entry) (r : Bool) → nat_lt (depth_of c) (depth_of d) ≡ r → ordered c d ≡ Equal → has_rival (candidate c) (Some (candidate d)) ≡ false → depth_of c < depth_of d
no_rival c d true h k n = (Decides-ltb (depth_of c) (depth_of d)).0 h
no_rival c d false h k n = absurd (true≢false (sym (ap₂ (λ s r. is_eq s && not r) k h) ∙ n))

in_behind : (d e : Entry) (ds : List Entry) → Each (IsBefore d) ds → In e (d ∷ ds) → (e ≡ d) ⊎ IsBefore d e
in_behind d e ds b (inl same) = inl same
in_behind d e ds b (inr i) = inr (each_in (IsBefore d) ds b e i)

deeper_next : (c d : Entry) (ds : List Entry) → has_rival (candidate c) (Some (candidate d)) ≡ false → IsBefore c d → Each (IsBefore d) ds → (e : Entry) → In e (d ∷ ds) → ordered c e ≡ Equal → depth_of c < depth_of e
deeper_next c d ds h (less k) b e i t = absurd (not_both (ordered c e) t (each_in (IsLess c) (d ∷ ds) (k, less_behind c d ds k b) e i))
deeper_next c d ds h (tied k q) b e i t = deeper_behind c d e k (no_rival c d (nat_lt (depth_of c) (depth_of d)) refl k h) t (in_behind d e ds b i)

-- without a rival, those of its name behind it are deeper
pub deeper : (c : Entry) (es : List Entry) → has_rival (candidate c) (first es) ≡ false → Each (IsBefore c) es → Pairs IsBefore es → (e : Entry) → In e es → ordered c e ≡ Equal → depth_of c < depth_of e
deeper c [] h b p e i t = elim i [ ]
deeper c (d ∷ ds) h b p e i t = deeper_next c d ds h b.0 p.0 e i t

-- ---- how far a walk over the entries has come

pub record IsRival (all : List Entry) (c : Entry) : Type 0 where
  pub by : Entry
  pub in_all : In by all
  pub ties : ordered by c ≡ Equal
  pub beside : IsBeside by c

abbrev pub HasRival : List Entry → List Entry → Type 0
HasRival all [] = Unit {0}
HasRival all (c ∷ es) = IsRival all c

pub record Reaches (all : List Entry) (behind : Bool) (es : List Entry) : Type 0 where
  pub split : (e : Entry) → In e all → In e es ⊎ Each (IsBefore e) es
  pub fresh : behind ≡ false → (e : Entry) → In e all → In e es ⊎ Each (IsLess e) es
  pub rival : behind ≡ true → HasRival all es
  pub pairs : Pairs IsBefore es
  pub inside : (e : Entry) → In e es → In e all

module _ (all : List Entry) where
  pub reaches_all : Pairs IsBefore all → Reaches all false all
  reaches_all p = record { split = λ e i. inl i; fresh = λ h e i. inl i; rival = λ h. absurd (true≢false (sym h)); pairs = p; inside = λ e i. i }

  split_next : (c : Entry) (es : List Entry) → Each (IsBefore c) es → (e : Entry) → In e (c ∷ es) ⊎ Each (IsBefore e) (c ∷ es) → In e es ⊎ Each (IsBefore e) es
  split_next c es b e (inl (inl same)) = inr (subst (λ x. Each (IsBefore x) es) (sym same) b)
  split_next c es b e (inl (inr i)) = inl i
  split_next c es b e (inr h) = inr h.1

  fresh_next : (c : Entry) (es : List Entry) → Each (IsLess c) es → (e : Entry) → In e (c ∷ es) ⊎ Each (IsBefore e) (c ∷ es) → In e es ⊎ Each (IsLess e) es
  fresh_next c es b e (inl (inl same)) = inr (subst (λ x. Each (IsLess x) es) (sym same) b)
  fresh_next c es b e (inl (inr i)) = inl i
  fresh_next c es b e (inr h) = inr (each_from (IsLess e) es (λ x j. before_less e c x h.0 (each_in (IsLess c) es b x j)))

  rival_before : (c d : Entry) → In c all → is_eq (ordered c d) ≡ true → IsBefore c d → IsRival all d
  rival_before c d i h (less k) = absurd (true≢false (sym h ∙ ap is_eq k))
  rival_before c d i h (tied k q) = record { by = c; in_all = i; ties = k; beside = q }

  rival_next : (c : Entry) (es : List Entry) → In c all → Each (IsBefore c) es → goes_on (candidate c) (first es) ≡ true → HasRival all es
  rival_next c [] i b h = tt
  rival_next c (d ∷ ds) i b h = rival_before c d i h b.0

  pub reaches_next : (behind : Bool) (c : Entry) (es : List Entry) → Reaches all behind (c ∷ es) → Reaches all (goes_on (candidate c) (first es)) es
  reaches_next behind c es h = record {
    split = λ e i. split_next c es h.pairs.0 e (h.split e i);
    fresh = λ no e i. fresh_next c es (goes_on_less c es no h.pairs.0 h.pairs.1) e (h.split e i);
    rival = λ yes. rival_next c es (h.inside c (inl refl)) h.pairs.0 yes;
    pairs = h.pairs.1;
    inside = λ e i. h.inside e (inr i);
  }

-- ---- tests

pub one_or_none : {A : Type 0} (P : A → Type 0) (x : A) (r : Bool) → (r ≡ true → P x) → Each P (if r then x ∷ [] else [])
one_or_none P x true f = (f refl, tt)
one_or_none P x false f = tt

pub in_one : {A : Type 0} (x y : A) (r : Bool) → r ≡ true → y ≡ x → In y (if r then x ∷ [] else [])
in_one x y true h e = inl e
in_one x y false h e = absurd (true≢false (sym h))

pub is_no : (b : Bool) → not b ≡ true → b ≡ false
is_no true h = absurd (true≢false (sym h))
is_no false h = refl

pub no_is : (b : Bool) → b ≡ false → not b ≡ true
no_is true h = absurd (true≢false h)
no_is false h = refl

other_text : (xs ys : List ℕ) → bytes_eq xs ys ≡ false → xs ≢ ys
other_text xs ys h e = true≢false (sym ((bytes_eq-Decides xs ys).1 e) ∙ h)

no_text : (xs ys : List ℕ) (b : Bool) → bytes_eq xs ys ≡ b → xs ≢ ys → b ≡ false
no_text xs ys true h f = absurd (f ((bytes_eq-Decides xs ys).0 h))
no_text xs ys false h f = refl

pub a_method : (n : Member) → is_method n ≡ true → n ≡ method (as_method n)
a_method (field f) h = absurd (true≢false (sym h))
a_method (method m) h = refl

-- what a candidate is that stands out
pub record Stands (c : Entry) (next : Option (CandidateOf GoType)) : Type 0 where
  pub is_method : is_method c.member ≡ true
  pub once : c.source.way.twice ≡ false
  pub named : (as_method c.member).name ≢ codes "_"
  pub alone : has_rival (candidate c) next ≡ false

pub stands : (c : Entry) (next : Option (CandidateOf GoType)) → stands_out (candidate c) next ≡ true → Stands c next
stands c next h =
    let p = and_parts (is_method c.member && not c.source.way.twice) (not (bytes_eq (as_method c.member).name (codes "_")) && not (has_rival (candidate c) next)) h in
    let q = and_parts (is_method c.member) (not c.source.way.twice) p.0 in
    let r = and_parts (not (bytes_eq (as_method c.member).name (codes "_"))) (not (has_rival (candidate c) next)) p.1 in
    record {
      is_method = q.0;
      once = is_no c.source.way.twice q.1;
      named = other_text (as_method c.member).name (codes "_") (is_no (bytes_eq (as_method c.member).name (codes "_")) r.0);
      alone = is_no (has_rival (candidate c) next) r.1;
    }

pub stood : (c : Entry) (next : Option (CandidateOf GoType)) → Stands c next → stands_out (candidate c) next ≡ true
stood c next h =
    and_from (is_method c.member && not c.source.way.twice) (not (bytes_eq (as_method c.member).name (codes "_")) && not (has_rival (candidate c) next))
    (and_from (is_method c.member) (not c.source.way.twice) h.is_method (no_is c.source.way.twice h.once))
    (and_from (not (bytes_eq (as_method c.member).name (codes "_"))) (not (has_rival (candidate c) next))
    (no_is (bytes_eq (as_method c.member).name (codes "_")) (no_text (as_method c.member).name (codes "_") (bytes_eq (as_method c.member).name (codes "_")) refl h.named))
    (no_is (has_rival (candidate c) next) h.alone))
