-- Methods in byte order, each name once.
use Rattle.std.proofs.Common.{◌≡◌, refl, sym, ap, ◌∙◌, subst, ℕ, zero, suc, ◌+◌, ◌<◌, ◌≤◌, List, [], ◌∷◌, length, map, get_or, Bool, true, false, Some, None, Option, Result, Ok, Err, IfOk, IfErr, rules, arith, inl, inr}
use Rattle.std.specs.Prelude.{slice_get}
use Rattle.std.specs.List.{HoldsAt}
use Rattle.std.specs.List.Sorted.{IsBinarySearchResult, IsSearchInRange, IsSortedBy, IsPartitionPoint}
use Rattle.std.specs.Ordering.{is_lt, is_eq, is_gt, ordering_reverse}
use Rattle.std.specs.declared.cmp.Ordering.{Ordering}
use Rattle.std.specs.declared.cmp.Ordering.TheVariants.{Less, Equal, Greater}
use Rattle.std.proofs.lemmas.Bool.{cases_lt}
use Rattle.std.proofs.lemmas.Cmp.{alike_right, tied_back}
use Rattle.gno_method_sets.specs.Receiving.{HasLike, receives}
use Rattle.std.proofs.lemmas.List.Sorted.{searchable_from_sorted}
use Rattle.gno_embedding.specs.Reaching.{In}
use Rattle.gno_promotion.specs.MethodSets.{Ascend, method_in}
use Rattle.gno_promotion.specs.declared.found.PromotedOf.{PromotedOf}
use Rattle.gno_terms.proofs.NormalTerms.{by_name_total}
use Rattle.gno_terms.specs.Normal.{by_name}
use Rattle.gno_terms.specs.declared.term.MethodOf.{MethodOf}
use Rattle.gno_terms.specs.declared.term.TypeRef.{TypeRef}

less : (r : Ordering) → is_lt r ≡ true → r ≡ Less
less Less e = refl
less Equal e = absurd (search (rules, e))
less Greater e = absurd (search (rules, e))

not_equal : (r : Ordering) → r ≡ Less → r ≡ Equal → ⊥
not_equal r e f = search (rules, sym e ∙ f)

module _ {A : Type 0} where
  abbrev compare : PromotedOf A → PromotedOf A → Ordering
  compare p q = by_name p.method q.method

  -- the first stands before each other
  pub before_all : (p : PromotedOf A) (ps : List (PromotedOf A)) → Ascend (map method_in (p ∷ ps)) → (q : PromotedOf A) → In q ps → compare p q ≡ Less
  before_all p [] h q i = elim i [ ]
  before_all p (n ∷ ps) h q (inl e) = subst (λ (x : PromotedOf A). compare p x ≡ Less) (sym e) (less _ h.0)
  before_all p (n ∷ ps) h q (inr i) = by_name_total.trans p.method n.method q.method (less _ h.0) (before_all n ps h.1 q i)

  pub rest_ascends : (p : PromotedOf A) (ps : List (PromotedOf A)) → Ascend (map method_in (p ∷ ps)) → Ascend (map method_in ps)
  rest_ascends p [] h = tt
  rest_ascends p (n ∷ ps) h = h.1

  -- each name stands once
  pub one_of_name : (ps : List (PromotedOf A)) → Ascend (map method_in ps) → (p q : PromotedOf A) → In p ps → In q ps → compare p q ≡ Equal → p ≡ q
  one_of_name [] h p q i j e = elim i [ ]
  one_of_name (x ∷ ps) h p q (inl i) (inl j) e = i ∙ sym j
  one_of_name (x ∷ ps) h p q (inl i) (inr j) e = absurd (not_equal _ (subst (λ (y : PromotedOf A). compare y q ≡ Less) (sym i) (before_all x ps h q j)) e)
  one_of_name (x ∷ ps) h p q (inr i) (inl j) e = absurd (not_equal _ (subst (λ (y : PromotedOf A). compare y p ≡ Less) (sym j) (before_all x ps h p i)) (by_name_total.antisymm q.method p.method ∙ ap ordering_reverse e))
  one_of_name (x ∷ ps) h p q (inr i) (inr j) e = one_of_name ps (rest_ascends x ps h) p q i j e

  next_before : (ps : List (PromotedOf A)) → Ascend (map method_in ps) → (k : ℕ) (d : PromotedOf A) → suc k < length ps → compare (get_or ps k d) (get_or ps (suc k) d) ≡ Less
  next_before [] h k d lt = absurd (omega (arith, lt))
  next_before (p ∷ []) h k d lt = absurd (omega (arith, lt))
  next_before (p ∷ q ∷ ps) h zero d lt = less _ h.0
  next_before (p ∷ q ∷ ps) h (suc k) d lt = next_before (q ∷ ps) h.1 k d (omega (arith, lt))

  turned : (p q : PromotedOf A) → compare p q ≡ Less → is_lt (compare q p) ≡ false
  turned p q e = ap is_lt (by_name_total.antisymm q.method p.method ∙ ap ordering_reverse e)

  sorted : (ps : List (PromotedOf A)) → Ascend (map method_in ps) → IsSortedBy (λ p q. is_lt (compare p q)) ps
  sorted ps h k d low lt = subst (λ (n : ℕ). is_lt (compare (get_or ps n d) (get_or ps k d)) ≡ false) {x = suc k} {y = k + 1} (omega arith)
      (turned (get_or ps k d) (get_or ps (suc k) d) (next_before ps h k d (omega (arith, lt))))

  -- where an element stands
  pub placed_at : (ps : List (PromotedOf A)) (p : PromotedOf A) → In p ps → (k : ℕ) × (k < length ps) × ((d : PromotedOf A) → get_or ps k d ≡ p)
  placed_at [] p i = elim i [ ]
  placed_at (x ∷ ps) p (inl e) = (zero, omega arith, λ d. sym e)
  placed_at (x ∷ ps) p (inr i) = let it = placed_at ps p i in (suc it.0, omega (arith, it.1), λ d. it.2 d)

  pub get_at : (ps : List (PromotedOf A)) (k : ℕ) → k < length ps → (p : PromotedOf A) × (slice_get ps k ≡ Some p) × ((d : PromotedOf A) → get_or ps k d ≡ p)
  get_at [] k lt = absurd (omega (arith, lt))
  get_at (x ∷ ps) zero lt = (x, refl, λ d. refl)
  get_at (x ∷ ps) (suc k) lt = get_at ps k (omega (arith, lt))

  pub in_at : (ps : List (PromotedOf A)) (k : ℕ) (p : PromotedOf A) → slice_get ps k ≡ Some p → In p ps
  in_at [] k p e = absurd (search (rules, e))
  in_at (x ∷ ps) zero p e = inl (search (rules, e))
  in_at (x ∷ ps) (suc k) p e = inr (in_at ps k p e)

  module _ (ps : List (PromotedOf A)) (h : Ascend (map method_in ps)) (w : MethodOf A) where
    abbrev ranks : PromotedOf A → Ordering
    ranks p = by_name p.method w

    pub found : (r : Result ℕ ℕ) → IsSearchInRange r (length ps) → IsBinarySearchResult ranks ps r → IfOk r (λ at. (p : PromotedOf A) × (slice_get ps at ≡ Some p) × (ranks p ≡ Equal))
    found (Ok at) lt e = let it = get_at ps at lt in (it.0, it.1, subst (λ (p : PromotedOf A). ranks p ≡ Equal) (it.2 it.0) (e it.0))
    found (Err at) lt e = tt

    missed : (at : ℕ) → IsPartitionPoint (λ p. ranks p ≡ Less) (λ p. ranks p ≡ Greater) ps at → (p : PromotedOf A) → In p ps → ranks p ≡ Equal → ⊥
    missed at parts p i e =
        let it = placed_at ps p i in
        elim (cases_lt it.0 at) [
          | inl lt ↦ search (rules, sym (subst (λ (x : PromotedOf A). ranks x ≡ Less) (it.2 p) (parts.0 it.0 p (omega arith) lt)) ∙ e)
          | inr le ↦ search (rules, sym (subst (λ (x : PromotedOf A). ranks x ≡ Greater) (it.2 p) (parts.1 it.0 p le it.1)) ∙ e)
        ]

    pub absent : (r : Result ℕ ℕ) → IsSearchInRange r (length ps) → IsBinarySearchResult ranks ps r → IfErr r (λ at. (p : PromotedOf A) → In p ps → ranks p ≡ Equal → ⊥)
    absent (Ok at) lt e = tt
    absent (Err at) lt e = missed at (e (searchable_from_sorted by_name_total method_in ps w (sorted ps h)))

-- an element by its place, and with a default
pub got : (ps : List (PromotedOf TypeRef)) (k : ℕ) (p d : PromotedOf TypeRef) → slice_get ps k ≡ Some p → d ≡ get_or ps k d → p ≡ d
got [] k p d e f = absurd (search (rules, e))
got (x ∷ ps) zero p d e f = first p x e ∙ sym f
  where
    some_or : PromotedOf TypeRef → Option (PromotedOf TypeRef) → PromotedOf TypeRef
    some_or y None = y
    some_or y (Some z) = z

    first : (p x : PromotedOf TypeRef) → Some x ≡ Some p → p ≡ x
    first p x e = sym (ap (some_or x) e)
got (x ∷ ps) (suc k) p d e f = got ps k p d e f

module _ (pointer : Bool) (ps : List (PromotedOf TypeRef)) (w : MethodOf TypeRef) where
  pub like : (at : ℕ) (p : PromotedOf TypeRef) → slice_get ps at ≡ Some p → by_name p.method w ≡ Equal → p.method.of ≡ w.of → receives pointer p ≡ true → HasLike pointer ps w
  like at p i e of r = record { promoted = p; in_them = in_at ps at p i; named = e; of = of; received = r }

  pub only : Ascend (map method_in ps) → (at : ℕ) (p : PromotedOf TypeRef) → slice_get ps at ≡ Some p → by_name p.method w ≡ Equal → (h : HasLike pointer ps w) → h.promoted ≡ p
  only up at p i e h = one_of_name ps up h.promoted p h.in_them (in_at ps at p i)
      (alike_right by_name_total p.method w h.promoted.method e ∙ h.named)
