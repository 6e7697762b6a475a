-- Sorted lists: those with the same sublists of ties are equal, and the sort by insertion gives one.
use Rattle.std.proofs.Common.{◌≡◌, refl, sym, ap, ap₂, ◌∙◌, subst, ℕ, suc, ◌+◌, ◌<◌, Bool, true, false, true≢false, not, ◌&&◌, cond, if◌then◌else◌, List, [], ◌∷◌, length, get_or, filter, is_lt, is_gt, IsSortedBy, Ordering, Less, Equal, Greater, arith}
use Rattle.std.specs.Cmp.{IsTotalOrder, IsStrictWeakOrder, first_so, second_so}
use Rattle.std.specs.List.Sorted.{ties, IsStableBy}
use Rattle.std.specs.Ordering.{ordering_reverse}
use Rattle.std.proofs.lemmas.Cmp.{upto}
use Rattle.std.proofs.lemmas.List.Sorted.{ranks_by, sorted_far}
use Rattle.gno_terms.specs.Lawful.{Each}
use Rattle.gno_terms.proofs.Parts.{Each-weaken}

module _ {X : Type 0} where
  -- no element is less than one before it
  abbrev pub Rises : (X → X → Bool) → List X → Type 0
  Rises lt [] = Unit {0}
  Rises lt (x ∷ xs) = Each (λ y. lt y x ≡ false) xs × Rises lt xs

  each_from_index : (P : X → Type 0) (xs : List X) → ((k : ℕ) (d : X) → k < length xs → P (get_or xs k d)) → Each P xs
  each_from_index P [] f = tt
  each_from_index P (x ∷ xs) f = (f 0 x (omega arith), each_from_index P xs (λ k d h. f (suc k) d (omega arith)))

  pub rises_from_sorted : (lt : X → X → Bool) → IsStrictWeakOrder lt → (xs : List X) → IsSortedBy lt xs → Rises lt xs
  rises_from_sorted lt o [] s = tt
  rises_from_sorted lt o (x ∷ xs) s = (
    each_from_index (λ y. lt y x ≡ false) xs (λ k d h. sorted_far lt o (x ∷ xs) s 0 (suc k) d (omega arith) (omega arith)),
    rises_from_sorted lt o xs (λ k d l h. let e : suc (k + 1) ≡ suc k + 1 = omega arith in subst (λ n. lt (get_or (x ∷ xs) n d) (get_or xs k d) ≡ false) (sym e) (s (suc k) d (omega arith) (omega arith))),
  )

  -- ---- lists that rise and have the same sublists of ties

  first_of_filter : (P : X → Type 0) (test : X → Bool) (x : X) (xs : List X) (rest : List X) → filter test xs ≡ x ∷ rest → Each P xs → P x
  first_of_filter P test x [] rest e h = absurd (cc)
  first_of_filter P test x (y ∷ ys) rest e h = go (test y) e (λ k. first_of_filter P test x ys rest k h.1)
    where
      go : (b : Bool) → cond b (y ∷ filter test ys) (filter test ys) ≡ x ∷ rest → (filter test ys ≡ x ∷ rest → P x) → P x
      go true e f = let same : y ≡ x = cc in subst P same h.0
      go false e f = f e

module _ {X : Type 0} (lt : X → X → Bool) (itself : (x : X) → lt x x ≡ false) where
  tied_itself : (x : X) → ties lt x x ≡ true
  tied_itself x = ap (λ b. not b && not b) (itself x)

  kept_first : (x : X) (xs : List X) → filter (ties lt x) (x ∷ xs) ≡ x ∷ filter (ties lt x) xs
  kept_first x xs = ap (λ b. cond b (x ∷ filter (ties lt x) xs) (filter (ties lt x) xs)) (tied_itself x)

  tied : (x y : X) → lt x y ≡ false → lt y x ≡ false → ties lt x y ≡ true
  tied x y e f = ap₂ (λ a b. not a && not b) e f

  rest_same : (b : Bool) (x : X) (us vs : List X) → cond b (x ∷ us) us ≡ cond b (x ∷ vs) vs → us ≡ vs
  rest_same true x us vs e = cc
  rest_same false x us vs e = e

  pub rising_same : (xs ys : List X) → Rises lt xs → Rises lt ys → IsStableBy lt xs ys → ys ≡ xs
  rising_same [] [] r s same = refl
  rising_same [] (y ∷ ys) r s same = let e : y ∷ filter (ties lt y) ys ≡ [] = sym (kept_first y ys) ∙ same y in absurd (cc)
  rising_same (x ∷ xs) [] r s same = let e : [] ≡ x ∷ filter (ties lt x) xs = same x ∙ kept_first x xs in absurd (cc)
  rising_same (x ∷ xs) (y ∷ ys) r s same = ap₂ (λ z zs. z ∷ zs) head (rising_same xs ys r.1 s.1 rest)
    where
      at_x : filter (ties lt x) (y ∷ ys) ≡ x ∷ filter (ties lt x) xs
      at_x = same x ∙ kept_first x xs

      at_y : filter (ties lt y) (x ∷ xs) ≡ y ∷ filter (ties lt y) ys
      at_y = sym (same y) ∙ kept_first y ys

      not_below : lt x y ≡ false
      not_below = first_of_filter (λ z. lt z y ≡ false) (ties lt x) x (y ∷ ys) (filter (ties lt x) xs) at_x (itself y, s.0)

      not_above : lt y x ≡ false
      not_above = first_of_filter (λ z. lt z x ≡ false) (ties lt y) y (x ∷ xs) (filter (ties lt y) ys) at_y (itself x, r.0)

      head : y ≡ x
      head = let e : y ∷ filter (ties lt x) ys ≡ x ∷ filter (ties lt x) xs = ap (λ b. cond b (y ∷ filter (ties lt x) ys) (filter (ties lt x) ys)) (sym (tied x y not_below not_above)) ∙ at_x in cc

      rest : (z : X) → filter (ties lt z) ys ≡ filter (ties lt z) xs
      rest z = rest_same (ties lt z x) x (filter (ties lt z) ys) (filter (ties lt z) xs)
          (subst (λ w. cond (ties lt z w) (w ∷ filter (ties lt z) ys) (filter (ties lt z) ys) ≡ cond (ties lt z x) (x ∷ filter (ties lt z) xs) (filter (ties lt z) xs)) head (same z))

-- ---- the sort by insertion

module _ {X : Type 0} (R : X → X → Ordering) where
  abbrev below : X → X → Bool
  below x y = is_lt (R x y)

  -- before the first that it does not stand behind
  abbrev pub inserted : X → List X → List X
  inserted x [] = x ∷ []
  inserted x (y ∷ ys) = if is_gt (R x y) then y ∷ inserted x ys else x ∷ y ∷ ys

  abbrev pub in_order : List X → List X
  in_order [] = []
  in_order (x ∷ xs) = inserted x (in_order xs)

  pub Each-inserted : (P : X → Type 0) (x : X) (ys : List X) → P x → Each P ys → Each P (inserted x ys)
  Each-inserted P x [] p h = (p, tt)
  Each-inserted P x (y ∷ ys) p h = go (is_gt (R x y)) (Each-inserted P x ys p h.1)
    where
      go : (b : Bool) → Each P (inserted x ys) → Each P (if b then y ∷ inserted x ys else x ∷ y ∷ ys)
      go true k = (h.0, k)
      go false k = (p, h)

  pub Each-in_order : (P : X → Type 0) (xs : List X) → Each P xs → Each P (in_order xs)
  Each-in_order P [] h = tt
  Each-in_order P (x ∷ xs) h = Each-inserted P x (in_order xs) h.0 (Each-in_order P xs h.1)

  module _ (o : IsTotalOrder R) where
    turned_gt : (r : Ordering) → is_gt (ordering_reverse r) ≡ is_lt r
    turned_gt Less = refl
    turned_gt Equal = refl
    turned_gt Greater = refl

    lt_back : (x y : X) → is_lt (R y x) ≡ is_gt (R x y)
    lt_back x y = sym (ap is_gt (o.antisymm x y) ∙ turned_gt (R y x))

    no_less : (r : Ordering) → is_gt r ≡ true → is_lt r ≡ false
    no_less Less e = absurd (true≢false (sym e))
    no_less Equal e = refl
    no_less Greater e = refl

    order : IsStrictWeakOrder below
    order = ranks_by o (λ x. x)

    own : (x : X) → below x x ≡ false
    own x = go (below x x) refl
      where
        go : (b : Bool) → below x x ≡ b → b ≡ false
        go true e = sym e ∙ order.one_way x x e
        go false e = refl

    before_all : (x y : X) (ys : List X) → is_gt (R x y) ≡ false → Each (λ z. below z y ≡ false) ys → Each (λ z. below z x ≡ false) ys
    before_all x y ys e = Each-weaken (λ z. below z y ≡ false) (λ z. below z x ≡ false)
        (λ z h. lt_back x z ∙ upto o x y z e (sym (lt_back y z) ∙ h)) ys

    inserted_rises : (x : X) (ys : List X) → Rises below ys → Rises below (inserted x ys)
    inserted_rises x [] r = (tt, tt)
    inserted_rises x (y ∷ ys) r = go (is_gt (R x y)) refl (inserted_rises x ys r.1)
      where
        go : (b : Bool) → is_gt (R x y) ≡ b → Rises below (inserted x ys) → Rises below (if b then y ∷ inserted x ys else x ∷ y ∷ ys)
        go true e k = (Each-inserted (λ z. below z y ≡ false) x ys (no_less (R x y) e) r.0, k)
        go false e k = ((lt_back x y ∙ e, before_all x y ys e r.0), r)

    pub in_order_rises : (xs : List X) → Rises below (in_order xs)
    in_order_rises [] = tt
    in_order_rises (x ∷ xs) = inserted_rises x (in_order xs) (in_order_rises xs)

    -- what rises is in order already
    pub inserted_first : (x : X) (ys : List X) → Each (λ z. below z x ≡ false) ys → inserted x ys ≡ x ∷ ys
    inserted_first x [] h = refl
    inserted_first x (y ∷ ys) h = ap (λ b. if b then y ∷ inserted x ys else x ∷ y ∷ ys) (sym (lt_back x y) ∙ h.0)

    pub in_order_same : (xs : List X) → Rises below xs → in_order xs ≡ xs
    in_order_same [] r = refl
    in_order_same (x ∷ xs) r = ap (inserted x) (in_order_same xs r.1) ∙ inserted_first x xs r.0

    never : (b : Bool) → not b ≡ true → b ≡ false
    never true e = sym e
    never false e = refl

    -- of two that tie with a third, none stands behind the other
    tied_less : (z x y : X) → ties below z x ≡ true → ties below z y ≡ true → is_gt (R x y) ≡ true → ⊥
    tied_less z x y s t e =
        let f : below y z ≡ false = never (below y z) (second_so (not (below z y)) (not (below y z)) t) in
        let g : below z x ≡ false = never (below z x) (first_so (not (below z x)) (not (below x z)) s) in
        true≢false (sym e ∙ sym (lt_back x y) ∙ order.chain y z x f g)

    passed : (a b : Bool) (x y : X) (us : List X) → (a ≡ true → b ≡ true → ⊥) → cond b (y ∷ cond a (x ∷ us) us) (cond a (x ∷ us) us) ≡ cond a (x ∷ cond b (y ∷ us) us) (cond b (y ∷ us) us)
    passed true true x y us f = absurd (f refl refl)
    passed true false x y us f = refl
    passed false true x y us f = refl
    passed false false x y us f = refl

    inserted_stable : (x : X) (ys : List X) → IsStableBy below (x ∷ ys) (inserted x ys)
    inserted_stable x [] z = refl
    inserted_stable x (y ∷ ys) z = go (is_gt (R x y)) refl (inserted_stable x ys z)
      where
        go : (b : Bool) → is_gt (R x y) ≡ b → filter (ties below z) (inserted x ys) ≡ filter (ties below z) (x ∷ ys) → filter (ties below z) (if b then y ∷ inserted x ys else x ∷ y ∷ ys) ≡ filter (ties below z) (x ∷ y ∷ ys)
        go true e k = ap (λ us. cond (ties below z y) (y ∷ us) us) k
            ∙ passed (ties below z x) (ties below z y) x y (filter (ties below z) ys) (λ s t. tied_less z x y s t e)
        go false e k = refl

    pub in_order_stable : (xs : List X) → IsStableBy below xs (in_order xs)
    in_order_stable [] z = refl
    in_order_stable (x ∷ xs) z = inserted_stable x (in_order xs) z ∙ ap (λ us. cond (ties below z x) (x ∷ us) us) (in_order_stable xs z)

    -- a stable sort is the sort by insertion
    pub in_order_is : (xs ys : List X) → IsSortedBy below ys → IsStableBy below xs ys → ys ≡ in_order xs
    in_order_is xs ys s t = rising_same below own (in_order xs) ys (in_order_rises xs) (rises_from_sorted below order ys s) (λ z. t z ∙ sym (in_order_stable xs z))
