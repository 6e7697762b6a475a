-- Lists of which each two elements, in their order, are related; and what a sort by insertion keeps.
use Rattle.std.proofs.Common.{◌≡◌, refl, sym, ap, ◌∙◌, subst, Bool, true, false, if◌then◌else◌, List, [], ◌∷◌, ◌++◌, map, is_gt, inl, inr, Ordering, Less, Equal, Greater}
use Rattle.std.specs.Cmp.{IsTotalOrder, alike_right}
use Rattle.std.specs.Ordering.{ordering_reverse}
use Rattle.gno_embedding.specs.Reaching.{In}
use Rattle.gno_terms.specs.Lawful.{Each}
use Rattle.gno_terms.proofs.Each.{each_both}
use Rattle.gno_terms.proofs.Ordered.{inserted, in_order, Each-inserted, Each-in_order}
use Rattle.gno_terms.proofs.Parts.{Each-append, Each-weaken}

module _ {A : Type 0} where
  -- each element is related to all behind it
  abbrev pub Pairs : (A → A → Type 0) → List A → Type 0
  Pairs R [] = Unit {0}
  Pairs R (x ∷ xs) = Each (R x) xs × Pairs R xs

  pub pairs_append : (R : A → A → Type 0) (xs ys : List A) → Pairs R xs → Pairs R ys → Each (λ x. Each (R x) ys) xs → Pairs R (xs ++ ys)
  pairs_append R [] ys p q h = q
  pairs_append R (x ∷ xs) ys p q h = (Each-append (R x) xs ys p.0 h.0, pairs_append R xs ys p.1 q h.1)

  pub each_in : (P : A → Type 0) (xs : List A) → Each P xs → (x : A) → In x xs → P x
  each_in P [] h x i = elim i [ ]
  each_in P (y ∷ ys) h x (inl e) = subst P (sym e) h.0
  each_in P (y ∷ ys) h x (inr i) = each_in P ys h.1 x i

  pub each_from : (P : A → Type 0) (xs : List A) → ((x : A) → In x xs → P x) → Each P xs
  each_from P [] f = tt
  each_from P (x ∷ xs) f = (f x (inl refl), each_from P xs (λ y i. f y (inr i)))

  pub in_left : (x : A) (xs ys : List A) → In x xs → In x (xs ++ ys)
  in_left x [] ys i = elim i [ ]
  in_left x (y ∷ xs) ys (inl e) = inl e
  in_left x (y ∷ xs) ys (inr i) = inr (in_left x xs ys i)

  pub in_right : (x : A) (xs ys : List A) → In x ys → In x (xs ++ ys)
  in_right x [] ys i = i
  in_right x (y ∷ xs) ys i = inr (in_right x xs ys i)

module _ {A : Type 0} (R : A → A → Ordering) where
  in_put : (x z : A) (ys : List A) (b : Bool) → (In z (x ∷ ys) → In z (inserted R x ys)) → (y : A) → In z (x ∷ y ∷ ys) → In z (if b then y ∷ inserted R x ys else x ∷ y ∷ ys)
  in_put x z ys true f y (inl e) = inr (f (inl e))
  in_put x z ys true f y (inr (inl e)) = inl e
  in_put x z ys true f y (inr (inr i)) = inr (f (inr i))
  in_put x z ys false f y i = i

  in_inserted : (x z : A) (ys : List A) → In z (x ∷ ys) → In z (inserted R x ys)
  in_inserted x z [] i = i
  in_inserted x z (y ∷ ys) i = in_put x z ys (is_gt (R x y)) (in_inserted x z ys) y i

  in_either : (x z : A) (xs ys : List A) → (In z xs → In z ys) → In z (x ∷ xs) → In z (x ∷ ys)
  in_either x z xs ys f (inl e) = inl e
  in_either x z xs ys f (inr i) = inr (f i)

  pub in_in_order : (z : A) (xs : List A) → In z xs → In z (in_order R xs)
  in_in_order z [] i = elim i [ ]
  in_in_order z (x ∷ xs) i = in_inserted x z (in_order R xs) (in_either x z xs (in_order R xs) (in_in_order z xs) i)

  -- less, or a tie of related elements
  pub data Before (Q : A → A → Type 0) (x y : A) : Type 0 where
    less : R x y ≡ Less → Before Q x y
    tied : R x y ≡ Equal → Q x y → Before Q x y

  module _ (o : IsTotalOrder R) (Q : A → A → Type 0) where
    turned : (r s : Ordering) → s ≡ ordering_reverse r → r ≡ Greater → s ≡ Less
    turned r s e f = e ∙ ap ordering_reverse f

    behind_less : (x y z : A) → R x y ≡ Less → Before Q y z → Before Q x z
    behind_less x y z e (less f) = less (o.trans x y z e f)
    behind_less x y z e (tied f q) = less (sym (alike_right o y z x f) ∙ e)

    behind_tied : (x y z : A) → R x y ≡ Equal → Q x z → Before Q y z → Before Q x z
    behind_tied x y z e q (less f) = less (o.congr x y z e ∙ f)
    behind_tied x y z e q (tied f p) = tied (o.congr x y z e ∙ f) q

    inserted_pairs : (x : A) (ys : List A) → Each (Q x) ys → Pairs (Before Q) ys → Pairs (Before Q) (inserted R x ys)
    inserted_pairs x [] h p = (tt, tt)
    inserted_pairs x (y ∷ ys) h p = go (R x y) refl (inserted_pairs x ys h.1 p.1)
      where
        go : (r : Ordering) → R x y ≡ r → Pairs (Before Q) (inserted R x ys) → Pairs (Before Q) (if is_gt r then y ∷ inserted R x ys else x ∷ y ∷ ys)
        go Less e k = ((less e, Each-weaken (Before Q y) (Before Q x) (λ z b. behind_less x y z e b) ys p.0), p)
        go Equal e k = ((tied e h.0, Each-weaken (λ z. Q x z × Before Q y z) (Before Q x) (λ z b. behind_tied x y z e b.0 b.1) ys (each_both (Q x) (Before Q y) ys h.1 p.0)), p)
        go Greater e k = (Each-inserted R (Before Q y) x ys (less (turned (R x y) (R y x) (o.antisymm y x) e)) p.0, k)

    -- a sort keeps how those that tie are related
    pub in_order_pairs : (xs : List A) → Pairs Q xs → Pairs (Before Q) (in_order R xs)
    in_order_pairs [] p = tt
    in_order_pairs (x ∷ xs) p = inserted_pairs x (in_order R xs) (Each-in_order R (Q x) xs p.0) (in_order_pairs xs p.1)

-- a sort goes through a function
module _ {A B : Type 0} (R : B → B → Ordering) (f : A → B) where
  abbrev through : A → A → Ordering
  through x y = R (f x) (f y)

  map_choice : (b : Bool) (us vs : List A) → (if b then map f us else map f vs) ≡ map f (if b then us else vs)
  map_choice true us vs = refl
  map_choice false us vs = refl

  inserted_map : (x : A) (ys : List A) → inserted R (f x) (map f ys) ≡ map f (inserted through x ys)
  inserted_map x [] = refl
  inserted_map x (y ∷ ys) =
      ap (λ us. if is_gt (R (f x) (f y)) then f y ∷ us else f x ∷ f y ∷ map f ys) (inserted_map x ys)
      ∙ map_choice (is_gt (R (f x) (f y))) (y ∷ inserted through x ys) (x ∷ y ∷ ys)

  pub in_order_map : (xs : List A) → in_order R (map f xs) ≡ map f (in_order through xs)
  in_order_map [] = refl
  in_order_map (x ∷ xs) = ap (inserted R (f x)) (in_order_map xs) ∙ inserted_map x (in_order through xs)
