-- Where elements stand in lists.
use Rattle.std.proofs.Common.{◌≡◌, refl, sym, ap, ◌∙◌, subst, ℕ, zero, suc, ◌+◌, ◌<◌, ◌≤◌, List, [], ◌∷◌, ◌++◌, Some, length, map, take, arith, inl, inr, rules}
use Rattle.std.specs.Prelude.{slice_get}
use Rattle.std.proofs.lemmas.Option.{same_Some}
use Rattle.gno_embedding.specs.Reaching.{AreDistinct, In, Rises, number_of}
use Rattle.gno_embedding.specs.declared.ways.Reached.{Reached}
use Rattle.gno_terms.specs.declared.term.TypeRef.{TypeRef}
use Rattle.gno_terms.specs.Lawful.{Each}

pub at_left : {A : Type 0} (xs ys : List A) (k : ℕ) → k < length xs → slice_get (xs ++ ys) k ≡ slice_get xs k
at_left [] ys k w = absurd (omega (arith, w))
at_left (x ∷ xs) ys zero w = refl
at_left (x ∷ xs) ys (suc k) w = at_left xs ys k (omega (arith, w))

pub at_right : {A : Type 0} (xs ys : List A) (k i : ℕ) → i ≡ length xs + k → slice_get (xs ++ ys) i ≡ slice_get ys k
at_right [] ys k i e = ap (slice_get ys) (omega (arith, e))
at_right (x ∷ xs) ys k zero e = absurd (omega (arith, e))
at_right (x ∷ xs) ys k (suc i) e = at_right xs ys k i (omega (arith, e))

pub unmapped : {A B : Type 0} (f : A → B) (xs : List A) (k : ℕ) (y : B) → slice_get (map f xs) k ≡ Some y → (x : A) × (slice_get xs k ≡ Some x) × (f x ≡ y)
unmapped f [] k y h = absurd (search (rules, h))
unmapped f (x ∷ xs) zero y h = (x, refl, same_Some (f x) y h)
unmapped f (x ∷ xs) (suc k) y h = unmapped f xs k y h

pub position : {A : Type 0} (xs : List A) (x : A) → In x xs → (k : ℕ) × (slice_get xs k ≡ Some x)
position [] x h = absurd h
position (y ∷ ys) x (inl e) = (0, ap Some (sym e))
position (y ∷ ys) x (inr h) = (let r = position ys x h in (suc r.0, r.1))

pub each_at : {A : Type 0} (P : A → Type 0) (xs : List A) (k : ℕ) (x : A) → Each P xs → slice_get xs k ≡ Some x → P x
each_at P [] k x p h = absurd (search (rules, h))
each_at P (y ∷ xs) zero x p h = subst P (same_Some y x h) p.0
each_at P (y ∷ xs) (suc k) x p h = each_at P xs k x p.1 h

pub in_take : (i : ℕ) (ts : List TypeRef) (t : TypeRef) → In t (take i ts) → (j : ℕ) × (j < i) × (slice_get ts j ≡ Some t)
in_take zero ts t h = absurd h
in_take (suc i) [] t h = absurd h
in_take (suc i) (u ∷ ts) t (inl e) = (0, omega arith, ap Some (sym e))
in_take (suc i) (u ∷ ts) t (inr h) = (let r = in_take i ts t h in (suc r.0, (let w = r.1 in omega (arith, w)), r.2))

-- a later one is not less deep
pub rises_at : (its : List Reached) → Rises its → (j k : ℕ) (a b : Reached) → slice_get its j ≡ Some a → slice_get its k ≡ Some b → j ≤ k → a.depth ≤ b.depth
rises_at [] r j k a b p q w = absurd (search (rules, p))
rises_at (x ∷ []) r (suc j) k a b p q w = absurd (search (rules, p))
rises_at (x ∷ []) r zero (suc k) a b p q w = absurd (search (rules, q))
rises_at (x ∷ []) r zero zero a b p q w = (let e : a.depth ≡ b.depth = ap (λ (z : Reached). z.depth) (same_Some a b (sym p ∙ q)) in omega (arith, e))
rises_at (x ∷ y ∷ its) r zero zero a b p q w = (let e : a.depth ≡ b.depth = ap (λ (z : Reached). z.depth) (same_Some a b (sym p ∙ q)) in omega (arith, e))
rises_at (x ∷ y ∷ its) r zero (suc k) a b p q w =
    let e : x.depth ≡ a.depth = ap (λ (z : Reached). z.depth) (same_Some x a p) in
    let more = rises_at (y ∷ its) r.1 zero k y b refl q (omega arith) in
    let here = r.0 in
    omega (arith, e, more, here)
rises_at (x ∷ y ∷ its) r (suc j) zero a b p q w = absurd (omega (arith, w))
rises_at (x ∷ y ∷ its) r (suc j) (suc k) a b p q w = rises_at (y ∷ its) r.1 j k a b p q (omega (arith, w))

in_numbers : (its : List Reached) (k : ℕ) (b : Reached) → slice_get its k ≡ Some b → In b.of (map number_of its)
in_numbers [] k b h = absurd (search (rules, h))
in_numbers (x ∷ its) zero b h = inl (ap (λ (z : Reached). z.of) (sym (same_Some x b h)))
in_numbers (x ∷ its) (suc k) b h = inr (in_numbers its k b h)

not_in : (x : Reached) (its : List Reached) (k : ℕ) (a b : Reached) → (In x.of (map number_of its) → ⊥) → x ≡ a → slice_get its k ≡ Some b → a.of ≡ b.of → ⊥
not_in x its k a b f e h same = f (subst (λ (t : TypeRef). In t (map number_of its)) (sym (ap (λ (z : Reached). z.of) e ∙ same)) (in_numbers its k b h))

-- no number stands twice
pub distinct_at : (its : List Reached) → AreDistinct (map number_of its) → (j k : ℕ) (a b : Reached) → slice_get its j ≡ Some a → slice_get its k ≡ Some b → a.of ≡ b.of → j ≡ k
distinct_at [] d j k a b p q e = absurd (search (rules, p))
distinct_at (x ∷ its) d zero zero a b p q e = refl
distinct_at (x ∷ its) d zero (suc k) a b p q e = absurd (not_in x its k a b d.0 (same_Some x a p) q e)
distinct_at (x ∷ its) d (suc j) zero a b p q e = absurd (not_in x its j b a d.0 (same_Some x b q) p (sym e))
distinct_at (x ∷ its) d (suc j) (suc k) a b p q e = ap suc (distinct_at its d.1 j k a b p q e)
