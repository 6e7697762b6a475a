-- Facts of truth values and of sets of kinds.
use Rattle.std.proofs.Common.{◌≡◌, refl, sym, ap, ◌∙◌, subst, ℕ, Bool, true, false, not, ◌||◌, ◌&&◌, ◌==◌, List, [], ◌∷◌, ◌++◌, true≢false}
use borrow.Author.Tests.{eqb-true}
use Rattle.gno_grammar.specs.Sets.{member, disjoint, within}

pub and_both : (a b : Bool) → (a && b) ≡ true → (a ≡ true) × (b ≡ true)
and_both true b e = (refl, e)
and_both false b e = absurd (true≢false (sym e))

pub or_none : (a b : Bool) → (a || b) ≡ false → (a ≡ false) × (b ≡ false)
or_none true b e = absurd (true≢false e)
or_none false b e = (refl, e)

pub not_true : (a : Bool) → not a ≡ true → a ≡ false
not_true true e = absurd (true≢false (sym e))
not_true false e = refl

pub not_false : (a : Bool) → not a ≡ false → a ≡ true
not_false true e = refl
not_false false e = absurd (true≢false e)

or_assoc : (a b c : Bool) → (a || (b || c)) ≡ ((a || b) || c)
or_assoc true b c = refl
or_assoc false b c = refl

pub member-append : (k : ℕ) (xs ys : List ℕ) → member k (xs ++ ys) ≡ (member k xs || member k ys)
unfolding member
member-append k [] ys = refl
member-append k (x ∷ xs) ys = ap (λ b. (k == x) || b) (member-append k xs ys) ∙ or_assoc (k == x) (member k xs) (member k ys)

pub member_not : (x : ℕ) (xs ys : List ℕ) → disjoint xs ys ≡ true → member x xs ≡ true → member x ys ≡ false
unfolding member disjoint
member_not x [] ys d m = absurd (true≢false (sym m))
member_not x (z ∷ zs) ys d m =
    let both = and_both _ _ d in
    go (x == z) refl m (not_true _ both.0) (member_not x zs ys both.1)
  where
    go : (b : Bool) → (x == z) ≡ b → (b || member x zs) ≡ true → member z ys ≡ false → (member x zs ≡ true → member x ys ≡ false) → member x ys ≡ false
    go true e h n more = subst (λ k. member k ys ≡ false) (sym (eqb-true x z e)) n
    go false e h n more = more h

pub within_member : (k : ℕ) (xs ys : List ℕ) → within xs ys ≡ true → member k xs ≡ true → member k ys ≡ true
unfolding member within
within_member k [] ys w e = absurd (true≢false (sym e))
within_member k (x ∷ xs) ys w e =
    let both = and_both _ _ w in
    go (k == x) refl e both.0 (within_member k xs ys both.1)
  where
    go : (b : Bool) → (k == x) ≡ b → (b || member k xs) ≡ true → member x ys ≡ true → (member k xs ≡ true → member k ys ≡ true) → member k ys ≡ true
    go true e h n more = subst (λ k. member k ys ≡ true) (sym (eqb-true k x e)) n
    go false e h n more = more h
