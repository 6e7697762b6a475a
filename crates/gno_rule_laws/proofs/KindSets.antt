-- Sets of kinds: what is within one that is apart from a third is apart from it too.
use Rattle.std.proofs.Common.{◌≡◌, refl, sym, ◌∙◌, ℕ, Bool, true, false, not, ◌&&◌, List, [], ◌∷◌, true≢false}
use Rattle.gno_grammar.specs.Sets.{member, disjoint, within}
use Rattle.gno_grammar.proofs.Sets.{and_both, not_true, member_not, within_member}

and_of : (a b : Bool) → a ≡ true → b ≡ true → (a && b) ≡ true
and_of true b e f = f
and_of false b e f = e

not_of : (a : Bool) → a ≡ false → not a ≡ true
not_of true e = sym e
not_of false e = refl

pub apart_none : (xs : List ℕ) → disjoint xs [] ≡ true
unfolding member disjoint
apart_none [] = refl
apart_none (x ∷ xs) = apart_none xs

pub apart_left : (xs ys zs : List ℕ) → within xs ys ≡ true → disjoint ys zs ≡ true → disjoint xs zs ≡ true
unfolding disjoint within
apart_left [] ys zs w d = refl
apart_left (x ∷ xs) ys zs w d =
    let both = and_both _ _ w in
    and_of _ _ (not_of _ (member_not x ys zs d both.0)) (apart_left xs ys zs both.1 d)

pub apart_right : (xs ys zs : List ℕ) → disjoint xs ys ≡ true → within zs ys ≡ true → disjoint xs zs ≡ true
unfolding disjoint
apart_right [] ys zs d w = refl
apart_right (x ∷ xs) ys zs d w =
    let both = and_both _ _ d in
    and_of _ _ (not_of _ (go (member x zs) refl (not_true _ both.0))) (apart_right xs ys zs both.1 w)
  where
    go : (b : Bool) → member x zs ≡ b → member x ys ≡ false → member x zs ≡ false
    go true e n = absurd (true≢false (sym (within_member x zs ys w e) ∙ n))
    go false e n = e

pub within_trans : (xs ys zs : List ℕ) → within xs ys ≡ true → within ys zs ≡ true → within xs zs ≡ true
unfolding within
within_trans [] ys zs w v = refl
within_trans (x ∷ xs) ys zs w v =
    let both = and_both _ _ w in
    and_of _ _ (within_member x ys zs v both.0) (within_trans xs ys zs both.1 v)
