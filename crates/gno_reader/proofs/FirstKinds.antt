-- Whether kinds begin a text, by what kinds they are.
use Rattle.std.proofs.Common.{◌≡◌, refl, sym, ℕ, Bool, true, false, ◌||◌, List, [], ◌∷◌, ◌++◌}
use Rattle.gno_grammar.specs.Sets.{member, within}
use Rattle.gno_grammar.specs.Readers.{begins}
use Rattle.gno_grammar.proofs.Sets.{member-append, within_member}
use Rattle.gno_scan.specs.declared.token.Token.{Token}
use Rattle.gno_rules.specs.Kinds.{code}

same_truth : (a b : Bool) → (a ≡ true → b ≡ true) → (b ≡ true → a ≡ true) → a ≡ b
same_truth true b f g = sym (f refl)
same_truth false true f g = g refl
same_truth false false f g = refl

-- the same kinds in another order
pub same_begins : (xs ys : List ℕ) → within xs ys ≡ true → within ys xs ≡ true → (ts : List Token) → begins code xs ts ≡ begins code ys ts
unfolding begins
same_begins xs ys w v [] = refl
same_begins xs ys w v (t ∷ ts) = same_truth (member (code t) xs) (member (code t) ys) (within_member (code t) xs ys w) (within_member (code t) ys xs v)

-- kinds, or others
pub either_begins : (xs ys : List ℕ) (ts : List Token) → begins code (xs ++ ys) ts ≡ (begins code xs ts || begins code ys ts)
unfolding begins
either_begins xs ys [] = refl
either_begins xs ys (t ∷ ts) = member-append (code t) xs ys
