-- Facts over the finite enums that the sets of kinds depend on, computed at all cases at once; and facts of those sets.
use Rattle.std.proofs.Common.{◌≡◌, refl, sym, ℕ, Bool, true, false, not, ◌&&◌, ◌||◌, ◌==◌, List, [], ◌∷◌, Option, Some, None, true≢false}
use borrow.Author.Tests.{eq-eqb}
use Rattle.gno_grammar.specs.Sets.{member, disjoint, within}
use Rattle.gno_grammar.specs.Readers.{null, first}
use Rattle.gno_grammar.specs.Deciding.{quiet_after, most, more, Sound}
use Rattle.gno_grammar.proofs.Sets.{and_both, within_member}
use Rattle.gno_rules.specs.Parts.{P, to, given}
use Rattle.gno_rules.specs.Table.{grammar}
use Rattle.gno_rules.specs.declared.expression.Place.{Place}
use Rattle.gno_rules.specs.declared.expression.Place.TheVariants.{Plain, Header, Guard}
use Rattle.gno_rules.specs.declared.expression.Shape.{Shape}
use Rattle.gno_rules.specs.declared.expression.Shape.TheVariants as s
use Rattle.gno_rules.specs.declared.types.TypeEnd.{TypeEnd}
use Rattle.gno_rules.specs.declared.types.TypeEnd.TheVariants.{Closed, Name as Named, Open}

-- ---- at each case

abbrev pub at_bools : (Bool → Bool) → Bool
at_bools p = p true && p false

pub each_bool : (p : Bool → Bool) → at_bools p ≡ true → (b : Bool) → p b ≡ true
each_bool p h true = (and_both (p true) (p false) h).0
each_bool p h false = (and_both (p true) (p false) h).1

abbrev pub at_ends : (TypeEnd → Bool) → Bool
at_ends p = p Closed && (p Named && p Open)

pub each_end : (p : TypeEnd → Bool) → at_ends p ≡ true → (e : TypeEnd) → p e ≡ true
each_end p h Closed = (and_both (p Closed) (p Named && p Open) h).0
each_end p h Named = (and_both (p Named) (p Open) (and_both (p Closed) (p Named && p Open) h).1).0
each_end p h Open = (and_both (p Named) (p Open) (and_both (p Closed) (p Named && p Open) h).1).1

abbrev pub at_places : (Place → Bool) → Bool
at_places p = p Plain && (p Header && p Guard)

pub each_place : (p : Place → Bool) → at_places p ≡ true → (place : Place) → p place ≡ true
each_place p h Plain = (and_both (p Plain) (p Header && p Guard) h).0
each_place p h Header = (and_both (p Header) (p Guard) (and_both (p Plain) (p Header && p Guard) h).1).0
each_place p h Guard = (and_both (p Header) (p Guard) (and_both (p Plain) (p Header && p Guard) h).1).1

-- the shapes with an end, and those without
abbrev pub at_ended : (Shape → Bool) → Bool
at_ended p = at_ends (λ e. p (s.Type e)) && (at_ends (λ e. p (s.Function e)) && (at_ends (λ e. p (s.Pointer e)) && at_ends (λ e. p (s.Other e))))

abbrev pub at_others : (Shape → Bool) → Bool
at_others p = p s.Name && (p s.Qualified && (p s.Paren && p s.Guard))

abbrev pub at_shapes : (Shape → Bool) → Bool
at_shapes p = at_ended p && at_others p

all_four : (a b c d : Bool) → (a && (b && (c && d))) ≡ true → (a ≡ true) × (b ≡ true) × (c ≡ true) × (d ≡ true)
all_four true true true true h = (refl, refl, refl, refl)
all_four true true true false h = absurd (true≢false (sym h))
all_four true true false d h = absurd (true≢false (sym h))
all_four true false c d h = absurd (true≢false (sym h))
all_four false b c d h = absurd (true≢false (sym h))

each_ended : (p : Shape → Bool) → at_ended p ≡ true
    → (at_ends (λ e. p (s.Type e)) ≡ true) × (at_ends (λ e. p (s.Function e)) ≡ true) × (at_ends (λ e. p (s.Pointer e)) ≡ true) × (at_ends (λ e. p (s.Other e)) ≡ true)
each_ended p h = all_four (at_ends (λ e. p (s.Type e))) (at_ends (λ e. p (s.Function e))) (at_ends (λ e. p (s.Pointer e))) (at_ends (λ e. p (s.Other e))) h

each_other : (p : Shape → Bool) → at_others p ≡ true → (p s.Name ≡ true) × (p s.Qualified ≡ true) × (p s.Paren ≡ true) × (p s.Guard ≡ true)
each_other p h = all_four (p s.Name) (p s.Qualified) (p s.Paren) (p s.Guard) h

pub each_shape : (p : Shape → Bool) → at_shapes p ≡ true → (x : Shape) → p x ≡ true
each_shape p h (s.Type e) = each_end (λ e. p (s.Type e)) (each_ended p (and_both (at_ended p) (at_others p) h).0).0 e
each_shape p h (s.Function e) = each_end (λ e. p (s.Function e)) (each_ended p (and_both (at_ended p) (at_others p) h).0).1 e
each_shape p h (s.Pointer e) = each_end (λ e. p (s.Pointer e)) (each_ended p (and_both (at_ended p) (at_others p) h).0).2 e
each_shape p h (s.Other e) = each_end (λ e. p (s.Other e)) (each_ended p (and_both (at_ended p) (at_others p) h).0).3 e
each_shape p h s.Name = (each_other p (and_both (at_ended p) (at_others p) h).1).0
each_shape p h s.Qualified = (each_other p (and_both (at_ended p) (at_others p) h).1).1
each_shape p h s.Paren = (each_other p (and_both (at_ended p) (at_others p) h).1).2
each_shape p h s.Guard = (each_other p (and_both (at_ended p) (at_others p) h).1).3

abbrev pub at_placed : (Place → Shape → Bool) → Bool
at_placed p = at_places (λ place. at_shapes (p place))

pub each_placed : (p : Place → Shape → Bool) → at_placed p ≡ true → (place : Place) (x : Shape) → p place x ≡ true
each_placed p h place x = each_shape (p place) (each_place (λ place. at_shapes (p place)) h place) x

-- of a disjunction the one that is not excluded
pub unless : (a b : Bool) → (a || b) ≡ true → not a ≡ true → b ≡ true
unless true b h n = absurd (true≢false (sym n))
unless false b h n = h

pub or_first : (a b : Bool) → (a || b) ≡ true → a ≡ false → b ≡ true
or_first true b h n = absurd (true≢false n)
or_first false b h n = h

-- ---- sets

pub apart_from_none : (xs : List ℕ) → disjoint xs [] ≡ true
unfolding member disjoint
apart_from_none [] = refl
apart_from_none (x ∷ xs) = apart_from_none xs

pub within_one_more : (x : ℕ) (xs ys : List ℕ) → within xs ys ≡ true → within xs (x ∷ ys) ≡ true
unfolding member within
within_one_more x [] ys w = refl
within_one_more x (z ∷ zs) ys w = let both = and_both (member z ys) (within zs ys) w in go (z == x) (member z ys) (within zs (x ∷ ys)) both.0 (within_one_more x zs ys both.1)
  where
    go : (a b c : Bool) → b ≡ true → c ≡ true → ((a || b) && c) ≡ true
    go true b c h k = k
    go false true c h k = k
    go false false c h k = absurd (true≢false (sym h))

pub within_itself : (xs : List ℕ) → within xs xs ≡ true
unfolding member within
within_itself [] = refl
within_itself (x ∷ xs) = go (x == x) (member x xs) (within xs (x ∷ xs)) (eq-eqb x x refl) (within_one_more x xs xs (within_itself xs))
  where
    go : (a b c : Bool) → a ≡ true → c ≡ true → ((a || b) && c) ≡ true
    go true b c h k = k
    go false b c h k = absurd (true≢false (sym h))

pub within_over : (xs ys zs : List ℕ) → within xs ys ≡ true → within ys zs ≡ true → within xs zs ≡ true
unfolding within
within_over [] ys zs v w = refl
within_over (x ∷ xs) ys zs v w = let both = and_both (member x ys) (within xs ys) v in go (member x zs) (within xs zs) (within_member x ys zs w both.0) (within_over xs ys zs both.1 w)
  where
    go : (a b : Bool) → a ≡ true → b ≡ true → (a && b) ≡ true
    go true b h k = k
    go false b h k = h

-- where nothing goes on with the first part, nothing is asked of what follows without a token
pub quiet_behind_none : {A B C : Type 0} (m : C → List ℕ) (f : A → B → C) (x : A) (o : Option B) → quiet_after m f [] x o ≡ true
unfolding within
quiet_behind_none m f x None = refl
quiet_behind_none m f x (Some y) = refl

pub sound_to : {A B : Type 0} (text : List ℕ) (f : A → B) (g : P A) → Sound (grammar text) g → Sound (grammar text) (to f g)
unfolding first
sound_to text f g sound = (sound, tt, apart_from_none (most (grammar text) g))

-- what is given is sound where the sets at its value are
pub sound_given : {A B : Type 0} (text : List ℕ) (m : B → List ℕ) (w : List ℕ) (f : A → B) (g : P A) → Sound (grammar text) g
    → ((x : A) → within (more (grammar text) g x) (m (f x)) ≡ true) → ((y : B) → within (m y) w ≡ true) → Sound (grammar text) (given m w f g)
unfolding within null first more
sound_given text m w f g sound inner outer = (sound, λ _. tt, inner, λ x. apart_from_none (more (grammar text) g x), λ x y. refl, outer, λ _. refl)
