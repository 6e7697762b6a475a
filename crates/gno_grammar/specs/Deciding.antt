-- What has to hold of the sets of a grammar so that one token decides.
use Rattle.std.specs.Prelude.{◌≡◌, ℕ, Bool, true, false, List, [], ◌∷◌, ◌++◌, Option, Some, None}
use Rattle.gno_grammar.specs.Sets.{member, disjoint, within, choose}
use Rattle.gno_grammar.specs.Phrases.{Phrase, nothing, token, both, either, optional, chain, until, follow, repeat, construct, left_out, Grammar}
use Rattle.gno_grammar.specs.Readers.{null, first}

-- one word, then another
abbrev pub joined : {T A B C : Type 0} → (A → B → C) → List T × A → Option (List T × B) → Option (List T × C)
joined f a None = None
joined f a (Some b) = Some (a.0 ++ b.0, f a.1 b.1)

abbrev pub is_some : {A : Type 0} → Option A → Bool
is_some None = false
is_some (Some a) = true

-- whether a word brings a value to one that ends it
abbrev pub completes : {T A B : Type 0} → (A → Bool) → (A → B → A) → A → Option (List T × B) → Bool
completes p f a None = false
completes p f a (Some b) = p (f a b.1)

abbrev pub applied : {A B : Type 0} → (A → B) → Option A → Option B
applied f None = None
applied f (Some a) = Some (f a)

-- the value that the empty word is read as, where the phrase reads it; of two phrases only the second may
abbrev pub empty : {T R : Type 0} {gives : R → Type 0} {A : Type 0} → Phrase T R gives A → Option A
empty (nothing x) = Some x
empty (token s) = None
empty (both f g h) = elim (empty g) [ None ↦ None | Some a ↦ applied (f a) (empty h) ]
empty (either g h) = empty h
empty (optional g) = Some None
empty (chain m w u p f g h) = empty g
empty (until m w p f g h) = None
empty (follow m w u f g h) = elim (empty g) [ None ↦ None | Some a ↦ applied (f a) (empty (h a)) ]
empty (repeat p f g h) = empty g
empty (construct k) = None
empty (left_out n c s g) = empty g

-- whether, where the empty word is read second, the kinds that could go on behind the first still can at the value of both
abbrev pub quiet_after : {A B C : Type 0} → (C → List ℕ) → (A → B → C) → List ℕ → A → Option B → Bool
quiet_after m f s a None = true
quiet_after m f s a (Some b) = within s (m (f a b))

module _ {T R : Type 0} {gives : R → Type 0} (grammar : Grammar T R gives) where
  -- the kinds that can go on where a word ends, at any value
  unfoldable pub most : {A : Type 0} → Phrase T R gives A → List ℕ
  most (nothing x) = []
  most (token s) = []
  most (both f g h) = most h ++ choose (null grammar h) (most g) []
  most (either g h) = most g ++ (most h ++ choose (null grammar h) (first grammar g) [])
  most (optional g) = most g ++ first grammar g
  most (chain m w u p f g h) = w
  most (until m w p f g h) = w
  most (follow m w u f g h) = w
  most (repeat p f g h) = (first grammar h ++ most h) ++ most g
  most (construct k) = grammar.most_of k
  most (left_out n c s g) = most g ++ choose (null grammar g) s []

  -- the same, at this value
  unfoldable pub more : {A : Type 0} → Phrase T R gives A → A → List ℕ
  more (nothing x) v = []
  more (token s) v = []
  more (both f g h) v = most h ++ choose (null grammar h) (most g) []
  more (either g h) v = more g v ++ (more h v ++ choose (null grammar h) (first grammar g) [])
  more (optional g) None = first grammar g
  more (optional g) (Some a) = more g a
  more (chain m w u p f g h) v = m v
  more (until m w p f g h) v = m v
  more (follow m w u f g h) v = m v
  more (repeat p f g h) v = (first grammar h ++ most h) ++ most g
  more (construct k) v = grammar.more_of k v
  more (left_out n c s g) v = more g v ++ choose (null grammar g) s []

  -- a word, by computation, where one can be had without a construct in it: its tokens, and the value that they are read as
  abbrev pub word : {A : Type 0} → Phrase T R gives A → Option (List T × A)
  word (nothing x) = Some ([], x)
  word (token []) = None
  word (token (k ∷ s)) = Some (grammar.token_of k ∷ [], grammar.token_of k)
  word (both f g h) = elim (word g) [ None ↦ None | Some a ↦ joined f a (word h) ]
  word (either g h) = elim (word g) [ None ↦ word h | Some a ↦ Some a ]
  word (optional g) = Some ([], None)
  word (chain m w u p f g h) = word g
  word (until m w p f g h) = elim (word g) [ None ↦ None | Some a ↦ elim (p a.1) [ true ↦ Some a | false ↦ joined f a (word (h a.1)) ] ]
  word (follow m w u f g h) = elim (word g) [ None ↦ None | Some a ↦ joined f a (word (h a.1)) ]
  word (repeat p f g h) = word g
  word (construct k) = None
  word (left_out n c s g) = word g

  -- whether a word was found
  abbrev pub has_word : {A : Type 0} → Phrase T R gives A → Bool
  has_word g = is_some (word g)

  -- the set is not empty, and a token that is made of its first kind is in it
  abbrev pub IsToken : List ℕ → Type 0
  IsToken [] = ⊥
  IsToken (x ∷ s) = member (grammar.code (grammar.token_of x)) (x ∷ s) ≡ true

  abbrev pub Sound : {A : Type 0} → Phrase T R gives A → Type 0
  Sound (nothing x) = Unit {0}
  Sound (token s) = IsToken s
  Sound (both f g h) = Sound g × Sound h × (disjoint (most g) (first grammar h) ≡ true)
  Sound (either g h) = Sound g × Sound h × (null grammar g ≡ false) × (disjoint (first grammar g) (first grammar h) ≡ true)
  Sound (optional g) = Sound g × (null grammar g ≡ false)
  Sound (chain {A = A} {B = B} m w u p f g h) = Sound g × ((a : A) → Sound (h a)) × ((a : A) → null grammar (h a) ≡ false)
      × ((a : A) → p a ≡ true → disjoint (more g a) (first grammar (h a)) ≡ true)
      × ((a : A) (b : B) → p (f a b) ≡ true → disjoint (more (h a) b) (first grammar (h (f a b))) ≡ true)
      × ((a : A) → p a ≡ true → within (first grammar (h a)) (m a) ≡ true)
      × ((a : A) (b : B) → within (more (h a) b) (m (f a b)) ≡ true)
      × ((a : A) → within (more g a) (m a) ≡ true)
      × ((a : A) → within (m a) w ≡ true)
      × ((a : A) → within (first grammar (h a)) u ≡ true)
  Sound (until {A = A} {B = B} m w p f g h) = Sound g × ((a : A) → Sound (h a)) × (null grammar g ≡ false) × ((a : A) → null grammar (h a) ≡ false)
      × ((a : A) → p a ≡ false → disjoint (more g a) (first grammar (h a)) ≡ true)
      × ((a : A) (b : B) → p (f a b) ≡ false → disjoint (more (h a) b) (first grammar (h (f a b))) ≡ true)
      × ((a : A) → p a ≡ true → within (more g a) (m a) ≡ true)
      × ((a : A) (b : B) → p (f a b) ≡ true → within (more (h a) b) (m (f a b)) ≡ true)
      × ((a : A) → within (m a) w ≡ true)
      × ((a : A) → p a ≡ false → completes p f a (word (h a)) ≡ true)
  Sound (follow {A = A} {B = B} {C = C} m w u f g h) = Sound g × ((a : A) → Sound (h a))
      × ((a : A) → quiet_after m f (more g a) a (empty (h a)) ≡ true)
      × ((a : A) → disjoint (more g a) (first grammar (h a)) ≡ true)
      × ((a : A) (b : B) → within (more (h a) b) (m (f a b)) ≡ true)
      × ((c : C) → within (m c) w ≡ true)
      × ((a : A) → within (first grammar (h a)) u ≡ true)
  Sound (repeat p f g h) = Sound g × Sound h × (null grammar h ≡ false) × (disjoint (most g) (first grammar h) ≡ true) × (disjoint (most h) (first grammar h) ≡ true)
  Sound (construct k) = Unit {0}
  Sound (left_out n c s g) = Sound g × (disjoint s (first grammar g) ≡ true)

  -- a rule of which no word is empty, and whose sets are within those that are written down for it
  abbrev pub IsSound : R → Type 0
  IsSound k = Sound (grammar.rule k) × (null grammar (grammar.rule k) ≡ false) × (within (first grammar (grammar.rule k)) (grammar.first_of k) ≡ true)
      × ((v : gives k) → within (more (grammar.rule k) v) (grammar.more_of k v) ≡ true) × ((v : gives k) → within (grammar.more_of k v) (grammar.most_of k) ≡ true)
