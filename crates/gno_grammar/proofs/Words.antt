-- What is computed as a word of a phrase is one; so what was read of a rule can be gone on with.
use Rattle.std.proofs.Common.{◌≡◌, refl, sym, subst, ℕ, Bool, true, false, List, [], ◌∷◌, ◌++◌, Option, Some, None, inl, inr, append_assoc, true≢false}
use Rattle.gno_grammar.specs.declared.refusal.LeftOut.{LeftOut as Form}
use Rattle.gno_grammar.specs.Phrases.{Phrase, nothing, token, both, either, optional, chain, until, follow, repeat, construct, left_out, Grammar}
use Rattle.gno_grammar.specs.Readings.{Reading, done, until_done, until_step, reads, nested}
use Rattle.gno_grammar.specs.Deciding.{joined, is_some, completes, word, has_word, Sound, IsSound}
use Rattle.gno_grammar.specs.Stops.{Word}
use Rattle.gno_grammar.proofs.Laws.{Live}

module _ {T R : Type 0} {gives : R → Type 0} (grammar : Grammar T R gives) where
  module _ (C : (k : R) → Reading T (gives k)) where
    -- what was computed is a word, if anything was
    abbrev pub IsWord : {A : Type 0} → Phrase T R gives A → Option (List T × A) → Type 0
    IsWord g None = Unit {0}
    IsWord g (Some a) = Word (reads grammar C g) a.0 a.1

    both_word : {A B D : Type 0} (f : A → B → D) (g : Phrase T R gives A) (h : Phrase T R gives B) (a : List T × A) (o : Option (List T × B)) → IsWord g (Some a) → IsWord h o
        → IsWord (both f g h) (joined f a o)
    both_word f g h a None x y = tt
    both_word f g h a (Some b) x y = λ us.
        subst (λ ts. reads grammar C (both f g h) ts (f a.1 b.1) us) (sym (append_assoc a.0 b.0 us)) (a.1, b.0 ++ us, x (b.0 ++ us), (b.1, y us, refl))

    both_words : {A B D : Type 0} (f : A → B → D) (g : Phrase T R gives A) (h : Phrase T R gives B) (o : Option (List T × A)) → IsWord g o → IsWord h (word grammar h)
        → IsWord (both f g h) (elim o [ None ↦ None | Some a ↦ joined f a (word grammar h) ])
    both_words f g h None x y = tt
    both_words f g h (Some a) x y = both_word f g h a (word grammar h) x y

    follow_word : {A B D : Type 0} (m : D → List ℕ) (w u : List ℕ) (f : A → B → D) (g : Phrase T R gives A) (h : A → Phrase T R gives B) (a : List T × A) (o : Option (List T × B))
        → IsWord g (Some a) → IsWord (h a.1) o → IsWord (follow m w u f g h) (joined f a o)
    follow_word m w u f g h a None x y = tt
    follow_word m w u f g h a (Some b) x y = λ us.
        subst (λ ts. reads grammar C (follow m w u f g h) ts (f a.1 b.1) us) (sym (append_assoc a.0 b.0 us)) (a.1, b.0 ++ us, x (b.0 ++ us), (b.1, y us, refl))

    follow_words : {A B D : Type 0} (m : D → List ℕ) (w u : List ℕ) (f : A → B → D) (g : Phrase T R gives A) (h : A → Phrase T R gives B) (o : Option (List T × A))
        → IsWord g o → ((a : A) → IsWord (h a) (word grammar (h a))) → IsWord (follow m w u f g h) (elim o [ None ↦ None | Some a ↦ joined f a (word grammar (h a.1)) ])
    follow_words m w u f g h None x y = tt
    follow_words m w u f g h (Some a) x y = follow_word m w u f g h a (word grammar (h a.1)) x (y a.1)

    second_word : {A : Type 0} (g h : Phrase T R gives A) (o : Option (List T × A)) → IsWord h o → IsWord (either g h) o
    second_word g h None y = tt
    second_word g h (Some b) y = λ us. inr (y us)

    either_word : {A : Type 0} (g h : Phrase T R gives A) (o : Option (List T × A)) → IsWord g o → IsWord h (word grammar h) → IsWord (either g h) (elim o [ None ↦ word grammar h | Some a ↦ Some a ])
    either_word g h None x y = second_word g h (word grammar h) y
    either_word g h (Some a) x y = λ us. inl (x us)

    chain_word : {A B : Type 0} (m : A → List ℕ) (w u : List ℕ) (p : A → Bool) (f : A → B → A) (g : Phrase T R gives A) (h : A → Phrase T R gives B) (o : Option (List T × A)) → IsWord g o
        → IsWord (chain m w u p f g h) o
    chain_word m w u p f g h None x = tt
    chain_word m w u p f g h (Some a) x = λ us. (a.1, us, x us, done)

    until_word : {A B : Type 0} (m : A → List ℕ) (w : List ℕ) (p : A → Bool) (f : A → B → A) (g : Phrase T R gives A) (h : A → Phrase T R gives B) (a : List T × A) (o : Option (List T × B))
        → IsWord g (Some a) → IsWord (h a.1) o → p a.1 ≡ false → completes p f a.1 o ≡ true → IsWord (until m w p f g h) (joined f a o)
    until_word m w p f g h a None x y e c = tt
    until_word m w p f g h a (Some b) x y e c = λ us.
        subst (λ ts. reads grammar C (until m w p f g h) ts (f a.1 b.1) us) (sym (append_assoc a.0 b.0 us)) (a.1, b.0 ++ us, x (b.0 ++ us), until_step e (y us) (until_done c))

    until_words : {A B : Type 0} (m : A → List ℕ) (w : List ℕ) (p : A → Bool) (f : A → B → A) (g : Phrase T R gives A) (h : A → Phrase T R gives B) (o : Option (List T × A))
        → IsWord g o → ((a : A) → IsWord (h a) (word grammar (h a))) → ((a : A) → p a ≡ false → completes p f a (word grammar (h a)) ≡ true)
        → IsWord (until m w p f g h) (elim o [ None ↦ None | Some a ↦ elim (p a.1) [ true ↦ Some a | false ↦ joined f a (word grammar (h a.1)) ] ])
    until_words m w p f g h None x y c = tt
    until_words m w p f g h (Some a) x y c = go (p a.1) refl
      where
        go : (b : Bool) → p a.1 ≡ b → IsWord (until m w p f g h) (elim b [ true ↦ Some a | false ↦ joined f a (word grammar (h a.1)) ])
        go true e = λ us. (a.1, us, x us, until_done e)
        go false e = until_word m w p f g h a (word grammar (h a.1)) x (y a.1) e (c a.1 e)

    repeat_word : {A B : Type 0} (p : A → Bool) (f : A → B → A) (g : Phrase T R gives A) (h : Phrase T R gives B) (o : Option (List T × A)) → IsWord g o → IsWord (repeat p f g h) o
    repeat_word p f g h None x = tt
    repeat_word p f g h (Some a) x = λ us. (a.1, us, x us, done)

    left_out_word : {A : Type 0} (n : Form) (c : ℕ) (s : List ℕ) (g : Phrase T R gives A) (o : Option (List T × A)) → IsWord g o → IsWord (left_out n c s g) o
    left_out_word n c s g None x = tt
    left_out_word n c s g (Some a) x = x

    pub is_word : {A : Type 0} (g : Phrase T R gives A) → Sound grammar g → IsWord g (word grammar g)
    is_word (nothing x) s = λ us. (refl, refl)
    is_word (token []) s = absurd s
    is_word (token (k ∷ ks)) s = λ us. (refl, s)
    is_word (both f g h) s = both_words f g h (word grammar g) (is_word g s.0) (is_word h s.1)
    is_word (either g h) s = either_word g h (word grammar g) (is_word g s.0) (is_word h s.1)
    is_word (optional g) s = λ us. refl
    is_word (chain m w u p f g h) s = chain_word m w u p f g h (word grammar g) (is_word g s.0)
    is_word (until m w p f g h) s = until_words m w p f g h (word grammar g) (is_word g s.0) (λ a. is_word (h a) (s.1 a)) s.9
    is_word (follow m w u f g h) s = follow_words m w u f g h (word grammar g) (is_word g s.0) (λ a. is_word (h a) (s.1 a))
    is_word (repeat p f g h) s = repeat_word p f g h (word grammar g) (is_word g s.0)
    is_word (construct k) s = tt
    is_word (left_out n c t g) s = left_out_word n c t g (word grammar g) (is_word g s.0)

  live_at : (k : R) (o : Option (List T × gives k)) → IsWord (nested grammar 0) (grammar.rule k) o → is_some o ≡ true → Live (λ e. nested grammar e k) []
  live_at k None x e = absurd (true≢false (sym e))
  live_at k (Some a) x e = (1, a.0, a.1, x)

  -- a sound rule with such a word can be gone on with
  pub word_of : (k : R) → IsSound grammar k → has_word grammar (grammar.rule k) ≡ true → Live (λ e. nested grammar e k) []
  word_of k s e = live_at k (word grammar (grammar.rule k)) (is_word (nested grammar 0) (grammar.rule k) s.0) e

  -- the same of every rule
  pub words_of : ((k : R) → IsSound grammar k) → ((k : R) → has_word grammar (grammar.rule k) ≡ true) → (k : R) → Live (λ e. nested grammar e k) []
  words_of sounds words k = word_of k (sounds k) (words k)
