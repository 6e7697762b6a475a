-- The law of every sound phrase, and of every rule of a sound grammar, at every depth.
use Rattle.std.proofs.Common.{◌≡◌, refl, sym, ap, ◌∙◌, subst, ℕ, zero, suc, ◌<◌, ◌≤◌, Bool, true, false, not, ◌||◌, ◌&&◌, List, [], ◌∷◌, ◌++◌, length, Option, Some, None, inl, inr, append-nil, arith, true≢false}
use Rattle.gno_grammar.specs.Sets.{member, within, choose}
use Rattle.gno_grammar.specs.Phrases.{Phrase, nothing, token, both, either, optional, chain, until, repeat, follow, construct, left_out, Grammar}
use Rattle.gno_grammar.specs.Readings.{Reading, Map, Steps, done, step, UntilSteps, until_done, until_step, reads, nested}
use Rattle.gno_grammar.specs.Readers.{Outcome, got, refused, map, turns, until_turns, begins, why, why_at, null, first, run, level}
use Rattle.gno_grammar.specs.Deciding.{empty, quiet_after, completes, word, more, most, Sound, IsSound}
use Rattle.gno_grammar.specs.Stops.{stands, Stops, WalkCause}
use Rattle.gno_grammar.specs.declared.refusal.Refusal.{Refusal}
use Rattle.gno_grammar.specs.declared.refusal.Refusal.TheVariants.{TooDeep}
use Rattle.gno_grammar.proofs.Sets.{and_both, within_member}
use Rattle.gno_grammar.proofs.Laws.{SameHead, Live, Agrees, Starts, Exact, begins_none, begins_not, begins_append, same_begins, exact_nothing, exact_token}
use Rattle.gno_grammar.proofs.Joins.{exact_map, exact_bind, exact_weaker}
use Rattle.gno_grammar.proofs.Choices.{exact_choice, exact_optional, exact_left_out}
use Rattle.gno_grammar.proofs.Repeats.{exact_turns}
use Rattle.gno_grammar.proofs.Untils.{CanEnd, exact_until}
use Rattle.gno_grammar.proofs.Words.{IsWord, is_word}
use Rattle.gno_grammar.proofs.Empties.{reads_empty}

module _ {T R : Type 0} {gives : R → Type 0} (grammar : Grammar T R gives) where
  -- ---- deeper nesting reads no less

  steps_grow : {A B : Type 0} (p : A → Bool) (S S' : A → Reading T B) (f : A → B → A) → ((a : A) (ts : List T) (b : B) (mid : List T) → S a ts b mid → S' a ts b mid)
      → (a : A) (ts : List T) (v : A) (rest : List T) → Steps p S f a ts v rest → Steps p S' f a ts v rest
  steps_grow p S S' f h a ts v rest done = done
  steps_grow p S S' f h a ts v rest (step {b = b} {mid = mid} e x k) = step e (h a ts b mid x) (steps_grow p S S' f h (f a b) mid v rest k)

  until_grow : {A B : Type 0} (p : A → Bool) (S S' : A → Reading T B) (f : A → B → A) → ((a : A) (ts : List T) (b : B) (mid : List T) → S a ts b mid → S' a ts b mid)
      → (a : A) (ts : List T) (v : A) (rest : List T) → UntilSteps p S f a ts v rest → UntilSteps p S' f a ts v rest
  until_grow p S S' f h a ts v rest (until_done e) = until_done e
  until_grow p S S' f h a ts v rest (until_step {b = b} {mid = mid} e x k) = until_step e (h a ts b mid x) (until_grow p S S' f h (f a b) mid v rest k)

  reads_grow : (C D : (k : R) → Reading T (gives k)) → ((k : R) (ts : List T) (v : gives k) (rest : List T) → C k ts v rest → D k ts v rest)
      → {A : Type 0} (g : Phrase T R gives A) (ts : List T) (v : A) (rest : List T) → reads grammar C g ts v rest → reads grammar D g ts v rest
  reads_grow C D m (nothing x) ts v rest h = h
  reads_grow C D m (token s) ts v rest h = h
  reads_grow C D m (both f g h) ts v rest (a, mid, x, (b, y, e)) = (a, mid, reads_grow C D m g ts a mid x, (b, reads_grow C D m h mid b rest y, e))
  reads_grow C D m (either g h) ts v rest (inl x) = inl (reads_grow C D m g ts v rest x)
  reads_grow C D m (either g h) ts v rest (inr x) = inr (reads_grow C D m h ts v rest x)
  reads_grow C D m (optional g) ts None rest h = h
  reads_grow C D m (optional g) ts (Some v) rest h = reads_grow C D m g ts v rest h
  reads_grow C D m (chain m' w u p f g h) ts v rest (a, mid, x, k) =
      (a, mid, reads_grow C D m g ts a mid x, steps_grow p (λ a. reads grammar C (h a)) (λ a. reads grammar D (h a)) f (λ a. reads_grow C D m (h a)) a mid v rest k)
  reads_grow C D m (repeat p f g h) ts v rest (a, mid, x, k) =
      (a, mid, reads_grow C D m g ts a mid x, steps_grow p (λ a. reads grammar C h) (λ a. reads grammar D h) f (λ a. reads_grow C D m h) a mid v rest k)
  reads_grow C D m (until m' w p f g h) ts v rest (a, mid, x, k) =
      (a, mid, reads_grow C D m g ts a mid x, until_grow p (λ a. reads grammar C (h a)) (λ a. reads grammar D (h a)) f (λ a. reads_grow C D m (h a)) a mid v rest k)
  reads_grow C D m (follow m' w u f g h) ts v rest (a, mid, x, (b, y, e)) = (a, mid, reads_grow C D m g ts a mid x, (b, reads_grow C D m (h a) mid b rest y, e))
  reads_grow C D m (construct k) ts v rest h = m k ts v rest h
  reads_grow C D m (left_out n c s g) ts v rest h = reads_grow C D m g ts v rest h

  pub nested_lifts : (e f : ℕ) → e ≤ f → (k : R) (ts : List T) (v : gives k) (rest : List T) → nested grammar e k ts v rest → nested grammar f k ts v rest
  nested_lifts zero f le k ts v rest h = absurd h
  nested_lifts (suc e) zero le k ts v rest h = absurd (omega arith)
  nested_lifts (suc e) (suc f) le k ts v rest h =
      reads_grow (nested grammar e) (nested grammar f) (λ k ts v rest h. nested_lifts e f (omega arith) k ts v rest h) (grammar.rule k) ts v rest h

  -- ---- sets

  none_append : (xs ys : List ℕ) (ts : List T) → begins grammar.code xs ts ≡ false → begins grammar.code ys ts ≡ false → begins grammar.code (xs ++ ys) ts ≡ false
  none_append xs ys ts e h = begins_append grammar.code xs ys ts ∙ ap (λ b. b || begins grammar.code ys ts) e ∙ h

  none_left : (xs ys : List ℕ) (ts : List T) → begins grammar.code (xs ++ ys) ts ≡ false → begins grammar.code xs ts ≡ false
  none_left xs ys ts e = (begins_none grammar.code xs ys ts e).0

  none_right : (xs ys : List ℕ) (ts : List T) → begins grammar.code (xs ++ ys) ts ≡ false → begins grammar.code ys ts ≡ false
  none_right xs ys ts e = (begins_none grammar.code xs ys ts e).1

  within_begins : (xs ys : List ℕ) → within xs ys ≡ true → (ts : List T) → begins grammar.code xs ts ≡ true → begins grammar.code ys ts ≡ true
  unfolding begins
  within_begins xs ys w [] e = e
  within_begins xs ys w (t ∷ ts) e = within_member (grammar.code t) xs ys w e

  within_quiet : (xs ys : List ℕ) → within xs ys ≡ true → (ts : List T) → begins grammar.code ys ts ≡ false → begins grammar.code xs ts ≡ false
  within_quiet xs ys w ts e = go (begins grammar.code xs ts) refl
    where
      go : (b : Bool) → begins grammar.code xs ts ≡ b → begins grammar.code xs ts ≡ false
      go true h = absurd (true≢false (sym (within_begins xs ys w ts h) ∙ e))
      go false h = h

  ahead_covers : (b : Bool) (xs : List ℕ) (ts : List T) → begins grammar.code (choose b xs []) ts ≡ true → begins grammar.code xs ts ≡ true
  unfolding begins member
  ahead_covers true xs ts e = e
  ahead_covers false xs [] e = absurd (true≢false (sym e))
  ahead_covers false xs (t ∷ ts) e = absurd (true≢false (sym e))

  ahead_on : (b : Bool) (xs : List ℕ) (ts : List T) → begins grammar.code (choose b xs []) ts ≡ true → b ≡ true
  unfolding begins member
  ahead_on true xs ts e = refl
  ahead_on false xs [] e = absurd (true≢false (sym e))
  ahead_on false xs (t ∷ ts) e = absurd (true≢false (sym e))

  when_null : (b : Bool) (xs : List ℕ) (ts : List T) → b ≡ true → begins grammar.code (choose b xs []) ts ≡ false → begins grammar.code xs ts ≡ false
  when_null true xs ts e h = h
  when_null false xs ts e h = absurd (true≢false (sym e))

  -- at any value no more can go on than at all
  module _ (bounds : (k : R) (v : gives k) → within (grammar.more_of k v) (grammar.most_of k) ≡ true) where
    most_quiet : {A : Type 0} (g : Phrase T R gives A) → Sound grammar g → (v : A) (ts : List T) → begins grammar.code (most grammar g) ts ≡ false → begins grammar.code (more grammar g v) ts ≡ false
    unfolding most more
    most_quiet (nothing x) s v ts e = e
    most_quiet (token xs) s v ts e = e
    most_quiet (both f g h) s v ts e = e
    most_quiet (either g h) s v ts e =
        none_append _ _ ts (most_quiet g s.0 v ts (none_left _ _ ts e))
        (none_append _ _ ts (most_quiet h s.1 v ts (none_left _ _ ts (none_right _ _ ts e))) (none_right _ _ ts (none_right _ _ ts e)))
    most_quiet (optional g) s None ts e = none_right _ _ ts e
    most_quiet (optional g) s (Some v) ts e = most_quiet g s.0 v ts (none_left _ _ ts e)
    most_quiet (repeat p f g h) s v ts e = e
    most_quiet (chain m w u p f g h) s v ts e = within_quiet _ _ (s.8 v) ts e
    most_quiet (until m w p f g h) s v ts e = within_quiet _ _ (s.8 v) ts e
    most_quiet (follow m w u f g h) s v ts e = within_quiet _ _ (s.5 v) ts e
    most_quiet (construct k) s v ts e = within_quiet _ _ (bounds k v) ts e
    most_quiet (left_out n c t g) s v ts e = none_append _ _ ts (most_quiet g s.0 v ts (none_left _ _ ts e)) (none_right _ _ ts e)

    -- ---- the law, at one depth

    module _ (d : ℕ) (calls : (k : R) → Exact grammar.code (why grammar) (level grammar d k) (λ e. nested grammar e k) (Stops grammar d k) d (grammar.first_of k) (grammar.more_of k) false) where
      abbrev Law : {A : Type 0} → Phrase T R gives A → Type 0
      Law g = Exact grammar.code (why grammar) (run grammar (level grammar d) g) (λ e. reads grammar (nested grammar e) g) (stands grammar (nested grammar d) (Stops grammar d) g) d (first grammar g) (more grammar g) (null grammar g)

      abbrev LawAt : {A : Type 0} → Phrase T R gives A → Bool → Type 0
      LawAt g b = Exact grammar.code (why grammar) (run grammar (level grammar d) g) (λ e. reads grammar (nested grammar e) g) (stands grammar (nested grammar d) (Stops grammar d) g) d (first grammar g) (more grammar g) b

      law_both : {A B C : Type 0} (f : A → B → C) (g : Phrase T R gives A) (h : Phrase T R gives B) → Sound grammar (both f g h) → Law g → Law h → Law (both f g h)
      unfolding run first more null
      law_both f g h s x y =
          exact_bind grammar.code (why grammar) _ (λ e. reads grammar (nested grammar e) g) (stands grammar (nested grammar d) (Stops grammar d) g) d _ (more grammar g) _ x
          (λ a. map (f a) (run grammar (level grammar d) h)) (λ a e. Map (f a) (reads grammar (nested grammar e) h)) (λ a. stands grammar (nested grammar d) (Stops grammar d) h) (λ a. first grammar h) (λ a v. most grammar h) (null grammar h)
          (λ a. exact_map grammar.code (why grammar) (f a) _ (λ e. reads grammar (nested grammar e) h) (stands grammar (nested grammar d) (Stops grammar d) h) d _ (more grammar h) _ y (λ v. most grammar h) (λ b ts e. most_quiet h s.1 b ts e))
          (λ a ts e. most_quiet g s.0 a ts (begins_not grammar.code (most grammar g) (first grammar h) ts s.2 e))
          (first grammar h) (λ n a ts e. e)
          (λ v. most grammar h ++ choose (null grammar h) (most grammar g) []) (λ a v ts e. none_left _ _ ts e)
          (λ a v ts n r e. most_quiet g s.0 a ts (when_null (null grammar h) (most grammar g) ts n (none_right _ _ ts e)))

      true_end : (a : Bool) → (a && true) ≡ a
      true_end true = refl
      true_end false = refl

      less : (fs : List ℕ) (ts mid : List T) → Starts grammar.code fs false ts mid → length mid < length ts
      less fs ts mid (inl i) = i.1
      less fs ts mid (inr i) = absurd (true≢false (sym i.0))

      -- no word of a rule is empty
      takes_one : (k : R) (ts : List T) (v : gives k) (rest : List T) → nested grammar d k ts v rest → length rest < length ts
      takes_one k ts v rest r = less _ ts rest ((calls k).starts ts v rest r)

      -- behind the value of the empty word, what could go on before can go on still
      still_quiet : {A B C : Type 0} (m : C → List ℕ) (f : A → B → C) (a : A) (xs : List ℕ) (o : Option B) (b : B) → quiet_after m f xs a o ≡ true → o ≡ Some b → within xs (m (f a b)) ≡ true
      still_quiet m f a xs o b e i = subst (λ o. quiet_after m f xs a o ≡ true) i e

      law_follow : {A B C : Type 0} (m : C → List ℕ) (w u : List ℕ) (f : A → B → C) (g : Phrase T R gives A) (h : A → Phrase T R gives B) → Sound grammar (follow m w u f g h) → Law g → ((a : A) → Law (h a)) → Law (follow m w u f g h)
      unfolding run first more null
      law_follow {B = B} m w u f g h s x y =
          subst (λ b. Exact grammar.code (why grammar) (run grammar (level grammar d) (follow m w u f g h)) (λ e. reads grammar (nested grammar e) (follow m w u f g h)) (stands grammar (nested grammar d) (Stops grammar d) (follow m w u f g h)) d (first grammar g ++ choose (null grammar g) u []) m b) (true_end (null grammar g))
          (exact_bind grammar.code (why grammar) _ (λ e. reads grammar (nested grammar e) g) (stands grammar (nested grammar d) (Stops grammar d) g) d _ (more grammar g) _ x
          (λ a. map (f a) (run grammar (level grammar d) (h a))) (λ a e. Map (f a) (reads grammar (nested grammar e) (h a))) (λ a. stands grammar (nested grammar d) (Stops grammar d) (h a)) (λ a. first grammar (h a)) (λ a v. m v) true
          (λ a. exact_map grammar.code (why grammar) (f a) _ (λ e. reads grammar (nested grammar e) (h a)) (stands grammar (nested grammar d) (Stops grammar d) (h a)) d _ (more grammar (h a)) _
          (exact_weaker grammar.code (why grammar) _ (λ e. reads grammar (nested grammar e) (h a)) (stands grammar (nested grammar d) (Stops grammar d) (h a)) d _ (more grammar (h a)) _ _ (more grammar (h a)) true (λ ts e. e) (λ v ts e. e) (λ e. refl) (y a))
          m (λ b ts e. within_quiet _ _ (s.4 a b) ts e))
          (λ a ts e. begins_not grammar.code (more grammar g a) (first grammar (h a)) ts (s.3 a) e)
          u (λ n a ts e. within_begins _ _ (s.6 a) ts e)
          m (λ a v ts e. e) (λ a v ts n r e. within_quiet _ _ (still_quiet m f a (more grammar g a) (empty (h a)) r.0 (s.2 a) (reads_empty grammar (nested grammar d) takes_one (h a) (s.1 a) ts r.0 r.1)) ts (subst (λ v. begins grammar.code (m v) ts ≡ false) r.2 e)))

      law_either : {A : Type 0} (g h : Phrase T R gives A) → Sound grammar (either g h) → Law g → Law h → Law (either g h)
      unfolding run first more null
      law_either g h s x y =
          exact_choice grammar.code (why grammar) _ _ (λ e. reads grammar (nested grammar e) g) (λ e. reads grammar (nested grammar e) h) (stands grammar (nested grammar d) (Stops grammar d) g) (stands grammar (nested grammar d) (Stops grammar d) h) d _ (more grammar g) _ (more grammar h) _
          (subst (LawAt g) s.2 x) y s.3

      law_optional : {A : Type 0} (g : Phrase T R gives A) → Sound grammar (optional g) → Law g → Law (optional g)
      unfolding run first more null
      law_optional g s x =
          exact_optional grammar.code (why grammar) _ (λ e. reads grammar (nested grammar e) g) (stands grammar (nested grammar d) (Stops grammar d) g) d _ (more grammar g) (subst (LawAt g) s.1 x)
          (more grammar (optional g)) (λ ts e. e) (λ a ts e. e)

      and_stop : (a b : Bool) → (a ≡ true → b ≡ false) → (a && b) ≡ false
      and_stop true b h = h refl
      and_stop false b h = refl

      law_repeat : {A B : Type 0} (p : A → Bool) (f : A → B → A) (g : Phrase T R gives A) (h : Phrase T R gives B) → Sound grammar (repeat p f g h) → Law g → Law h → Law (repeat p f g h)
      unfolding run first more null
      law_repeat p f g h s x y =
          subst (λ b. Exact grammar.code (why grammar) (run grammar (level grammar d) (repeat p f g h)) (λ e. reads grammar (nested grammar e) (repeat p f g h)) (stands grammar (nested grammar d) (Stops grammar d) (repeat p f g h)) d (first grammar g ++ choose (null grammar g) (first grammar h) []) (λ v. (first grammar h ++ most grammar h) ++ most grammar g) b) (true_end (null grammar g))
          (exact_bind grammar.code (why grammar) _ (λ e. reads grammar (nested grammar e) g) (stands grammar (nested grammar d) (Stops grammar d) g) d _ (more grammar g) _ x
          (λ a mid. turns grammar.code p (λ a. first grammar h) (λ a. run grammar (level grammar d) h) f (suc (length mid)) a mid)
          (λ a e. Steps p (λ a. reads grammar (nested grammar e) h) f a) (λ a u w rest. WalkCause p (λ a. reads grammar (nested grammar d) h) f (λ a. stands grammar (nested grammar d) (Stops grammar d) h) w rest a u) (λ a. choose (p a) (first grammar h) []) (λ a v. first grammar h ++ most grammar h) true
          (exact_turns grammar.code (why grammar) p f (λ a. first grammar h) (λ a. run grammar (level grammar d) h) (λ a e. reads grammar (nested grammar e) h) (λ a. stands grammar (nested grammar d) (Stops grammar d) h) d (λ a b. more grammar h b)
          (λ a. subst (LawAt h) s.2 y)
          (λ a b ts o e. most_quiet h s.1 b ts (begins_not grammar.code (most grammar h) (first grammar h) ts s.4 e))
          (λ v. first grammar h ++ most grammar h)
          (λ v ts e. and_stop (p v) _ (λ o. none_left _ _ ts e))
          (λ a b ts e. most_quiet h s.1 b ts (none_right _ _ ts e)))
          (λ a ts e. most_quiet g s.0 a ts (begins_not grammar.code (most grammar g) (first grammar h) ts s.3 (ahead_covers (p a) (first grammar h) ts e)))
          (first grammar h) (λ n a ts e. ahead_covers (p a) (first grammar h) ts e)
          (λ v. (first grammar h ++ most grammar h) ++ most grammar g) (λ a v ts e. none_left _ _ ts e)
          (λ a v ts n r e. most_quiet g s.0 a ts (none_right _ _ ts e)))

      no_longer : (fs : List ℕ) (ts rest : List T) → Starts grammar.code fs true ts rest → length rest ≤ length ts
      no_longer fs ts rest (inl i) = let l = i.1 in omega arith
      no_longer fs ts rest (inr i) = let e : length rest ≡ length ts = ap length i.1 in omega arith

      module _ {A B : Type 0} (m : A → List ℕ) (w u : List ℕ) (p : A → Bool) (f : A → B → A) (g : Phrase T R gives A) (h : A → Phrase T R gives B)
          (s : Sound grammar (chain m w u p f g h)) (x : Law g) (y : (a : A) → Law (h a)) where
        abbrev Next : ℕ → A → Reading T B
        Next e a = reads grammar (nested grammar e) (h a)

        next_law : (a : A) → LawAt (h a) false
        next_law a = subst (LawAt (h a)) (s.2 a) (y a)

        law_turns : (a : A) → Exact grammar.code (why grammar) (λ mid. turns grammar.code p (λ a. first grammar (h a)) (λ a. run grammar (level grammar d) (h a)) f (suc (length mid)) a mid)
            (λ e. Steps p (Next e) f a) (λ q l rest. WalkCause p (λ a. Next d a) f (λ a. stands grammar (nested grammar d) (Stops grammar d) (h a)) l rest a q) d (choose (p a) (first grammar (h a)) []) m true
        law_turns a =
            exact_turns grammar.code (why grammar) p f (λ a. first grammar (h a)) (λ a. run grammar (level grammar d) (h a)) (λ a e. Next e a) (λ a. stands grammar (nested grammar d) (Stops grammar d) (h a)) d (λ a b. more grammar (h a) b)
            next_law
            (λ a b ts o e. begins_not grammar.code _ _ ts (s.4 a b o) e)
            m
            (λ v ts e. and_stop (p v) _ (λ o. within_quiet _ _ (s.5 v o) ts e))
            (λ a b ts e. within_quiet _ _ (s.6 a b) ts e) a

        none_read : (a : A) (ts : List T) (v : A) (rest : List T) → Steps p (Next d) f a ts v rest → rest ≡ ts → begins grammar.code (m v) ts ≡ false → begins grammar.code (more grammar g a) ts ≡ false
        none_read a ts v rest done q e = within_quiet _ _ (s.7 a) ts e
        none_read a ts v rest (step {b = b} {mid = mid} o k l) q e =
            let n = less _ ts mid ((next_law a).starts ts b mid k) in
            let i = no_longer _ mid rest ((law_turns (f a b)).starts mid v rest l) in
            let same : length rest ≡ length ts = ap length q in
            absurd (omega arith)

        law_chain : Law (chain m w u p f g h)
        unfolding run first more null
        law_chain =
            subst (λ b. Exact grammar.code (why grammar) (run grammar (level grammar d) (chain m w u p f g h)) (λ e. reads grammar (nested grammar e) (chain m w u p f g h)) (stands grammar (nested grammar d) (Stops grammar d) (chain m w u p f g h)) d (first grammar g ++ choose (null grammar g) u []) m b) (true_end (null grammar g))
            (exact_bind grammar.code (why grammar) _ (λ e. reads grammar (nested grammar e) g) (stands grammar (nested grammar d) (Stops grammar d) g) d _ (more grammar g) _ x
            (λ a mid. turns grammar.code p (λ a. first grammar (h a)) (λ a. run grammar (level grammar d) (h a)) f (suc (length mid)) a mid)
            (λ a e. Steps p (Next e) f a)
            (λ a q l rest. WalkCause p (λ a. Next d a) f (λ a. stands grammar (nested grammar d) (Stops grammar d) (h a)) l rest a q)
            (λ a. choose (p a) (first grammar (h a)) []) (λ a v. m v) true
            law_turns
            (λ a ts e. begins_not grammar.code (more grammar g a) _ ts (s.3 a (ahead_on (p a) _ ts e)) (ahead_covers (p a) _ ts e))
            u (λ n a ts e. within_begins _ _ (s.9 a) ts (ahead_covers (p a) _ ts e))
            m (λ a v ts e. e)
            (λ a v ts n r e. none_read a ts v ts r refl e))

      -- where no word of the first is empty, only it begins
      first_only : (b : Bool) (xs : List ℕ) (ts : List T) → begins grammar.code (xs ++ choose b [] []) ts ≡ true → begins grammar.code xs ts ≡ true
      first_only true xs ts e = subst (λ us. begins grammar.code us ts ≡ true) (append-nil xs) e
      first_only false xs ts e = subst (λ us. begins grammar.code us ts ≡ true) (append-nil xs) e

      needed_on : (b : Bool) (xs : List ℕ) (ts : List T) → begins grammar.code (choose b [] xs) ts ≡ true → (b ≡ false) × (begins grammar.code xs ts ≡ true)
      unfolding begins member
      needed_on true xs [] e = absurd (true≢false (sym e))
      needed_on true xs (t ∷ ts) e = absurd (true≢false (sym e))
      needed_on false xs ts e = (refl, e)

      module _ {A B : Type 0} (m : A → List ℕ) (w : List ℕ) (p : A → Bool) (f : A → B → A) (g : Phrase T R gives A) (h : A → Phrase T R gives B)
          (s : Sound grammar (until m w p f g h)) (x : Law g) (y : (a : A) → Law (h a)) where
        abbrev Needs : ℕ → A → Reading T B
        Needs e a = reads grammar (nested grammar e) (h a)

        needs_law : (a : A) → LawAt (h a) false
        needs_law a = subst (LawAt (h a)) (s.3 a) (y a)

        can_end : (a : A) (o : Option (List T × B)) → IsWord grammar (nested grammar 0) (h a) o → completes p f a o ≡ true → CanEnd p (λ a e. Needs e a) f a
        can_end a None k e = absurd (true≢false (sym e))
        can_end a (Some b) k e = (0, b.0, b.1, k, e)

        law_rounds : (a : A) → Exact grammar.code (why grammar) (λ mid. until_turns p (λ a. run grammar (level grammar d) (h a)) f (suc (length mid)) a mid)
            (λ e. UntilSteps p (Needs e) f a) (λ q l rest. WalkCause (λ a. not (p a)) (λ a. Needs d a) f (λ a. stands grammar (nested grammar d) (Stops grammar d) (h a)) l rest a q) d (choose (p a) [] (first grammar (h a))) m true
        law_rounds a =
            exact_until grammar.code (why grammar) p f (λ a. first grammar (h a)) (λ a. run grammar (level grammar d) (h a)) (λ a e. Needs e a) (λ a. stands grammar (nested grammar d) (Stops grammar d) (h a)) d (λ a b. more grammar (h a) b)
            needs_law
            (λ a b ts o e. begins_not grammar.code _ _ ts (s.5 a b o) e)
            m
            (λ a b ts o e. within_quiet _ _ (s.7 a b o) ts e)
            (λ a o. can_end a (word grammar (h a)) (is_word grammar (nested grammar 0) (h a) (s.1 a)) (s.9 a o)) a

        nothing_read : (a : A) (ts : List T) (v : A) (rest : List T) → UntilSteps p (Needs d) f a ts v rest → rest ≡ ts → begins grammar.code (m v) ts ≡ false → begins grammar.code (more grammar g a) ts ≡ false
        nothing_read a ts v rest (until_done o) q e = within_quiet _ _ (s.6 a o) ts e
        nothing_read a ts v rest (until_step {b = b} {mid = mid} o k l) q e =
            let n = less _ ts mid ((needs_law a).starts ts b mid k) in
            let i = no_longer _ mid rest ((law_rounds (f a b)).starts mid v rest l) in
            let same : length rest ≡ length ts = ap length q in
            absurd (omega arith)

        never : null grammar g ≡ true → ⊥
        never n = true≢false (sym n ∙ s.2)

        law_until : Law (until m w p f g h)
        unfolding run first more null
        law_until =
            exact_weaker grammar.code (why grammar) _ (λ e. reads grammar (nested grammar e) (until m w p f g h)) (stands grammar (nested grammar d) (Stops grammar d) (until m w p f g h)) d _ m _ (first grammar g) m false
            (λ ts e. first_only (null grammar g) (first grammar g) ts e) (λ v ts e. e) (λ e. absurd (never (and_both _ _ e).0))
            (exact_bind grammar.code (why grammar) _ (λ e. reads grammar (nested grammar e) g) (stands grammar (nested grammar d) (Stops grammar d) g) d _ (more grammar g) _ x
            (λ a mid. until_turns p (λ a. run grammar (level grammar d) (h a)) f (suc (length mid)) a mid)
            (λ a e. UntilSteps p (Needs e) f a)
            (λ a q l rest. WalkCause (λ a. not (p a)) (λ a. Needs d a) f (λ a. stands grammar (nested grammar d) (Stops grammar d) (h a)) l rest a q)
            (λ a. choose (p a) [] (first grammar (h a))) (λ a v. m v) true
            law_rounds
            (λ a ts e. let k = needed_on (p a) _ ts e in begins_not grammar.code (more grammar g a) _ ts (s.4 a k.0) k.1)
            [] (λ n a ts e. absurd (never n))
            m (λ a v ts e. e)
            (λ a v ts n r e. nothing_read a ts v ts r refl e))

      pub exact : {A : Type 0} (g : Phrase T R gives A) → Sound grammar g → Law g
      unfolding run first more null
      exact (nothing x) s = exact_nothing grammar.code (why grammar) x d
      exact (token []) s = absurd s
      exact (token (x ∷ xs)) s = exact_token grammar.code (why grammar) (x ∷ xs) (grammar.token_of x) s d
      exact (both f g h) s = law_both f g h s (exact g s.0) (exact h s.1)
      exact (either g h) s = law_either g h s (exact g s.0) (exact h s.1)
      exact (optional g) s = law_optional g s (exact g s.0)
      exact (repeat p f g h) s = law_repeat p f g h s (exact g s.0) (exact h s.1)
      exact (chain m w u p f g h) s = law_chain m w u p f g h s (exact g s.0) (λ a. exact (h a) (s.1 a))
      exact (until m w p f g h) s = law_until m w p f g h s (exact g s.0) (λ a. exact (h a) (s.1 a))
      exact (follow m w u f g h) s = law_follow m w u f g h s (exact g s.0) (λ a. exact (h a) (s.1 a))
      exact (construct k) s = calls k
      exact (left_out n c t g) s = exact_left_out grammar.code (why grammar) n c t _ (λ e. reads grammar (nested grammar e) g) (stands grammar (nested grammar d) (Stops grammar d) g) d _ (more grammar g) _ (exact g s.0) s.1

  -- ---- every depth

  module _ (sounds : (k : R) → IsSound grammar k) (words : (k : R) → Live (λ e. nested grammar e k) []) where
    same_why : (ts y : List T) → SameHead ts y → why_at grammar ts ≡ why_at grammar y
    same_why [] [] h = refl
    same_why [] (u ∷ us) h = elim h [ ]
    same_why (t ∷ ts) [] h = elim h [ ]
    same_why (t ∷ ts) (u ∷ us) h = ap (why grammar) h

    zero_agrees : (k : R) (ts : List T) → Agrees (why grammar) (level grammar 0 k) (λ e. nested grammar e k) (Stops grammar 0 k) 0 ts (level grammar 0 k ts)
    unfolding level
    zero_agrees k ts = go (begins grammar.code (grammar.first_of k) ts) refl
      where
        alone : (b : Bool) (y : List T) → SameHead ts y → begins grammar.code (grammar.first_of k) ts ≡ b
            → level grammar 0 k y ≡ elim b [ true ↦ refused TooDeep y | false ↦ refused (why_at grammar ts) y ]
        alone b y same e = ap (λ b. elim b [ true ↦ refused TooDeep y | false ↦ refused (why_at grammar y) y ]) (sym (same_begins grammar.code (grammar.first_of k) ts y same) ∙ e)
            ∙ ap (λ w. elim b [ true ↦ refused TooDeep y | false ↦ refused w y ]) (sym (same_why ts y same))

        go : (b : Bool) → begins grammar.code (grammar.first_of k) ts ≡ b → Agrees (why grammar) (level grammar 0 k) (λ e. nested grammar e k) (Stops grammar 0 k) 0 ts (elim b [ true ↦ refused TooDeep ts | false ↦ refused (why_at grammar ts) ts ])
        go true e = ([], refl, words k, (λ y same. alone true y same e), inr (refl, refl, e))
        go false e = ([], refl, words k, (λ y same. alone false y same e), inl refl)

    zero_meets : (k : R) (p : List T) (w : Refusal) (rest : List T) → Stops grammar 0 k p w rest
        → (level grammar 0 k (p ++ rest) ≡ refused w rest) × (begins grammar.code (grammar.first_of k) (p ++ rest) ≡ true)
    unfolding level
    zero_meets k p w rest e =
        let same : p ++ rest ≡ rest = ap (λ us. us ++ rest) e.0 in (
          ap (level grammar 0 k) same ∙ ap (λ b. elim b [ true ↦ refused TooDeep rest | false ↦ refused (why_at grammar rest) rest ]) e.2 ∙ ap (λ w. refused w rest) (sym e.1),
          subst (λ us. begins grammar.code (grammar.first_of k) us ≡ true) (sym same) e.2,
        )

    call_zero : (k : R) → Exact grammar.code (why grammar) (level grammar 0 k) (λ e. nested grammar e k) (Stops grammar 0 k) 0 (grammar.first_of k) (grammar.more_of k) false
    call_zero k = record {
      agrees = zero_agrees k;
      finds = λ ts v rest h e. absurd h;
      starts = λ ts v rest h. absurd h;
      lifts = λ e f le ts v rest h. nested_lifts e f le k ts v rest h;
      lives = words k;
      meets = zero_meets k;
    }

    shift : (d : ℕ) (k : R) (ts : List T) (o : Outcome T (gives k)) → Agrees (why grammar) (run grammar (level grammar d) (grammar.rule k)) (λ e. reads grammar (nested grammar e) (grammar.rule k)) (stands grammar (nested grammar d) (Stops grammar d) (grammar.rule k)) d ts o
        → Agrees (why grammar) (level grammar (suc d) k) (λ e. nested grammar e k) (Stops grammar (suc d) k) (suc d) ts o
    unfolding level
    shift d k ts (got v rest) h = h
    shift d k ts (refused w rest) h = (h.0, h.1, (suc h.2.0, h.2.1, h.2.2, h.2.3), h.3, h.4)

    call_suc : (d : ℕ) → ((k : R) → Exact grammar.code (why grammar) (level grammar d k) (λ e. nested grammar e k) (Stops grammar d k) d (grammar.first_of k) (grammar.more_of k) false)
        → (k : R) → Exact grammar.code (why grammar) (level grammar (suc d) k) (λ e. nested grammar e k) (Stops grammar (suc d) k) (suc d) (grammar.first_of k) (grammar.more_of k) false
    unfolding level
    call_suc d calls k =
        let x = exact (λ k v. (sounds k).4 v) d calls (grammar.rule k) (sounds k).0 in
        record {
          agrees = λ ts. shift d k ts (run grammar (level grammar d) (grammar.rule k) ts) (x.agrees ts);
          finds = λ ts v rest h e. x.finds ts v rest h (within_quiet _ _ ((sounds k).3 v) rest e);
          starts = λ ts v rest h. elim (x.starts ts v rest h) [ inl a ↦ inl (within_begins _ _ (sounds k).2 ts a.0, a.1) | inr b ↦ absurd (true≢false (sym b.0 ∙ (sounds k).1)) ];
          lifts = λ e f le ts v rest h. nested_lifts e f le k ts v rest h;
          lives = words k;
          meets = λ p w rest e. let m = x.meets p w rest e in (m.0, within_begins _ _ (sounds k).2 _ m.1);
        }

    pub exact_level : (d : ℕ) (k : R) → Exact grammar.code (why grammar) (level grammar d k) (λ e. nested grammar e k) (Stops grammar d k) d (grammar.first_of k) (grammar.more_of k) false
    exact_level zero k = call_zero k
    exact_level (suc d) k = call_suc d (exact_level d) k
