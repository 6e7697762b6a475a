-- The reader of a sound grammar answers exactly: the one tree, or the first token that continues none, and why.
use Rattle.std.proofs.Common.{◌≡◌, refl, sym, ap, ◌∙◌, subst, ℕ, zero, suc, ◌≤◌, max, Bool, true, false, ◌&&◌, List, [], ◌∷◌, ◌++◌, length, Option, Some, None, ◌⊎◌, inl, inr, append_assoc, append-nil, arith, true≢false}
use Rattle.gno_grammar.specs.Phrases.{Phrase, nothing, token, both, either, optional, chain, until, repeat, follow, construct, left_out, Grammar}
use Rattle.gno_grammar.specs.Readings.{Reading, reads, nested}
use Rattle.gno_grammar.specs.Readers.{Outcome, got, refused, and_then, map, turns, until_turns, begins, why, why_at, why_form, null, first, run, level}
use Rattle.gno_grammar.specs.Deciding.{more, Sound, IsSound}
use Rattle.gno_grammar.specs.Stops.{Cause, stands, Stops}
use Rattle.gno_grammar.specs.Answers.{Is, Viable, EndsBefore, Because, Answers, Exactly, closed}
use Rattle.gno_grammar.specs.declared.refusal.LeftOut.{LeftOut as Form}
use Rattle.gno_grammar.specs.declared.refusal.Refusal.{Refusal}
use Rattle.gno_grammar.specs.declared.refusal.Refusal.TheVariants.{Unexpected, TooDeep, LeftOut}
use Rattle.gno_grammar.proofs.Laws.{Live, Agrees, Starts, Exact}
use Rattle.gno_grammar.proofs.Levels.{exact, exact_level}

-- ---- a greater depth changes an answer only where the nesting was too deep, or one refusal into another

-- refused for the nesting
abbrev pub IsDeep : {T A : Type 0} → Outcome T A → Type 0
IsDeep (refused TooDeep rest) = Unit {0}
IsDeep (refused Unexpected rest) = ⊥
IsDeep (refused (LeftOut n c) rest) = ⊥
IsDeep (got v rest) = ⊥

-- both are refused
abbrev pub AreRefused : {T A : Type 0} → Outcome T A → Outcome T A → Type 0
AreRefused (refused w ts) (refused x us) = Unit {0}
AreRefused (refused w ts) (got x us) = ⊥
AreRefused (got w ts) o = ⊥

-- what a reader answers, and what one that may go deeper answers
abbrev pub Below : {T A : Type 0} → Outcome T A → Outcome T A → Type 0
Below o o' = (o' ≡ o) ⊎ (IsDeep o ⊎ AreRefused o o')

below_bind : {T A B : Type 0} (o o' : Outcome T A) (q q' : A → List T → Outcome T B) → Below o o' → ((a : A) (ts : List T) → Below (q a ts) (q' a ts)) → Below (and_then o q) (and_then o' q')
below_bind (got a ts) o' q q' (inl e) h = subst (λ o. Below (q a ts) (and_then o q')) (sym e) (h a ts)
below_bind (got a ts) o' q q' (inr (inl e)) h = absurd e
below_bind (got a ts) o' q q' (inr (inr e)) h = absurd e
below_bind {B = B} (refused w ts) o' q q' (inl e) h = inl (ap {B = Outcome _ B} (λ o. and_then o q') e)
below_bind (refused TooDeep ts) o' q q' (inr (inl e)) h = inr (inl tt)
below_bind (refused Unexpected ts) o' q q' (inr (inl e)) h = absurd e
below_bind (refused (LeftOut n c) ts) o' q q' (inr (inl e)) h = absurd e
below_bind (refused w ts) (refused x us) q q' (inr (inr e)) h = inr (inr tt)
below_bind (refused w ts) (got x us) q q' (inr (inr e)) h = absurd e

below_same : {T A : Type 0} (o : Outcome T A) → Below o o
below_same o = inl refl

module _ {T R : Type 0} {gives : R → Type 0} (grammar : Grammar T R gives) where
  abbrev decided : {A : Type 0} → (List T → Outcome T A) → (List T → Outcome T A) → List T → Bool → Outcome T A
  decided r q ts b = elim b [ true ↦ r ts | false ↦ q ts ]

  below_decided : {A : Type 0} (b : Bool) (r q r' q' : List T → Outcome T A) → ((ts : List T) → Below (r ts) (r' ts)) → ((ts : List T) → Below (q ts) (q' ts))
      → (ts : List T) → Below (decided r q ts b) (decided r' q' ts b)
  below_decided true r q r' q' h k ts = h ts
  below_decided false r q r' q' h k ts = k ts

  below_turns : {A B : Type 0} (p : A → Bool) (s : A → List ℕ) (r r' : A → List T → Outcome T B) (f : A → B → A) → ((a : A) (ts : List T) → Below (r a ts) (r' a ts))
      → (n : ℕ) (a : A) (ts : List T) → Below (turns grammar.code p s r f n a ts) (turns grammar.code p s r' f n a ts)
  unfolding turns
  below_turns p s r r' f h zero a ts = inl refl
  below_turns p s r r' f h (suc n) a ts =
      below_decided (p a && begins grammar.code (s a) ts) (λ ts. and_then (r a ts) (λ b mid. turns grammar.code p s r f n (f a b) mid)) (got a)
      (λ ts. and_then (r' a ts) (λ b mid. turns grammar.code p s r' f n (f a b) mid)) (got a)
      (λ ts. below_bind (r a ts) (r' a ts) _ _ (h a ts) (λ b mid. below_turns p s r r' f h n (f a b) mid)) (λ ts. inl refl) ts

  below_until : {A B : Type 0} (p : A → Bool) (r r' : A → List T → Outcome T B) (f : A → B → A) → ((a : A) (ts : List T) → Below (r a ts) (r' a ts))
      → (n : ℕ) (a : A) (ts : List T) → Below (until_turns p r f n a ts) (until_turns p r' f n a ts)
  unfolding until_turns
  below_until p r r' f h zero a ts = inl refl
  below_until p r r' f h (suc n) a ts =
      below_decided (p a) (got a) (λ ts. and_then (r a ts) (λ b mid. until_turns p r f n (f a b) mid)) (got a) (λ ts. and_then (r' a ts) (λ b mid. until_turns p r' f n (f a b) mid))
      (λ ts. inl refl) (λ ts. below_bind (r a ts) (r' a ts) _ _ (h a ts) (λ b mid. below_until p r r' f h n (f a b) mid)) ts

  module _ (L M : (k : R) → List T → Outcome T (gives k)) (m : (k : R) (ts : List T) → Below (L k ts) (M k ts)) where
    below_map : {A B : Type 0} (f : A → B) (r r' : List T → Outcome T A) → ((ts : List T) → Below (r ts) (r' ts)) → (ts : List T) → Below (map f r ts) (map f r' ts)
    below_map f r r' h ts = below_bind (r ts) (r' ts) _ _ (h ts) (λ a rest. inl refl)

    below_run : {A : Type 0} (g : Phrase T R gives A) (ts : List T) → Below (run grammar L g ts) (run grammar M g ts)
    unfolding run
    below_run (nothing x) ts = inl refl
    below_run (token s) ts = inl refl
    below_run (both f g h) ts = below_bind (run grammar L g ts) (run grammar M g ts) _ _ (below_run g ts)
        (λ a mid. below_map (f a) (run grammar L h) (run grammar M h) (below_run h) mid)
    below_run (either g h) ts = below_decided (begins grammar.code (first grammar g) ts) (run grammar L g) (run grammar L h) (run grammar M g) (run grammar M h) (below_run g) (below_run h) ts
    below_run (optional g) ts = below_decided (begins grammar.code (first grammar g) ts) (map Some (run grammar L g)) (got None) (map Some (run grammar M g)) (got None)
        (λ ts. below_map Some (run grammar L g) (run grammar M g) (below_run g) ts) (λ ts. inl refl) ts
    below_run (chain m' w u p f g h) ts = below_bind (run grammar L g ts) (run grammar M g ts) _ _ (below_run g ts)
        (λ a mid. below_turns p (λ a. first grammar (h a)) (λ a. run grammar L (h a)) (λ a. run grammar M (h a)) f (λ a. below_run (h a)) (suc (length mid)) a mid)
    below_run (repeat p f g h) ts = below_bind (run grammar L g ts) (run grammar M g ts) _ _ (below_run g ts)
        (λ a mid. below_turns p (λ a. first grammar h) (λ a. run grammar L h) (λ a. run grammar M h) f (λ a. below_run h) (suc (length mid)) a mid)
    below_run (until m' w p f g h) ts = below_bind (run grammar L g ts) (run grammar M g ts) _ _ (below_run g ts)
        (λ a mid. below_until p (λ a. run grammar L (h a)) (λ a. run grammar M (h a)) f (λ a. below_run (h a)) (suc (length mid)) a mid)
    below_run (follow m' w u f g h) ts = below_bind (run grammar L g ts) (run grammar M g ts) _ _ (below_run g ts)
        (λ a mid. below_map (f a) (run grammar L (h a)) (run grammar M (h a)) (below_run (h a)) mid)
    below_run (construct k) ts = m k ts
    below_run (left_out n c s g) ts = below_decided (begins grammar.code s ts) (refused (LeftOut n c)) (run grammar L g) (refused (LeftOut n c)) (run grammar M g) (λ ts. inl refl) (below_run g) ts

  module _ (sounds : (k : R) → IsSound grammar k) (words : (k : R) → Live (λ e. nested grammar e k) []) where
    abbrev exact_at : (d : ℕ) (k : R) → Exact grammar.code (why grammar) (level grammar d k) (λ e. nested grammar e k) (Stops grammar d k) d (grammar.first_of k) (grammar.more_of k) false
    exact_at = exact_level grammar sounds words

    never_empty : (k : R) (ts : List T) (v : gives k) (rest : List T) (e : ℕ) → nested grammar e k ts v rest → begins grammar.code (grammar.first_of k) ts ≡ true
    never_empty k ts v rest e h = go ((exact_at e k).starts ts v rest h)
      where
        go : Starts grammar.code (grammar.first_of k) false ts rest → begins grammar.code (grammar.first_of k) ts ≡ true
        go (inl s) = s.0
        go (inr s) = absurd (true≢false (sym s.0))

    -- a rule reads nothing where the next token doesn't begin it
    zero_below : (k : R) (ts : List T) (e : ℕ) → begins grammar.code (grammar.first_of k) ts ≡ false → (o : Outcome T (gives k))
        → Agrees (why grammar) (level grammar e k) (λ e. nested grammar e k) (Stops grammar e k) e ts o → (w : Refusal) (us : List T) → AreRefused (refused w us) o
    zero_below k ts e n (got v rest) h w us = absurd (true≢false (sym (never_empty k ts v rest e (subst (λ us. nested grammar e k us v rest) (sym h.1) (h.2 rest))) ∙ n))
    zero_below k ts e n (refused x rest) h w us = tt

    below_zero : (k : R) (ts : List T) (e : ℕ) → Below (level grammar 0 k ts) (level grammar e k ts)
    unfolding level
    below_zero k ts e = go (begins grammar.code (grammar.first_of k) ts) refl
      where
        go : (b : Bool) → begins grammar.code (grammar.first_of k) ts ≡ b → Below (elim b [ true ↦ refused TooDeep ts | false ↦ refused (why_at grammar ts) ts ]) (level grammar e k ts)
        go true h = inr (inl tt)
        go false h = inr (inr (zero_below k ts e h (level grammar e k ts) ((exact_at e k).agrees ts) (why_at grammar ts) ts))

    -- a rule at two depths
    steady : (d e : ℕ) → d ≤ e → (k : R) (ts : List T) → Below (level grammar d k ts) (level grammar e k ts)
    unfolding level
    steady zero e le k ts = below_zero k ts e
    steady (suc d) zero le k ts = absurd (omega arith)
    steady (suc d) (suc e) le k ts = below_run (level grammar d) (level grammar e) (λ k ts. steady d e (omega arith) k ts) (grammar.rule k) ts

    ahead : (p : List T) (t : T) (s : List T) → (p ++ t ∷ []) ++ s ≡ p ++ (t ∷ s)
    ahead p t s = append_assoc p (t ∷ []) s

    same_value : {A : Type 0} {v w : A} {us : List T} → got v us ≡ got w us → v ≡ w
    same_value e = cc

    cons_nil : {t : T} {ts : List T} → (t ∷ ts) ≡ [] → ⊥
    cons_nil e = cc

    shallow_unexpected : (A : Type 0) (rest : List T) → IsDeep {T = T} {A = A} (refused Unexpected rest) → ⊥
    shallow_unexpected A rest h = h

    shallow_left_out : (A : Type 0) (n : Form) (c : ℕ) (rest : List T) → IsDeep {T = T} {A = A} (refused (LeftOut n c) rest) → ⊥
    shallow_left_out A n c rest h = h

    -- ---- a start phrase

    module _ {A : Type 0} (g : Phrase T R gives A) (sound : Sound grammar g) where
      abbrev reader : ℕ → List T → Outcome T A
      reader d = run grammar (level grammar d) g

      abbrev reading : ℕ → Reading T A
      reading d = reads grammar (nested grammar d) g

      abbrev cause : ℕ → Cause T
      cause d = stands grammar (nested grammar d) (Stops grammar d) g

      abbrev law : (d : ℕ) → Exact grammar.code (why grammar) (reader d) reading (cause d) d (first grammar g) (more grammar g) (null grammar g)
      law d = exact grammar (λ k v. (sounds k).4 v) d (exact_at d) g sound

      -- a tree is what the reader answers, at the depth of the tree and at every greater one
      read : (ts : List T) (v : A) (d : ℕ) → reading d ts v [] → (m : ℕ) → d ≤ m → reader m ts ≡ got v []
      unfolding begins
      read ts v d h m le = (law m).finds ts v [] ((law m).lifts d m le ts v [] h) refl

      -- a tree of any depth, against what the reader answered with a depth of its own
      found : (ts : List T) (v : A) (d : ℕ) → Is grammar g ts v → Below (reader d ts) (got v [])
      found ts v d h =
          let m = max d h.0 in
          subst (λ o. Below (reader d ts) o) (read ts v h.0 h.1 m (omega arith))
          (below_run (level grammar d) (level grammar m) (λ k ts. steady d m (omega arith) k ts) g ts)

      -- so an answer that is no tree, and not for the nesting, says that there is none
      no_tree : (d : ℕ) (ts : List T) (w : Refusal) (rest : List T) → (IsDeep {T = T} {A = A} (refused w rest) → ⊥) → reader d ts ≡ refused w rest → (v : A) → Is grammar g ts v → ⊥
      no_tree d ts w rest shallow e v h = go w shallow (subst (λ o. Below o (got v [])) e (found ts v d h))
        where
          go : (w : Refusal) → (IsDeep {T = T} {A = A} (refused w rest) → ⊥) → Below {T = T} {A = A} (refused w rest) (got v []) → ⊥
          go w s (inl x) = differ x
            where
              differ : got v [] ≡ refused w rest → ⊥
              differ x = cc
          go w s (inr (inl x)) = s x
          go w s (inr (inr x)) = x

      no_other : (d : ℕ) (ts : List T) (v : A) (rest : List T) → reader d ts ≡ got v rest → (w : A) → Is grammar g ts w → (w ≡ v) × (rest ≡ [])
      no_other d ts v rest e w h = go (subst (λ o. Below o (got w [])) e (found ts w d h))
        where
          go : Below {T = T} {A = A} (got v rest) (got w []) → (w ≡ v) × (rest ≡ [])
          go (inl x) = (cc, cc)
          go (inr (inl x)) = absurd x
          go (inr (inr x)) = absurd x

      abbrev Fault : ℕ → Refusal → List T → List T → Type 0
      Fault d w ts rest = (p : List T) × (ts ≡ p ++ rest) × Viable grammar g p × EndsBefore grammar g p rest × Because grammar d g p w rest

      fault : (d : ℕ) (w : Refusal) → ((us : List T) → IsDeep {T = T} {A = A} (refused w us) → ⊥) → (ts rest : List T)
          → Agrees (why grammar) (reader d) reading (cause d) d ts (refused w rest) → Fault d w ts rest
      fault d w shallow ts [] h = (
        h.0,
        h.1,
        (h.2.1 ++ [], h.2.2, (h.2.0, h.2.3 [])),
        (λ v x. no_tree d (h.0 ++ []) w [] (shallow []) (h.3 [] tt) v (subst (λ us. Is grammar g us v) (sym (append-nil h.0)) x)),
        h.4,
      )
      fault d w shallow ts (t ∷ rest) h = (
        h.0,
        h.1,
        (h.2.1 ++ [], h.2.2, (h.2.0, h.2.3 [])),
        (λ x. no_tree d (h.0 ++ (t ∷ x.0)) w (t ∷ x.0) (shallow (t ∷ x.0)) (h.3 (t ∷ x.0) refl) x.1 (subst (λ us. Is grammar g us x.1) (ahead h.0 t x.0) x.2)),
        h.4,
      )

      trailing : (d : ℕ) (form : Option Form) (ts rest : List T) → Fault d (why_form form) ts rest → Answers grammar d g ts (refused (why_form form) rest)
      trailing d None ts rest h = h
      trailing d (Some n) ts rest h = h

      answers_at : (d : ℕ) (ts : List T) (o : Outcome T A) → reader d ts ≡ o → Agrees (why grammar) (reader d) reading (cause d) d ts o → Answers grammar d g ts (closed grammar o)
      unfolding why
      answers_at d ts (got v []) e h = (refl, (d, subst (λ us. reading d us v []) (sym h.1) (h.2 [])), λ w x. (no_other d ts v [] e w x).0)
      answers_at d ts (got v (t ∷ rest)) e h = trailing d (grammar.form t) ts (t ∷ rest) (
        h.0,
        h.1,
        ([], v, (d, h.2 [])),
        (λ x. cons_nil (no_other d (h.0 ++ (t ∷ x.0)) v (t ∷ x.0) (h.3 (t ∷ x.0) refl) x.1 (subst (λ us. Is grammar g us x.1) (ahead h.0 t x.0) x.2)).1),
        inl refl,
      )
      answers_at d ts (refused Unexpected rest) e h = fault d Unexpected (shallow_unexpected A) ts rest h
      answers_at d ts (refused (LeftOut n c) rest) e h = fault d (LeftOut n c) (shallow_left_out A n c) ts rest h
      answers_at d ts (refused TooDeep rest) e h = (h.0, h.1, (h.2.1 ++ [], h.2.2, (h.2.0, h.2.3 [])), h.4)

      stopped : (d : ℕ) (p : List T) (w : Refusal) (rest : List T) → cause d p w rest → closed grammar (reader d (p ++ rest)) ≡ refused w rest
      stopped d p w rest e = ap (closed grammar) ((law d).meets p w rest e).0

      -- the reader answers exactly: a tree and no other, or the first token that continues none, and each cause where it stands
      pub exactly : (d : ℕ) (ts : List T) → Exactly grammar d g ts (closed grammar (run grammar (level grammar d) g ts))
      exactly d ts = (answers_at d ts (reader d ts) refl ((law d).agrees ts), λ p w rest e h. ap (λ ts. closed grammar (reader d ts)) e ∙ stopped d p w rest h)

      -- no two trees are read from the same tokens
      pub one_tree : (ts : List T) (v w : A) → Is grammar g ts v → Is grammar g ts w → v ≡ w
      one_tree ts v w h k =
          let m = max h.0 k.0 in
          same_value (sym (read ts v h.0 h.1 m (omega arith)) ∙ read ts w k.0 k.1 m (omega arith))
