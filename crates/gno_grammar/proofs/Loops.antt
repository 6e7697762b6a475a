-- A loop of the code and the repetition that it is: the invariant `Going`, or `UntilGoing`, and what a turn and the end make of it.
use Rattle.std.proofs.Common.{◌≡◌, refl, sym, ap, ◌∙◌, subst, ℕ, zero, suc, ◌<◌, Bool, true, false, not, ◌&&◌, List, [], ◌++◌, length, inl, inr, arith, true≢false}
use Rattle.gno_grammar.specs.Phrases.{Phrase, Grammar}
use Rattle.gno_grammar.specs.Readings.{reads, nested}
use Rattle.gno_grammar.specs.Readers.{Outcome, got, refused, and_then, map, turns, until_turns, begins, why, null, first, run, level}
use Rattle.gno_grammar.specs.Deciding.{more, Sound, IsSound}
use Rattle.gno_grammar.specs.Stops.{Cause, Stops, stands}
use Rattle.gno_grammar.specs.declared.refusal.Refusal.{Refusal}
use Rattle.gno_grammar.specs.declared.refusal.Refusal.TheVariants.{Unexpected}
use Rattle.gno_grammar.proofs.Sets.{not_true, not_false}
use Rattle.gno_grammar.proofs.Laws.{Live, Agrees, Starts, Exact}
use Rattle.gno_grammar.proofs.Levels.{exact, exact_level}

module _ {T : Type 0} (code : T → ℕ) where
  -- the invariant: the turns that are left from this value at these tokens answer what the whole loop answers, `out`
  abbrev pub Going : {A B : Type 0} → (A → Bool) → (A → List ℕ) → (A → List T → Outcome T B) → (A → B → A) → Outcome T A → A → List T → Type 0
  Going p s r f out a ts = (n : ℕ) × (length ts < n) × (out ≡ turns code p s r f n a ts)

  module _ {A B : Type 0} (p : A → Bool) (s : A → List ℕ) (r : A → List T → Outcome T B) (f : A → B → A) where
    -- at the start of the loop
    pub going : (a : A) (ts : List T) → Going p s r f (turns code p s r f (suc (length ts)) a ts) a ts
    going a ts = (suc (length ts), omega arith, refl)

    -- behind a turn
    pub go_on : (out : Outcome T A) (a : A) (ts : List T) (b : B) (mid : List T) → (p a && begins code (s a) ts) ≡ true → r a ts ≡ got b mid → length mid < length ts
        → Going p s r f out a ts → Going p s r f out (f a b) mid
    unfolding turns
    go_on out a ts b mid e h l (zero, m, o) = absurd (omega arith)
    go_on out a ts b mid e h l (suc n, m, o) = (
      n,
      omega arith,
      o ∙ ap {B = Outcome T A} (λ b. elim b [ true ↦ and_then (r a ts) (λ b mid. turns code p s r f n (f a b) mid) | false ↦ got a ts ]) e
          ∙ ap {B = Outcome T A} (λ o. and_then o (λ b mid. turns code p s r f n (f a b) mid)) h,
    )

    -- a turn that is refused is the answer
    pub go_refused : (out : Outcome T A) (a : A) (ts : List T) (w : Refusal) (us : List T) → (p a && begins code (s a) ts) ≡ true → r a ts ≡ refused w us
        → Going p s r f out a ts → out ≡ refused w us
    unfolding turns
    go_refused out a ts w us e h (zero, m, o) = absurd (omega arith)
    go_refused out a ts w us e h (suc n, m, o) =
        o ∙ ap {B = Outcome T A} (λ b. elim b [ true ↦ and_then (r a ts) (λ b mid. turns code p s r f n (f a b) mid) | false ↦ got a ts ]) e
        ∙ ap {B = Outcome T A} (λ o. and_then o (λ b mid. turns code p s r f n (f a b) mid)) h

    -- where no turn may come, the value is the answer
    pub go_end : (out : Outcome T A) (a : A) (ts : List T) → (p a && begins code (s a) ts) ≡ false → Going p s r f out a ts → out ≡ got a ts
    unfolding turns
    go_end out a ts e (zero, m, o) = absurd (omega arith)
    go_end out a ts e (suc n, m, o) =
        o ∙ ap {B = Outcome T A} (λ b. elim b [ true ↦ and_then (r a ts) (λ b mid. turns code p s r f n (f a b) mid) | false ↦ got a ts ]) e

-- a phrase of which no word is empty takes a token
module _ {T R : Type 0} {gives : R → Type 0} (grammar : Grammar T R gives) (sounds : (k : R) → IsSound grammar k) (words : (k : R) → Live (λ e. nested grammar e k) []) where
  taken : (d : ℕ) {A : Type 0} (r : List T → Outcome T A) (Q : ℕ → List T → A → List T → Type 0) (E : Cause T) (fs : List ℕ) (ms : A → List ℕ) → Exact grammar.code (why grammar) r Q E d fs ms false
      → (ts : List T) (v : A) (rest : List T) (o : Outcome T A) → o ≡ got v rest → Agrees (why grammar) r Q E d ts o → length rest < length ts
  taken d r Q E fs ms x ts v rest o e h = go (subst (Agrees (why grammar) r Q E d ts) e h)
    where
      go : Agrees (why grammar) r Q E d ts (got v rest) → length rest < length ts
      go h = subst (λ us. length rest < length us) (sym h.1) (less (x.starts (h.0 ++ rest) v rest (h.2 rest)))
        where
          less : Starts grammar.code fs false (h.0 ++ rest) rest → length rest < length (h.0 ++ rest)
          less (inl i) = i.1
          less (inr i) = absurd (true≢false (sym i.0))

  pub shorter : (d : ℕ) {A : Type 0} (g : Phrase T R gives A) → Sound grammar g → null grammar g ≡ false → (ts : List T) (v : A) (rest : List T)
      → run grammar (level grammar d) g ts ≡ got v rest → length rest < length ts
  shorter d g s n ts v rest e =
      let x = subst (λ b. Exact grammar.code (why grammar) (run grammar (level grammar d) g) (λ e. reads grammar (nested grammar e) g) (stands grammar (nested grammar d) (Stops grammar d) g) d (first grammar g) (more grammar g) b) n (exact grammar (λ k v. (sounds k).4 v) d (exact_level grammar sounds words d) g s) in
      taken d (run grammar (level grammar d) g) (λ e. reads grammar (nested grammar e) g) _ _ _ x ts v rest (run grammar (level grammar d) g ts) e (x.agrees ts)

-- what was read, where the new value is known
module _ {T A B : Type 0} (f : A → B → A) where
  of_map : (a : A) (o : Outcome T B) (v : A) (mid : List T) → and_then o (λ b rest. got (f a b) rest) ≡ got v mid → (b : B) × (o ≡ got b mid) × (f a b ≡ v)
  of_map a (got b rest) v mid e = (b, cc, cc)
  of_map a (refused w rest) v mid e = absurd (differ e)
    where
      differ : refused w rest ≡ got v mid → ⊥
      differ e = cc

  of_map_refused : (a : A) (o : Outcome T B) (w : Refusal) (us : List T) → and_then o (λ b rest. got (f a b) rest) ≡ refused w us → o ≡ refused w us
  of_map_refused a (got b rest) w us e = absurd (differ e)
    where
      differ : got (f a b) rest ≡ refused w us → ⊥
      differ e = cc
  of_map_refused a (refused x rest) w us e = ap back e
    where
      back : Outcome T A → Outcome T B
      back (got v ts) = refused Unexpected ts
      back (refused w ts) = refused w ts

-- the same turns, for a loop whose body hands back the new value
module _ {T : Type 0} (code : T → ℕ) {A B : Type 0} (p : A → Bool) (s : A → List ℕ) (r : A → List T → Outcome T B) (f : A → B → A) where
  -- a turn takes a token
  pub turn_shorter : (a : A) (ts : List T) (v : A) (mid : List T) → ((b : B) (mid : List T) → r a ts ≡ got b mid → length mid < length ts)
      → map (f a) (r a) ts ≡ got v mid → length mid < length ts
  turn_shorter a ts v mid l e = let h = of_map f a (r a ts) v mid e in l h.0 mid h.1

  -- behind a turn
  pub turn_goes : (out : Outcome T A) (a : A) (ts : List T) (v : A) (mid : List T) → ((b : B) (mid : List T) → r a ts ≡ got b mid → length mid < length ts)
      → (p a && begins code (s a) ts) ≡ true → map (f a) (r a) ts ≡ got v mid → Going code p s r f out a ts → Going code p s r f out v mid
  turn_goes out a ts v mid l t e g =
      let h = of_map f a (r a ts) v mid e in
      subst (λ v. Going code p s r f out v mid) h.2 (go_on code p s r f out a ts h.0 mid t h.1 (l h.0 mid h.1) g)

  -- a turn that is refused is the answer
  pub turn_refused : (out : Outcome T A) (a : A) (ts : List T) (w : Refusal) (us : List T)
      → (p a && begins code (s a) ts) ≡ true → map (f a) (r a) ts ≡ refused w us → Going code p s r f out a ts → out ≡ refused w us
  turn_refused out a ts w us t e g = go_refused code p s r f out a ts w us t (of_map_refused f a (r a ts) w us e) g

-- ---- the same for a loop that goes on until the value ends it

-- the invariant: the turns that are left from this value at these tokens answer what the whole loop answers, `out`
abbrev pub UntilGoing : {T A B : Type 0} → (A → Bool) → (A → List T → Outcome T B) → (A → B → A) → Outcome T A → A → List T → Type 0
UntilGoing p r f out a ts = (n : ℕ) × (length ts < n) × (out ≡ until_turns p r f n a ts)

module _ {T A B : Type 0} (p : A → Bool) (r : A → List T → Outcome T B) (f : A → B → A) where
  -- at the start of the loop
  pub until_going : (a : A) (ts : List T) → UntilGoing p r f (until_turns p r f (suc (length ts)) a ts) a ts
  until_going a ts = (suc (length ts), omega arith, refl)

  -- one turn, where more are left
  until_turn : (n : ℕ) (a : A) (ts : List T) (o : Outcome T B) → not (p a) ≡ true → r a ts ≡ o → until_turns p r f (suc n) a ts ≡ and_then o (λ b mid. until_turns p r f n (f a b) mid)
  unfolding until_turns
  until_turn n a ts o e h = ap {B = Outcome T A} (λ b. elim b [ true ↦ got a ts | false ↦ and_then (r a ts) (λ b mid. until_turns p r f n (f a b) mid) ]) (not_true (p a) e)
      ∙ ap {B = Outcome T A} (λ o. and_then o (λ b mid. until_turns p r f n (f a b) mid)) h

  -- behind a turn
  pub until_go_on : (out : Outcome T A) (a : A) (ts : List T) (b : B) (mid : List T) → not (p a) ≡ true → r a ts ≡ got b mid → length mid < length ts
      → UntilGoing p r f out a ts → UntilGoing p r f out (f a b) mid
  until_go_on out a ts b mid e h l (zero, m, o) = absurd (omega arith)
  until_go_on out a ts b mid e h l (suc n, m, o) = (n, omega arith, o ∙ until_turn n a ts (got b mid) e h)

  -- a turn that is refused is the answer
  pub until_go_refused : (out : Outcome T A) (a : A) (ts : List T) (w : Refusal) (us : List T) → not (p a) ≡ true → r a ts ≡ refused w us
      → UntilGoing p r f out a ts → out ≡ refused w us
  until_go_refused out a ts w us e h (zero, m, o) = absurd (omega arith)
  until_go_refused out a ts w us e h (suc n, m, o) = o ∙ until_turn n a ts (refused w us) e h

  -- where the value ends the loop, it is the answer
  pub until_go_end : (out : Outcome T A) (a : A) (ts : List T) → not (p a) ≡ false → UntilGoing p r f out a ts → out ≡ got a ts
  unfolding until_turns
  until_go_end out a ts e (zero, m, o) = absurd (omega arith)
  until_go_end out a ts e (suc n, m, o) =
      o ∙ ap {B = Outcome T A} (λ b. elim b [ true ↦ got a ts | false ↦ and_then (r a ts) (λ b mid. until_turns p r f n (f a b) mid) ]) (not_false (p a) e)

  -- ---- for a loop whose body hands back the new value

  -- a turn takes a token
  pub until_turn_shorter : (a : A) (ts : List T) (v : A) (mid : List T) → ((b : B) (mid : List T) → r a ts ≡ got b mid → length mid < length ts)
      → map (f a) (r a) ts ≡ got v mid → length mid < length ts
  until_turn_shorter a ts v mid l e = let h = of_map f a (r a ts) v mid e in l h.0 mid h.1

  -- behind a turn
  pub until_turn_goes : (out : Outcome T A) (a : A) (ts : List T) (v : A) (mid : List T) → ((b : B) (mid : List T) → r a ts ≡ got b mid → length mid < length ts)
      → not (p a) ≡ true → map (f a) (r a) ts ≡ got v mid → UntilGoing p r f out a ts → UntilGoing p r f out v mid
  until_turn_goes out a ts v mid l t e g =
      let h = of_map f a (r a ts) v mid e in
      subst (λ v. UntilGoing p r f out v mid) h.2 (until_go_on out a ts h.0 mid t h.1 (l h.0 mid h.1) g)

  -- a turn that is refused is the answer
  pub until_turn_refused : (out : Outcome T A) (a : A) (ts : List T) (w : Refusal) (us : List T) → not (p a) ≡ true → map (f a) (r a) ts ≡ refused w us
      → UntilGoing p r f out a ts → out ≡ refused w us
  until_turn_refused out a ts w us t e g = until_go_refused out a ts w us t (of_map_refused f a (r a ts) w us e) g
