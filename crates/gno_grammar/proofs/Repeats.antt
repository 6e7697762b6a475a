-- The law of a repetition.
use Rattle.std.proofs.Common.{◌≡◌, refl, sym, ap, ◌∙◌, subst, ℕ, zero, suc, ◌<◌, ◌≤◌, max, Bool, true, false, ◌&&◌, List, [], ◌++◌, length, inl, inr, append_assoc, arith, true≢false}
use Rattle.gno_grammar.specs.Sets.{choose}
use Rattle.gno_grammar.specs.Readings.{Reading, Steps, done, step}
use Rattle.gno_grammar.specs.Readers.{Outcome, got, refused, and_then, turns, begins}
use Rattle.gno_grammar.specs.Stops.{Cause, WalkCause, here, later}
use Rattle.gno_grammar.specs.declared.refusal.Refusal.{Refusal}
use Rattle.gno_grammar.proofs.Sets.{and_both}
use Rattle.gno_grammar.proofs.Laws.{SameHead, same_append, Live, Agrees, Caused, Starts, Exact}
use Rattle.gno_grammar.proofs.Choices.{alike, same_self}

module _ {T : Type 0} (code : T → ℕ) (why : T → Refusal) {A B : Type 0} (on : A → Bool) (f : A → B → A) (s : A → List ℕ) (q : A → List T → Outcome T B) (S : A → ℕ → Reading T B) (F : A → Cause T)
    (d : ℕ) (ms : A → B → List ℕ) (z : (a : A) → Exact code why (q a) (S a) (F a) d (s a) (ms a) false)
    (apart : (a : A) (b : B) (ts : List T) → on (f a b) ≡ true → begins code (s (f a b)) ts ≡ true → begins code (ms a b) ts ≡ false)
    (ks : A → List ℕ)
    (stops : (v : A) (ts : List T) → begins code (ks v) ts ≡ false → (on v && begins code (s v) ts) ≡ false)
    (last : (a : A) (b : B) (ts : List T) → begins code (ks (f a b)) ts ≡ false → begins code (ms a b) ts ≡ false) where
  abbrev StepsReading : A → ℕ → Reading T A
  StepsReading a e = Steps on (λ a. S a e) f a

  abbrev goes_on : A → List T → Bool
  goes_on a ts = on a && begins code (s a) ts

  -- what may come next at a value
  abbrev pub ahead : A → List ℕ
  ahead a = choose (on a) (s a) []

  covered : (a : A) (ts : List T) → goes_on a ts ≡ true → begins code (ahead a) ts ≡ true
  covered a ts e = go (on a) (and_both _ _ e).0 (and_both _ _ e).1
    where
      go : (b : Bool) → b ≡ true → begins code (s a) ts ≡ true → begins code (choose b (s a) []) ts ≡ true
      go true h k = k
      go false h k = absurd (true≢false (sym h))

  alike_on : (a : A) (ts p rest y : List T) (b : Bool) → ts ≡ p ++ rest → SameHead rest y → goes_on a ts ≡ b → goes_on a (p ++ y) ≡ b
  alike_on a ts p rest y b e h k = ap (λ c. on a && c) (alike code (s a) ts p rest y (begins code (s a) ts) e h refl) ∙ k

  same_on : (a : A) (ts y : List T) (b : Bool) → SameHead ts y → goes_on a ts ≡ b → goes_on a y ≡ b
  same_on a ts y b h k = ap (λ c. on a && c) (same_self code ts y (s a) (begins code (s a) ts) h refl) ∙ k

  -- one turn, where more are left
  turn_yes : (n : ℕ) (a : A) (ts : List T) (o : Outcome T B) → goes_on a ts ≡ true → q a ts ≡ o
      → turns code on s q f (suc n) a ts ≡ and_then o (λ b mid. turns code on s q f n (f a b) mid)
  unfolding turns
  turn_yes n a ts o e h = ap {B = Outcome T A} (λ b. elim b [ true ↦ and_then (q a ts) (λ b mid. turns code on s q f n (f a b) mid) | false ↦ got a ts ]) e
      ∙ ap {B = Outcome T A} (λ o. and_then o (λ b mid. turns code on s q f n (f a b) mid)) h

  turn_no : (n : ℕ) (a : A) (ts : List T) → goes_on a ts ≡ false → turns code on s q f (suc n) a ts ≡ got a ts
  unfolding turns
  turn_no n a ts e = ap {B = Outcome T A} (λ b. elim b [ true ↦ and_then (q a ts) (λ b mid. turns code on s q f n (f a b) mid) | false ↦ got a ts ]) e

  abbrev StepsCause : A → Cause T
  StepsCause a p w rest = WalkCause on (λ a. S a d) f F w rest a p

  abbrev TurnsAgree : A → List T → Outcome T A → Type 0
  TurnsAgree a ts (got v rest) = (p : List T) × (ts ≡ p ++ rest) × ((y : List T) → StepsReading a d (p ++ y) v y)
      × ((y : List T) → SameHead rest y → (m : ℕ) → length (p ++ y) < m → turns code on s q f m a (p ++ y) ≡ got v y)
  TurnsAgree a ts (refused w rest) = (p : List T) × (ts ≡ p ++ rest) × Live (StepsReading a) p
      × ((y : List T) → SameHead rest y → (m : ℕ) → length (p ++ y) < m → turns code on s q f m a (p ++ y) ≡ refused w y)
      × Caused why (StepsCause a) p w rest

  steps_lift : (e g : ℕ) → e ≤ g → (a : A) (ts : List T) (v : A) (rest : List T) → StepsReading a e ts v rest → StepsReading a g ts v rest
  steps_lift e g le a ts v rest done = done
  steps_lift e g le a ts v rest (step {b = b} {mid = mid} o h k) = step o ((z a).lifts e g le ts b mid h) (steps_lift e g le (f a b) mid v rest k)

  le_left : (a b : ℕ) → a ≤ max a b
  le_left a b = omega arith

  le_right : (a b : ℕ) → b ≤ max a b
  le_right a b = omega arith

  live_step : (a : A) (p : List T) → on a ≡ true → Live (S a) p → Live (StepsReading a) p
  live_step a p o h = (h.0, h.1, f a h.2, λ y. step o (h.3 y) done)

  live_later : (a : A) (b : B) (p u : List T) → on a ≡ true → ((y : List T) → S a d (p ++ y) b y) → Live (StepsReading (f a b)) u → Live (StepsReading a) (p ++ u)
  live_later a b p u o h k = (
    max d k.0,
    k.1,
    k.2,
    λ y.
        subst (λ us. StepsReading a (max d k.0) us k.2 y) (sym (append_assoc p u (k.1 ++ y)))
        (step o ((z a).lifts d _ (le_left d k.0) _ _ _ (h (u ++ (k.1 ++ y)))) (steps_lift k.0 _ (le_right d k.0) _ _ _ _ (k.3 y))),
  )

  goes : (a : A) (ts : List T) (b : B) (mid : List T) → on a ≡ true → S a d ts b mid → (goes_on a ts ≡ true) × (length mid < length ts)
  goes a ts b mid o h = go ((z a).starts ts b mid h)
    where
      go : Starts code (s a) false ts mid → (goes_on a ts ≡ true) × (length mid < length ts)
      go (inl k) = (ap (λ c. c && begins code (s a) ts) o ∙ k.0, k.1)
      go (inr k) = absurd (true≢false (sym k.0))

  stop_stays : (a : A) (y : List T) → goes_on a y ≡ false → (m : ℕ) → length y < m → turns code on s q f m a y ≡ got a y
  stop_stays a y e zero l = absurd (omega arith)
  stop_stays a y e (suc m) l = turn_no m a y e

  refused_stays : (a : A) (y : List T) (w : Refusal) (us : List T) → goes_on a y ≡ true → q a y ≡ refused w us → (m : ℕ) → length y < m → turns code on s q f m a y ≡ refused w us
  refused_stays a y w us e h zero l = absurd (omega arith)
  refused_stays a y w us e h (suc m) l = turn_yes m a y (refused w us) e h

  later_stays : (a : A) (b : B) (y mid : List T) (o : Outcome T A) → goes_on a y ≡ true → q a y ≡ got b mid → length mid < length y
      → ((m : ℕ) → length mid < m → turns code on s q f m (f a b) mid ≡ o) → (m : ℕ) → length y < m → turns code on s q f m a y ≡ o
  later_stays a b y mid o e h l k zero g = absurd (omega arith)
  later_stays a b y mid o e h l k (suc m) g = turn_yes m a y (got b mid) e h ∙ k m (omega arith)

  split : (ts p mid u rest : List T) → ts ≡ p ++ mid → mid ≡ u ++ rest → ts ≡ (p ++ u) ++ rest
  split ts p mid u rest e g = e ∙ ap (λ us. p ++ us) g ∙ sym (append_assoc p u rest)

  stays : (a : A) (b : B) (ts p mid u rest : List T) (o : List T → Outcome T A) → ts ≡ p ++ mid → goes_on a ts ≡ true
      → ((y : List T) → S a d (p ++ y) b y)
      → ((y : List T) → SameHead mid y → q a (p ++ y) ≡ got b y) → mid ≡ u ++ rest
      → ((y : List T) → SameHead rest y → (m : ℕ) → length (u ++ y) < m → turns code on s q f m (f a b) (u ++ y) ≡ o y)
      → (y : List T) → SameHead rest y → (m : ℕ) → length ((p ++ u) ++ y) < m → turns code on s q f m a ((p ++ u) ++ y) ≡ o y
  stays a b ts p mid u rest o e t frame h g k y same =
      subst (λ us. (m : ℕ) → length us < m → turns code on s q f m a us ≡ o y) (sym (append_assoc p u y))
      (let near : SameHead mid (u ++ y) = subst (λ m. SameHead m (u ++ y)) (sym g) (same_append u rest y same) in
      later_stays a b (p ++ (u ++ y)) (u ++ y) (o y)
      (alike_on a ts p mid (u ++ y) true e near t)
      (h (u ++ y) near)
      (goes a (p ++ (u ++ y)) b (u ++ y) (and_both _ _ t).0 (frame (u ++ y))).1
      (k y same))

  here_cause : (a : A) (p : List T) (w : Refusal) (rest : List T) → on a ≡ true → Caused why (F a) p w rest → Caused why (StepsCause a) p w rest
  here_cause a p w rest o (inl e) = inl e
  here_cause a p w rest o (inr e) = inr (here o e)

  later_cause : (a : A) (b : B) (p u : List T) (w : Refusal) (rest : List T) → on a ≡ true → ((y : List T) → S a d (p ++ y) b y) → Caused why (StepsCause (f a b)) u w rest → Caused why (StepsCause a) (p ++ u) w rest
  later_cause a b p u w rest o h (inl e) = inl e
  later_cause a b p u w rest o h (inr e) = inr (later p u o h e)

  later_agrees : (a : A) (b : B) (ts mid : List T) → goes_on a ts ≡ true → Agrees why (q a) (S a) (F a) d ts (got b mid)
      → (o : Outcome T A) → TurnsAgree (f a b) mid o → TurnsAgree a ts o
  later_agrees a b ts mid t h (got v rest) k = (
    h.0 ++ k.0,
    split ts h.0 mid k.0 rest h.1 k.1,
    λ y. subst (λ us. StepsReading a d us v y) (sym (append_assoc h.0 k.0 y)) (step (and_both _ _ t).0 (h.2 (k.0 ++ y)) (k.2 y)),
    stays a b ts h.0 mid k.0 rest (got v) h.1 t h.2 h.3 k.1 k.3,
  )
  later_agrees a b ts mid t h (refused w rest) k = (
    h.0 ++ k.0,
    split ts h.0 mid k.0 rest h.1 k.1,
    live_later a b h.0 k.0 (and_both _ _ t).0 h.2 k.2,
    stays a b ts h.0 mid k.0 rest (refused w) h.1 t h.2 h.3 k.1 k.3,
    later_cause a b h.0 k.0 w rest (and_both _ _ t).0 h.2 k.4,
  )

  shorter : (a : A) (b : B) (ts mid : List T) → on a ≡ true → Agrees why (q a) (S a) (F a) d ts (got b mid) → length mid < length ts
  shorter a b ts mid o h = subst (λ us. length mid < length us) (sym h.1) (goes a (h.0 ++ mid) b mid o (h.2 mid)).1

  yes_agrees : (n : ℕ) (a : A) (ts : List T) → length ts < suc n → goes_on a ts ≡ true
      → ((b : B) (mid : List T) → length mid < n → TurnsAgree (f a b) mid (turns code on s q f n (f a b) mid))
      → (o : Outcome T B) → Agrees why (q a) (S a) (F a) d ts o → TurnsAgree a ts (and_then o (λ b mid. turns code on s q f n (f a b) mid))
  yes_agrees n a ts l t ih (got b mid) h = later_agrees a b ts mid t h (turns code on s q f n (f a b) mid) (ih b mid (let k = shorter a b ts mid (and_both _ _ t).0 h in omega arith))
  yes_agrees n a ts l t ih (refused w rest) h = (
    h.0,
    h.1,
    live_step a h.0 (and_both _ _ t).0 h.2,
    λ y same. refused_stays a (h.0 ++ y) w y (alike_on a ts h.0 rest y true h.1 same t) (h.3 y same),
    here_cause a h.0 w rest (and_both _ _ t).0 h.4,
  )

  turn_agrees : (n : ℕ) (a : A) (ts : List T) → length ts < suc n
      → ((b : B) (mid : List T) → length mid < n → TurnsAgree (f a b) mid (turns code on s q f n (f a b) mid))
      → TurnsAgree a ts (turns code on s q f (suc n) a ts)
  turn_agrees n a ts l ih = go (goes_on a ts) refl
    where
      go : (b : Bool) → goes_on a ts ≡ b → TurnsAgree a ts (turns code on s q f (suc n) a ts)
      go true e = subst (TurnsAgree a ts) (sym (turn_yes n a ts (q a ts) e refl)) (yes_agrees n a ts l e ih (q a ts) ((z a).agrees ts))
      go false e = subst (TurnsAgree a ts) (sym (turn_no n a ts e)) ([], refl, λ y. done, λ y same m g. stop_stays a y (same_on a ts y false same e) m g)

  turns_agree : (n : ℕ) (a : A) (ts : List T) → length ts < n → TurnsAgree a ts (turns code on s q f n a ts)
  turns_agree zero a ts l = absurd (omega arith)
  turns_agree (suc n) a ts l = turn_agrees n a ts l (λ b mid k. turns_agree n (f a b) mid k)

  abbrev whole : A → List T → Outcome T A
  whole a ts = turns code on s q f (suc (length ts)) a ts

  whole_agrees_at : (a : A) (ts : List T) (o : Outcome T A) → TurnsAgree a ts o → Agrees why (whole a) (StepsReading a) (StepsCause a) d ts o
  whole_agrees_at a ts (got v rest) h = (h.0, h.1, h.2, λ y same. h.3 y same (suc (length (h.0 ++ y))) (omega arith))
  whole_agrees_at a ts (refused w rest) h = (h.0, h.1, h.2, (λ y same. h.3 y same (suc (length (h.0 ++ y))) (omega arith)), h.4)

  steps_start : (a : A) (ts : List T) (v : A) (rest : List T) → StepsReading a d ts v rest → Starts code (ahead a) true ts rest
  steps_start a ts v rest done = inr (refl, refl)
  steps_start a ts v rest (step {b = b} {mid = mid} o h k) = go (goes a ts b mid o h) (steps_start (f a b) mid v rest k)
    where
      go : (goes_on a ts ≡ true) × (length mid < length ts) → Starts code (ahead (f a b)) true mid rest → Starts code (ahead a) true ts rest
      go g (inl i) = inl (covered a ts g.0, let l = g.1 in let m = i.1 in omega arith)
      go g (inr i) = inl (covered a ts g.0, subst (λ us. length us < length ts) (sym i.1) g.1)

  quiet : (a : A) (b : B) (mid : List T) (v : A) (rest : List T) → StepsReading (f a b) d mid v rest → begins code (ks v) rest ≡ false → begins code (ms a b) mid ≡ false
  quiet a b mid v rest done n = last a b mid n
  quiet a b mid v rest (step {b = b'} {mid = mid'} o h k) n =
      apart a b mid o (and_both _ _ (goes (f a b) mid b' mid' o h).0).1

  steps_find : (a : A) (ts : List T) (v : A) (rest : List T) → StepsReading a d ts v rest → begins code (ks v) rest ≡ false
      → (n : ℕ) → length ts < n → turns code on s q f n a ts ≡ got v rest
  steps_find a ts v rest done e n l = stop_stays a ts (stops a ts e) n l
  steps_find a ts v rest (step {b = b} {mid = mid} o h k) e n l =
      let i = goes a ts b mid o h in
      later_stays a b ts mid (got v rest) i.0 ((z a).finds ts b mid h (quiet a b mid v rest k e)) i.1
      (steps_find (f a b) mid v rest k e) n l

  on_both : (a : A) (ts : List T) → on a ≡ true → begins code (s a) ts ≡ true → goes_on a ts ≡ true
  on_both a ts o e = ap (λ c. c && begins code (s a) ts) o ∙ e

  walk_meets : (w : Refusal) (rest : List T) (a : A) (p : List T) → StepsCause a p w rest
      → ((m : ℕ) → length (p ++ rest) < m → turns code on s q f m a (p ++ rest) ≡ refused w rest) × (goes_on a (p ++ rest) ≡ true)
  walk_meets w rest a p (here o e) =
      let m = (z a).meets p w rest e in let t = on_both a (p ++ rest) o m.1 in
      (λ n l. refused_stays a (p ++ rest) w rest t m.0 n l, t)
  walk_meets w rest a p (later {b = b} u k o h e) =
      let i = walk_meets w rest (f a b) k e in
      let both = and_both _ _ i.1 in
      let same : (u ++ k) ++ rest ≡ u ++ (k ++ rest) = append_assoc u k rest in
      let t = goes a (u ++ (k ++ rest)) b (k ++ rest) o (h (k ++ rest)) in
      let found = (z a).finds (u ++ (k ++ rest)) b (k ++ rest) (h (k ++ rest)) (apart a b (k ++ rest) both.0 both.1) in (
        subst (λ us. (m : ℕ) → length us < m → turns code on s q f m a us ≡ refused w rest) (sym same)
            (λ n l. later_stays a b (u ++ (k ++ rest)) (k ++ rest) (refused w rest) t.0 found t.1 i.0 n l),
        subst (λ us. goes_on a us ≡ true) (sym same) t.0,
      )

  pub exact_turns : (a : A) → Exact code why (whole a) (StepsReading a) (StepsCause a) d (ahead a) ks true
  exact_turns a = record {
    agrees = λ ts. whole_agrees_at a ts (whole a ts) (turns_agree (suc (length ts)) a ts (omega arith));
    finds = λ ts v rest h e. steps_find a ts v rest h e (suc (length ts)) (omega arith);
    starts = steps_start a;
    lifts = λ e g le ts v rest h. steps_lift e g le a ts v rest h;
    lives = (0, [], a, λ y. done);
    meets = λ p w rest e. let m = walk_meets w rest a p e in (m.0 (suc (length (p ++ rest))) (omega arith), covered a (p ++ rest) m.1);
  }
