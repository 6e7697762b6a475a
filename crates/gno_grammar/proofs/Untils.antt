-- The law of a repetition that goes on until the value ends it.
use Rattle.std.proofs.Common.{◌≡◌, refl, sym, ap, ◌∙◌, subst, ℕ, zero, suc, ◌<◌, ◌≤◌, max, Bool, true, false, not, List, [], ◌++◌, length, inl, inr, append_assoc, arith, true≢false}
use Rattle.gno_grammar.specs.Sets.{choose}
use Rattle.gno_grammar.specs.Readings.{Reading, UntilSteps, until_done, until_step}
use Rattle.gno_grammar.specs.Readers.{Outcome, got, refused, and_then, until_turns, begins}
use Rattle.gno_grammar.specs.Stops.{Cause, WalkCause, here, later}
use Rattle.gno_grammar.specs.declared.refusal.Refusal.{Refusal}
use Rattle.gno_grammar.proofs.Sets.{not_true}
use Rattle.gno_grammar.proofs.Laws.{SameHead, same_append, Live, Agrees, Caused, Starts, Exact}

-- one step more brings this value to one that ends the repetition
abbrev pub CanEnd : {T A B : Type 0} → (A → Bool) → (A → ℕ → Reading T B) → (A → B → A) → A → Type 0
CanEnd {T = T} {B = B} p S f a = (e : ℕ) × (u : List T) × (b : B) × ((y : List T) → S a e (u ++ y) b y) × (p (f a b) ≡ true)

module _ {T : Type 0} (code : T → ℕ) (why : T → Refusal) {A B : Type 0} (p : A → Bool) (f : A → B → A) (s : A → List ℕ) (q : A → List T → Outcome T B) (S : A → ℕ → Reading T B) (F : A → Cause T)
    (d : ℕ) (ms : A → B → List ℕ) (z : (a : A) → Exact code why (q a) (S a) (F a) d (s a) (ms a) false)
    (apart : (a : A) (b : B) (ts : List T) → p (f a b) ≡ false → begins code (s (f a b)) ts ≡ true → begins code (ms a b) ts ≡ false)
    (ks : A → List ℕ)
    (last : (a : A) (b : B) (ts : List T) → p (f a b) ≡ true → begins code (ks (f a b)) ts ≡ false → begins code (ms a b) ts ≡ false)
    (ends : (a : A) → p a ≡ false → CanEnd p S f a) where
  abbrev UntilReading : A → ℕ → Reading T A
  UntilReading a e = UntilSteps p (λ a. S a e) f a

  abbrev UntilCause : A → Cause T
  UntilCause a u w rest = WalkCause (λ a. not (p a)) (λ a. S a d) f F w rest a u

  abbrev rounds : ℕ → A → List T → Outcome T A
  rounds n a ts = until_turns p q f n a ts

  -- what must come next at a value
  abbrev pub needed : A → List ℕ
  needed a = choose (p a) [] (s a)

  covered : (a : A) (ts : List T) → p a ≡ false → begins code (s a) ts ≡ true → begins code (needed a) ts ≡ true
  covered a ts e k = go (p a) e
    where
      go : (b : Bool) → b ≡ false → begins code (choose b [] (s a)) ts ≡ true
      go true h = absurd (true≢false h)
      go false h = k

  -- one turn, where more are left
  turn_more : (n : ℕ) (a : A) (ts : List T) (o : Outcome T B) → p a ≡ false → q a ts ≡ o → rounds (suc n) a ts ≡ and_then o (λ b mid. rounds n (f a b) mid)
  unfolding until_turns
  turn_more n a ts o e h = ap {B = Outcome T A} (λ b. elim b [ true ↦ got a ts | false ↦ and_then (q a ts) (λ b mid. until_turns p q f n (f a b) mid) ]) e
      ∙ ap {B = Outcome T A} (λ o. and_then o (λ b mid. until_turns p q f n (f a b) mid)) h

  turn_end : (n : ℕ) (a : A) (ts : List T) → p a ≡ true → rounds (suc n) a ts ≡ got a ts
  unfolding until_turns
  turn_end n a ts e = ap {B = Outcome T A} (λ b. elim b [ true ↦ got a ts | false ↦ and_then (q a ts) (λ b mid. until_turns p q f n (f a b) mid) ]) e

  abbrev RoundsAgree : A → List T → Outcome T A → Type 0
  RoundsAgree a ts (got v rest) = (u : List T) × (ts ≡ u ++ rest) × ((y : List T) → UntilReading a d (u ++ y) v y)
      × ((y : List T) → SameHead rest y → (m : ℕ) → length (u ++ y) < m → rounds m a (u ++ y) ≡ got v y)
  RoundsAgree a ts (refused w rest) = (u : List T) × (ts ≡ u ++ rest) × Live (UntilReading a) u
      × ((y : List T) → SameHead rest y → (m : ℕ) → length (u ++ y) < m → rounds m a (u ++ y) ≡ refused w y)
      × Caused why (UntilCause a) u w rest

  steps_lift : (e g : ℕ) → e ≤ g → (a : A) (ts : List T) (v : A) (rest : List T) → UntilReading a e ts v rest → UntilReading a g ts v rest
  steps_lift e g le a ts v rest (until_done o) = until_done o
  steps_lift e g le a ts v rest (until_step {b = b} {mid = mid} o h k) = until_step o ((z a).lifts e g le ts b mid h) (steps_lift e g le (f a b) mid v rest k)

  le_left : (a b : ℕ) → a ≤ max a b
  le_left a b = omega arith

  le_right : (a b : ℕ) → b ≤ max a b
  le_right a b = omega arith

  -- from every value an end can be had
  live_all : (a : A) → Live (UntilReading a) []
  live_all a = go (p a) refl
    where
      go : (b : Bool) → p a ≡ b → Live (UntilReading a) []
      go true e = (0, [], a, λ y. until_done e)
      go false e = let h = ends a e in (h.0, h.1, f a h.2, λ y. until_step e (h.3 y) (until_done h.4))

  live_step : (a : A) (u : List T) → p a ≡ false → Live (S a) u → Live (UntilReading a) u
  live_step a u o h = go (live_all (f a h.2))
    where
      go : Live (UntilReading (f a h.2)) [] → Live (UntilReading a) u
      go k = (
        max h.0 k.0,
        h.1 ++ k.1,
        k.2,
        λ y.
            subst (λ us. UntilReading a (max h.0 k.0) (u ++ us) k.2 y) (sym (append_assoc h.1 k.1 y))
            (until_step o ((z a).lifts h.0 _ (le_left h.0 k.0) _ _ _ (h.3 (k.1 ++ y))) (steps_lift k.0 _ (le_right h.0 k.0) _ _ _ _ (k.3 y))),
      )

  live_later : (a : A) (b : B) (t u : List T) → p a ≡ false → ((y : List T) → S a d (t ++ y) b y) → Live (UntilReading (f a b)) u → Live (UntilReading a) (t ++ u)
  live_later a b t u o h k = (
    max d k.0,
    k.1,
    k.2,
    λ y.
        subst (λ us. UntilReading a (max d k.0) us k.2 y) (sym (append_assoc t u (k.1 ++ y)))
        (until_step o ((z a).lifts d _ (le_left d k.0) _ _ _ (h (u ++ (k.1 ++ y)))) (steps_lift k.0 _ (le_right d k.0) _ _ _ _ (k.3 y))),
  )

  goes : (a : A) (ts : List T) (b : B) (mid : List T) → S a d ts b mid → (begins code (s a) ts ≡ true) × (length mid < length ts)
  goes a ts b mid h = go ((z a).starts ts b mid h)
    where
      go : Starts code (s a) false ts mid → (begins code (s a) ts ≡ true) × (length mid < length ts)
      go (inl k) = k
      go (inr k) = absurd (true≢false (sym k.0))

  end_stays : (a : A) (y : List T) → p a ≡ true → (m : ℕ) → length y < m → rounds m a y ≡ got a y
  end_stays a y e zero l = absurd (omega arith)
  end_stays a y e (suc m) l = turn_end m a y e

  refused_stays : (a : A) (y : List T) (w : Refusal) (us : List T) → p a ≡ false → q a y ≡ refused w us → (m : ℕ) → length y < m → rounds m a y ≡ refused w us
  refused_stays a y w us e h zero l = absurd (omega arith)
  refused_stays a y w us e h (suc m) l = turn_more m a y (refused w us) e h

  later_stays : (a : A) (b : B) (y mid : List T) (o : Outcome T A) → p a ≡ false → q a y ≡ got b mid → length mid < length y
      → ((m : ℕ) → length mid < m → rounds m (f a b) mid ≡ o) → (m : ℕ) → length y < m → rounds m a y ≡ o
  later_stays a b y mid o e h l k zero g = absurd (omega arith)
  later_stays a b y mid o e h l k (suc m) g = turn_more m a y (got b mid) e h ∙ k m (omega arith)

  split : (ts t mid u rest : List T) → ts ≡ t ++ mid → mid ≡ u ++ rest → ts ≡ (t ++ u) ++ rest
  split ts t mid u rest e g = e ∙ ap (λ us. t ++ us) g ∙ sym (append_assoc t u rest)

  stays : (a : A) (b : B) (t mid u rest : List T) (o : List T → Outcome T A) → p a ≡ false
      → ((y : List T) → S a d (t ++ y) b y)
      → ((y : List T) → SameHead mid y → q a (t ++ y) ≡ got b y) → mid ≡ u ++ rest
      → ((y : List T) → SameHead rest y → (m : ℕ) → length (u ++ y) < m → rounds m (f a b) (u ++ y) ≡ o y)
      → (y : List T) → SameHead rest y → (m : ℕ) → length ((t ++ u) ++ y) < m → rounds m a ((t ++ u) ++ y) ≡ o y
  stays a b t mid u rest o e frame h g k y same =
      subst (λ us. (m : ℕ) → length us < m → rounds m a us ≡ o y) (sym (append_assoc t u y))
      (let near : SameHead mid (u ++ y) = subst (λ m. SameHead m (u ++ y)) (sym g) (same_append u rest y same) in
      later_stays a b (t ++ (u ++ y)) (u ++ y) (o y) e
      (h (u ++ y) near)
      (goes a (t ++ (u ++ y)) b (u ++ y) (frame (u ++ y))).1
      (k y same))

  here_cause : (a : A) (t : List T) (w : Refusal) (rest : List T) → p a ≡ false → Caused why (F a) t w rest → Caused why (UntilCause a) t w rest
  here_cause a t w rest o (inl e) = inl e
  here_cause a t w rest o (inr e) = inr (here (ap not o) e)

  later_cause : (a : A) (b : B) (t u : List T) (w : Refusal) (rest : List T) → p a ≡ false → ((y : List T) → S a d (t ++ y) b y) → Caused why (UntilCause (f a b)) u w rest → Caused why (UntilCause a) (t ++ u) w rest
  later_cause a b t u w rest o h (inl e) = inl e
  later_cause a b t u w rest o h (inr e) = inr (later t u (ap not o) h e)

  later_agrees : (a : A) (b : B) (ts mid : List T) → p a ≡ false → Agrees why (q a) (S a) (F a) d ts (got b mid)
      → (o : Outcome T A) → RoundsAgree (f a b) mid o → RoundsAgree a ts o
  later_agrees a b ts mid t h (got v rest) k = (
    h.0 ++ k.0,
    split ts h.0 mid k.0 rest h.1 k.1,
    λ y. subst (λ us. UntilReading a d us v y) (sym (append_assoc h.0 k.0 y)) (until_step t (h.2 (k.0 ++ y)) (k.2 y)),
    stays a b h.0 mid k.0 rest (got v) t h.2 h.3 k.1 k.3,
  )
  later_agrees a b ts mid t h (refused w rest) k = (
    h.0 ++ k.0,
    split ts h.0 mid k.0 rest h.1 k.1,
    live_later a b h.0 k.0 t h.2 k.2,
    stays a b h.0 mid k.0 rest (refused w) t h.2 h.3 k.1 k.3,
    later_cause a b h.0 k.0 w rest t h.2 k.4,
  )

  shorter : (a : A) (b : B) (ts mid : List T) → Agrees why (q a) (S a) (F a) d ts (got b mid) → length mid < length ts
  shorter a b ts mid h = subst (λ us. length mid < length us) (sym h.1) (goes a (h.0 ++ mid) b mid (h.2 mid)).1

  more_agrees : (n : ℕ) (a : A) (ts : List T) → length ts < suc n → p a ≡ false
      → ((b : B) (mid : List T) → length mid < n → RoundsAgree (f a b) mid (rounds n (f a b) mid))
      → (o : Outcome T B) → Agrees why (q a) (S a) (F a) d ts o → RoundsAgree a ts (and_then o (λ b mid. rounds n (f a b) mid))
  more_agrees n a ts l t ih (got b mid) h = later_agrees a b ts mid t h (rounds n (f a b) mid) (ih b mid (let k = shorter a b ts mid h in omega arith))
  more_agrees n a ts l t ih (refused w rest) h =
      (h.0, h.1, live_step a h.0 t h.2, λ y same. refused_stays a (h.0 ++ y) w y t (h.3 y same), here_cause a h.0 w rest t h.4)

  turn_agrees : (n : ℕ) (a : A) (ts : List T) → length ts < suc n
      → ((b : B) (mid : List T) → length mid < n → RoundsAgree (f a b) mid (rounds n (f a b) mid))
      → RoundsAgree a ts (rounds (suc n) a ts)
  turn_agrees n a ts l ih = go (p a) refl
    where
      go : (b : Bool) → p a ≡ b → RoundsAgree a ts (rounds (suc n) a ts)
      go true e = subst (RoundsAgree a ts) (sym (turn_end n a ts e)) ([], refl, λ y. until_done e, λ y same m g. end_stays a y e m g)
      go false e = subst (RoundsAgree a ts) (sym (turn_more n a ts (q a ts) e refl)) (more_agrees n a ts l e ih (q a ts) ((z a).agrees ts))

  rounds_agree : (n : ℕ) (a : A) (ts : List T) → length ts < n → RoundsAgree a ts (rounds n a ts)
  rounds_agree zero a ts l = absurd (omega arith)
  rounds_agree (suc n) a ts l = turn_agrees n a ts l (λ b mid k. rounds_agree n (f a b) mid k)

  abbrev whole : A → List T → Outcome T A
  whole a ts = until_turns p q f (suc (length ts)) a ts

  whole_agrees_at : (a : A) (ts : List T) (o : Outcome T A) → RoundsAgree a ts o → Agrees why (whole a) (UntilReading a) (UntilCause a) d ts o
  whole_agrees_at a ts (got v rest) h = (h.0, h.1, h.2, λ y same. h.3 y same (suc (length (h.0 ++ y))) (omega arith))
  whole_agrees_at a ts (refused w rest) h = (h.0, h.1, h.2, (λ y same. h.3 y same (suc (length (h.0 ++ y))) (omega arith)), h.4)

  steps_start : (a : A) (ts : List T) (v : A) (rest : List T) → UntilReading a d ts v rest → Starts code (needed a) true ts rest
  steps_start a ts v rest (until_done o) = inr (refl, refl)
  steps_start a ts v rest (until_step {b = b} {mid = mid} o h k) = go (goes a ts b mid h) (steps_start (f a b) mid v rest k)
    where
      go : (begins code (s a) ts ≡ true) × (length mid < length ts) → Starts code (needed (f a b)) true mid rest → Starts code (needed a) true ts rest
      go g (inl i) = inl (covered a ts o g.0, let l = g.1 in let m = i.1 in omega arith)
      go g (inr i) = inl (covered a ts o g.0, subst (λ us. length us < length ts) (sym i.1) g.1)

  quiet : (a : A) (b : B) (mid : List T) (v : A) (rest : List T) → UntilReading (f a b) d mid v rest → begins code (ks v) rest ≡ false → begins code (ms a b) mid ≡ false
  quiet a b mid v rest (until_done o) n = last a b mid o n
  quiet a b mid v rest (until_step {b = b'} {mid = mid'} o h k) n = apart a b mid o (goes (f a b) mid b' mid' h).0

  steps_find : (a : A) (ts : List T) (v : A) (rest : List T) → UntilReading a d ts v rest → begins code (ks v) rest ≡ false
      → (n : ℕ) → length ts < n → rounds n a ts ≡ got v rest
  steps_find a ts v rest (until_done o) e n l = end_stays a ts o n l
  steps_find a ts v rest (until_step {b = b} {mid = mid} o h k) e n l =
      later_stays a b ts mid (got v rest) o ((z a).finds ts b mid h (quiet a b mid v rest k e)) (goes a ts b mid h).1
      (steps_find (f a b) mid v rest k e) n l

  walk_meets : (w : Refusal) (rest : List T) (a : A) (u : List T) → UntilCause a u w rest
      → ((m : ℕ) → length (u ++ rest) < m → rounds m a (u ++ rest) ≡ refused w rest) × (p a ≡ false) × (begins code (s a) (u ++ rest) ≡ true)
  walk_meets w rest a u (here o e) =
      let m = (z a).meets u w rest e in let n = not_true (p a) o in
      (λ i l. refused_stays a (u ++ rest) w rest n m.0 i l, n, m.1)
  walk_meets w rest a u (later {b = b} t k o h e) =
      let i = walk_meets w rest (f a b) k e in
      let n = not_true (p a) o in
      let same : (t ++ k) ++ rest ≡ t ++ (k ++ rest) = append_assoc t k rest in
      let g = goes a (t ++ (k ++ rest)) b (k ++ rest) (h (k ++ rest)) in
      let found = (z a).finds (t ++ (k ++ rest)) b (k ++ rest) (h (k ++ rest)) (apart a b (k ++ rest) i.1 i.2) in (
        subst (λ us. (m : ℕ) → length us < m → rounds m a us ≡ refused w rest) (sym same)
            (λ j l. later_stays a b (t ++ (k ++ rest)) (k ++ rest) (refused w rest) n found g.1 i.0 j l),
        n,
        subst (λ us. begins code (s a) us ≡ true) (sym same) g.0,
      )

  pub exact_until : (a : A) → Exact code why (whole a) (UntilReading a) (UntilCause a) d (needed a) ks true
  exact_until a = record {
    agrees = λ ts. whole_agrees_at a ts (whole a ts) (rounds_agree (suc (length ts)) a ts (omega arith));
    finds = λ ts v rest h e. steps_find a ts v rest h e (suc (length ts)) (omega arith);
    starts = steps_start a;
    lifts = λ e g le ts v rest h. steps_lift e g le a ts v rest h;
    lives = live_all a;
    meets = λ u w rest e. let m = walk_meets w rest a u e in (m.0 (suc (length (u ++ rest))) (omega arith), covered a (u ++ rest) m.1 m.2);
  }
