-- The law of a function of what is read, of weaker sets, and of one reader behind another.
use Rattle.std.proofs.Common.{◌≡◌, refl, sym, ap, ◌∙◌, subst, ℕ, ◌<◌, ◌≤◌, max, Bool, true, false, ◌&&◌, List, [], ◌++◌, length, inl, inr, append_assoc, arith}
use Rattle.gno_grammar.specs.Sets.{choose}
use Rattle.gno_grammar.specs.Readings.{Reading, Bind, Map}
use Rattle.gno_grammar.specs.Readers.{Outcome, got, refused, and_then, bind, map, begins}
use Rattle.gno_grammar.specs.Stops.{Cause, ThenCause}
use Rattle.gno_grammar.specs.declared.refusal.Refusal.{Refusal}
use Rattle.gno_grammar.proofs.Laws.{SameHead, same_append, Live, Agrees, Caused, Starts, Exact, begins_left, begins_right}

module _ {T : Type 0} (code : T → ℕ) (why : T → Refusal) where
  -- ---- a function of what is read

  module _ {A B : Type 0} (f : A → B) (r : List T → Outcome T A) (R : ℕ → Reading T A) (E : Cause T) (d : ℕ) (fs : List ℕ) (ms : A → List ℕ) (nl : Bool) (x : Exact code why r R E d fs ms nl)
      (ks : B → List ℕ) (keeps : (a : A) (ts : List T) → begins code (ks (f a)) ts ≡ false → begins code (ms a) ts ≡ false) where
    abbrev MapReading : ℕ → Reading T B
    MapReading e = Map f (R e)

    map_agrees_at : (ts : List T) (o : Outcome T A) → Agrees why r R E d ts o → Agrees why (map f r) MapReading E d ts (and_then o (λ a rest. got (f a) rest))
    map_agrees_at ts (got a rest) h = (h.0, h.1, λ y. (a, h.2 y, refl), λ y s. ap {B = Outcome T B} (λ o. and_then o (λ a rest. got (f a) rest)) (h.3 y s))
    map_agrees_at ts (refused w rest) h =
        (h.0, h.1, (h.2.0, h.2.1, f h.2.2, λ y. (h.2.2, h.2.3 y, refl)), λ y s. ap {B = Outcome T B} (λ o. and_then o (λ a rest. got (f a) rest)) (h.3 y s), h.4)

    map_finds : (ts : List T) (v : B) (rest : List T) → MapReading d ts v rest → begins code (ks v) rest ≡ false → map f r ts ≡ got v rest
    map_finds ts v rest h n =
        let m = keeps h.0 rest (subst (λ v. begins code (ks v) rest ≡ false) h.2 n) in
        ap {B = Outcome T B} (λ o. and_then o (λ a rest. got (f a) rest)) (x.finds ts h.0 rest h.1 m) ∙ ap (λ b. got b rest) (sym h.2)

    pub exact_map : Exact code why (map f r) MapReading E d fs ks nl
    exact_map = record {
      agrees = λ ts. map_agrees_at ts (r ts) (x.agrees ts);
      finds = map_finds;
      starts = λ ts v rest h. x.starts ts h.0 rest h.1;
      lifts = λ e g le ts v rest h. (h.0, x.lifts e g le ts h.0 rest h.1, h.2);
      lives = (x.lives.0, x.lives.1, f x.lives.2, λ y. (x.lives.2, x.lives.3 y, refl));
      meets = λ p w rest e. let m = x.meets p w rest e in (ap {B = Outcome T B} (λ o. and_then o (λ a rest. got (f a) rest)) m.0, m.1);
    }

  -- ---- weaker sets

  pub exact_weaker : {A : Type 0} (r : List T → Outcome T A) (R : ℕ → Reading T A) (E : Cause T) (d : ℕ) (fs : List ℕ) (ms : A → List ℕ) (nl : Bool) (fs' : List ℕ) (ms' : A → List ℕ) (nl' : Bool)
      → ((ts : List T) → begins code fs ts ≡ true → begins code fs' ts ≡ true)
      → ((v : A) (ts : List T) → begins code (ms' v) ts ≡ false → begins code (ms v) ts ≡ false)
      → (nl ≡ true → nl' ≡ true)
      → Exact code why r R E d fs ms nl → Exact code why r R E d fs' ms' nl'
  exact_weaker r R E d fs ms nl fs' ms' nl' f m n x = record {
    agrees = x.agrees;
    finds = λ ts v rest h e. x.finds ts v rest h (m v rest e);
    starts = λ ts v rest h. elim (x.starts ts v rest h) [ inl a ↦ inl (f ts a.0, a.1) | inr b ↦ inr (n b.0, b.1) ];
    lifts = x.lifts;
    lives = x.lives;
    meets = λ p w rest e. let k = x.meets p w rest e in (k.0, f (p ++ rest) k.1);
  }

  -- ---- one, then another

  module _ {A B : Type 0} (r : List T → Outcome T A) (R : ℕ → Reading T A) (E : Cause T) (d : ℕ) (fs : List ℕ) (ms : A → List ℕ) (nl : Bool) (x : Exact code why r R E d fs ms nl)
      (q : A → List T → Outcome T B) (Q : A → ℕ → Reading T B) (F : A → Cause T) (s : A → List ℕ) (ns : A → B → List ℕ) (ml : Bool) (z : (a : A) → Exact code why (q a) (Q a) (F a) d (s a) (ns a) ml)
      (apart : (a : A) (ts : List T) → begins code (s a) ts ≡ true → begins code (ms a) ts ≡ false)
      (gs : List ℕ) (covers : nl ≡ true → (a : A) (ts : List T) → begins code (s a) ts ≡ true → begins code gs ts ≡ true)
      (ks : B → List ℕ) (later : (a : A) (v : B) (ts : List T) → begins code (ks v) ts ≡ false → begins code (ns a v) ts ≡ false)
      (under : (a : A) (v : B) (ts : List T) → ml ≡ true → Q a d ts v ts → begins code (ks v) ts ≡ false → begins code (ms a) ts ≡ false) where
    abbrev BindCause : Cause T
    BindCause = ThenCause (R d) E F

    abbrev BindReading : ℕ → Reading T B
    BindReading e = Bind (R e) (λ a. Q a e)

    le_left : (a b : ℕ) → a ≤ max a b
    le_left a b = omega arith

    le_right : (a b : ℕ) → b ≤ max a b
    le_right a b = omega arith

    live_first : (p : List T) → Live R p → Live BindReading p
    live_first p h = go h.0 h.1 h.2 h.3 (z h.2).lives
      where
        go : (e : ℕ) (s : List T) (a : A) → ((y : List T) → R e (p ++ (s ++ y)) a y) → Live (Q a) [] → Live BindReading p
        go e s a h k = (
          max e k.0,
          s ++ k.1,
          k.2,
          λ y.
              subst (λ us. BindReading (max e k.0) (p ++ us) k.2 y) (sym (append_assoc s k.1 y))
              (a, k.1 ++ y, x.lifts e _ (le_left e k.0) _ _ _ (h (k.1 ++ y)), (z a).lifts k.0 _ (le_right e k.0) _ _ _ (k.3 y)),
        )

    live_second : (p u : List T) (a : A) → ((y : List T) → R d (p ++ y) a y) → Live (Q a) u → Live BindReading (p ++ u)
    live_second p u a h k = (
      max d k.0,
      k.1,
      k.2,
      λ y.
          subst (λ us. BindReading (max d k.0) us k.2 y) (sym (append_assoc p u (k.1 ++ y)))
          (a, u ++ (k.1 ++ y), x.lifts d _ (le_left d k.0) _ _ _ (h (u ++ (k.1 ++ y))), (z a).lifts k.0 _ (le_right d k.0) _ _ _ (k.3 y)),
    )

    -- the whole front, and what stays the same behind another rest
    split : (ts p mid u rest : List T) → ts ≡ p ++ mid → mid ≡ u ++ rest → ts ≡ (p ++ u) ++ rest
    split ts p mid u rest e g = e ∙ ap (λ us. p ++ us) g ∙ sym (append_assoc p u rest)

    behind : (p mid u rest y : List T) → mid ≡ u ++ rest → SameHead rest y → SameHead mid (u ++ y)
    behind p mid u rest y g s = subst (λ m. SameHead m (u ++ y)) (sym g) (same_append u rest y s)

    stays : (p mid u rest : List T) (a : A) (o : List T → Outcome T B) → ((y : List T) → SameHead mid y → r (p ++ y) ≡ got a y) → mid ≡ u ++ rest
        → ((y : List T) → SameHead rest y → q a (u ++ y) ≡ o y) → (y : List T) → SameHead rest y → bind r q ((p ++ u) ++ y) ≡ o y
    stays p mid u rest a o h g k y s =
        ap (bind r q) (append_assoc p u y)
        ∙ ap {B = Outcome T B} (λ o. and_then o q) (h (u ++ y) (behind p mid u rest y g s))
        ∙ k y s

    first_cause : (p : List T) (w : Refusal) (rest : List T) → Caused why E p w rest → Caused why BindCause p w rest
    first_cause p w rest (inl e) = inl e
    first_cause p w rest (inr e) = inr (inl e)

    second_cause : (p u : List T) (a : A) (w : Refusal) (rest : List T) → ((y : List T) → R d (p ++ y) a y) → Caused why (F a) u w rest → Caused why BindCause (p ++ u) w rest
    second_cause p u a w rest h (inl e) = inl e
    second_cause p u a w rest h (inr e) = inr (inr (p, u, a, refl, h, e))

    second_agrees : (ts mid : List T) (a : A) → Agrees why r R E d ts (got a mid) → (o : Outcome T B) → Agrees why (q a) (Q a) (F a) d mid o → Agrees why (bind r q) BindReading BindCause d ts o
    second_agrees ts mid a h (got b rest) k = (
      h.0 ++ k.0,
      split ts h.0 mid k.0 rest h.1 k.1,
      λ y. subst (λ us. BindReading d us b y) (sym (append_assoc h.0 k.0 y)) (a, k.0 ++ y, h.2 (k.0 ++ y), k.2 y),
      stays h.0 mid k.0 rest a (got b) h.3 k.1 k.3,
    )
    second_agrees ts mid a h (refused w rest) k = (
      h.0 ++ k.0,
      split ts h.0 mid k.0 rest h.1 k.1,
      live_second h.0 k.0 a h.2 k.2,
      stays h.0 mid k.0 rest a (refused w) h.3 k.1 k.3,
      second_cause h.0 k.0 a w rest h.2 k.4,
    )

    bind_agrees_at : (ts : List T) (o : Outcome T A) → Agrees why r R E d ts o → Agrees why (bind r q) BindReading BindCause d ts (and_then o q)
    bind_agrees_at ts (got a mid) h = second_agrees ts mid a h (q a mid) ((z a).agrees mid)
    bind_agrees_at ts (refused w rest) h = (h.0, h.1, live_first h.0 h.2, λ y s. ap {B = Outcome T B} (λ o. and_then o q) (h.3 y s), first_cause h.0 w rest h.4)

    -- where the first one ends, its words don't go on
    ends : (a : A) (mid : List T) (v : B) (rest : List T) → Q a d mid v rest → Starts code (s a) ml mid rest → begins code (ks v) rest ≡ false → begins code (ms a) mid ≡ false
    ends a mid v rest k (inl i) n = apart a mid i.0
    ends a mid v rest k (inr i) n = subst (λ us. begins code (ms a) us ≡ false) i.1 (under a v rest i.0 (subst (λ us. Q a d us v rest) (sym i.1) k) n)

    bind_finds : (ts : List T) (v : B) (rest : List T) → BindReading d ts v rest → begins code (ks v) rest ≡ false → bind r q ts ≡ got v rest
    bind_finds ts v rest (a, mid, h, k) n =
        ap {B = Outcome T B} (λ o. and_then o q) (x.finds ts a mid h (ends a mid v rest k ((z a).starts mid v rest k) n))
        ∙ (z a).finds mid v rest k (later a v rest n)

    shorter : (a : A) (ts mid rest : List T) → length mid < length ts → Starts code (s a) ml mid rest → length rest < length ts
    shorter a ts mid rest l (inl s) = let m = s.1 in omega arith
    shorter a ts mid rest l (inr s) = subst (λ us. length us < length ts) (sym s.1) l

    joined : (a : A) (ts mid rest : List T) → Starts code fs nl ts mid → Starts code (s a) ml mid rest → Starts code (fs ++ choose nl gs []) (nl && ml) ts rest
    joined a ts mid rest (inl s) k = inl (begins_left code fs (choose nl gs []) ts s.0, shorter a ts mid rest s.1 k)
    joined a ts mid rest (inr s) (inl k) =
        inl (
          begins_right code fs (choose nl gs []) ts
              (subst (λ b. begins code (choose b gs []) ts ≡ true) (sym s.0) (subst (λ us. begins code gs us ≡ true) s.1 (covers s.0 a mid k.0))),
          subst (λ us. length rest < length us) s.1 k.1,
        )
    joined a ts mid rest (inr s) (inr k) = inr (subst (λ b. (b && ml) ≡ true) (sym s.0) k.0, k.1 ∙ s.1)

    -- what begins behind a word of the first one
    past : (u q rest : List T) (a : A) → Starts code fs nl (u ++ (q ++ rest)) (q ++ rest) → begins code (s a) (q ++ rest) ≡ true → begins code (fs ++ choose nl gs []) (u ++ (q ++ rest)) ≡ true
    past u q rest a (inl i) e = begins_left code fs (choose nl gs []) _ i.0
    past u q rest a (inr i) e = begins_right code fs (choose nl gs []) _
        (subst (λ b. begins code (choose b gs []) (u ++ (q ++ rest)) ≡ true) (sym i.0) (subst (λ us. begins code gs us ≡ true) i.1 (covers i.0 a (q ++ rest) e)))

    bind_meets : (p : List T) (w : Refusal) (rest : List T) → BindCause p w rest → (bind r q (p ++ rest) ≡ refused w rest) × (begins code (fs ++ choose nl gs []) (p ++ rest) ≡ true)
    bind_meets p w rest (inl e) = let m = x.meets p w rest e in (ap {B = Outcome T B} (λ o. and_then o q) m.0, begins_left code fs _ _ m.1)
    bind_meets p w rest (inr (u, k, a, e, h, c)) =
        let m = (z a).meets k w rest c in
        let same : p ++ rest ≡ u ++ (k ++ rest) = ap (λ us. us ++ rest) e ∙ append_assoc u k rest in
        let found = x.finds (u ++ (k ++ rest)) a (k ++ rest) (h (k ++ rest)) (apart a (k ++ rest) m.1) in (
          ap (bind r q) same ∙ ap {B = Outcome T B} (λ o. and_then o q) found ∙ m.0,
          subst (λ us. begins code (fs ++ choose nl gs []) us ≡ true) (sym same)
              (past u k rest a (x.starts (u ++ (k ++ rest)) a (k ++ rest) (h (k ++ rest))) m.1),
        )

    pub exact_bind : Exact code why (bind r q) BindReading BindCause d (fs ++ choose nl gs []) ks (nl && ml)
    exact_bind = record {
      agrees = λ ts. bind_agrees_at ts (r ts) (x.agrees ts);
      finds = bind_finds;
      starts = λ ts v rest h. joined h.0 ts h.1 rest (x.starts ts h.0 h.1 h.2) ((z h.0).starts h.1 v rest h.3);
      lifts = λ e f le ts v rest h. (h.0, h.1, x.lifts e f le ts h.0 h.1 h.2, (z h.0).lifts e f le h.1 v rest h.3);
      lives = live_first [] x.lives;
      meets = bind_meets;
    }
