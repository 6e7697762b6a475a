-- The law of a choice between two readers, of one that may be left away, and of a form that is left out.
use Rattle.std.proofs.Common.{◌≡◌, refl, sym, ap, ◌∙◌, subst, ℕ, ◌<◌, ◌≤◌, Bool, true, false, List, [], ◌++◌, length, Option, Some, None, ◌⊎◌, inl, inr, true≢false}
use Rattle.gno_grammar.specs.Sets.{disjoint, choose}
use Rattle.gno_grammar.specs.Readings.{Reading, Maybe}
use Rattle.gno_grammar.specs.Readers.{Outcome, got, refused, and_then, map, choice, begins}
use Rattle.gno_grammar.specs.Stops.{Cause}
use Rattle.gno_grammar.specs.declared.refusal.LeftOut.{LeftOut as Form}
use Rattle.gno_grammar.specs.declared.refusal.Refusal.{Refusal}
use Rattle.gno_grammar.specs.declared.refusal.Refusal.TheVariants.{LeftOut}
use Rattle.gno_grammar.proofs.Laws.{SameHead, same_append, Agrees, Caused, Starts, Exact, begins_left, begins_right, begins_none, begins_not, same_begins}

module _ {T : Type 0} (code : T → ℕ) where
  -- where a front is followed by the same token, it begins alike
  pub alike : (s : List ℕ) (ts p rest y : List T) (b : Bool) → ts ≡ p ++ rest → SameHead rest y → begins code s ts ≡ b → begins code s (p ++ y) ≡ b
  alike s ts p rest y b e h k = sym (same_begins code s (p ++ rest) (p ++ y) (same_append p rest y h)) ∙ ap (begins code s) (sym e) ∙ k

  pub same_self : (ts y : List T) (s : List ℕ) (b : Bool) → SameHead ts y → begins code s ts ≡ b → begins code s y ≡ b
  same_self ts y s b h k = sym (same_begins code s ts y h) ∙ k

module _ {T : Type 0} (code : T → ℕ) (why : T → Refusal) where
  -- ---- one of two

  module _ {A : Type 0} (r q : List T → Outcome T A) (R Q : ℕ → Reading T A) (E F : Cause T) (d : ℕ) (fs : List ℕ) (ms : A → List ℕ) (gs : List ℕ) (ns : A → List ℕ) (ml : Bool)
      (x : Exact code why r R E d fs ms false) (z : Exact code why q Q F d gs ns ml) (apart : disjoint fs gs ≡ true) where
    abbrev ChoiceCause : Cause T
    ChoiceCause p w rest = E p w rest ⊎ F p w rest

    left_cause : (p : List T) (w : Refusal) (rest : List T) → Caused why E p w rest → Caused why ChoiceCause p w rest
    left_cause p w rest (inl e) = inl e
    left_cause p w rest (inr e) = inr (inl e)

    right_cause : (p : List T) (w : Refusal) (rest : List T) → Caused why F p w rest → Caused why ChoiceCause p w rest
    right_cause p w rest (inl e) = inl e
    right_cause p w rest (inr e) = inr (inr e)

    abbrev ChoiceReading : ℕ → Reading T A
    ChoiceReading e ts v rest = R e ts v rest ⊎ Q e ts v rest

    takes_left : (ts : List T) → begins code fs ts ≡ true → choice code fs r q ts ≡ r ts
    takes_left ts e = ap {B = Outcome T A} (λ b. elim b [ true ↦ r ts | false ↦ q ts ]) e

    takes_right : (ts : List T) → begins code fs ts ≡ false → choice code fs r q ts ≡ q ts
    takes_right ts e = ap {B = Outcome T A} (λ b. elim b [ true ↦ r ts | false ↦ q ts ]) e

    left_agrees : (ts : List T) → begins code fs ts ≡ true → (o : Outcome T A) → Agrees why r R E d ts o → Agrees why (choice code fs r q) ChoiceReading ChoiceCause d ts o
    left_agrees ts e (got v rest) h = (h.0, h.1, λ y. inl (h.2 y), λ y s. takes_left (h.0 ++ y) (alike code fs ts h.0 rest y true h.1 s e) ∙ h.3 y s)
    left_agrees ts e (refused w rest) h = (h.0, h.1, (h.2.0, h.2.1, h.2.2, λ y. inl (h.2.3 y)), λ y s. takes_left (h.0 ++ y) (alike code fs ts h.0 rest y true h.1 s e) ∙ h.3 y s, left_cause h.0 w rest h.4)

    right_agrees : (ts : List T) → begins code fs ts ≡ false → (o : Outcome T A) → Agrees why q Q F d ts o → Agrees why (choice code fs r q) ChoiceReading ChoiceCause d ts o
    right_agrees ts e (got v rest) h = (h.0, h.1, λ y. inr (h.2 y), λ y s. takes_right (h.0 ++ y) (alike code fs ts h.0 rest y false h.1 s e) ∙ h.3 y s)
    right_agrees ts e (refused w rest) h = (h.0, h.1, (h.2.0, h.2.1, h.2.2, λ y. inr (h.2.3 y)), λ y s. takes_right (h.0 ++ y) (alike code fs ts h.0 rest y false h.1 s e) ∙ h.3 y s, right_cause h.0 w rest h.4)

    choice_agrees : (ts : List T) → Agrees why (choice code fs r q) ChoiceReading ChoiceCause d ts (choice code fs r q ts)
    choice_agrees ts = go (begins code fs ts) refl
      where
        go : (b : Bool) → begins code fs ts ≡ b → Agrees why (choice code fs r q) ChoiceReading ChoiceCause d ts (elim b [ true ↦ r ts | false ↦ q ts ])
        go true e = left_agrees ts e (r ts) (x.agrees ts)
        go false e = right_agrees ts e (q ts) (z.agrees ts)

    begun : (ts rest : List T) → Starts code fs false ts rest → begins code fs ts ≡ true
    begun ts rest (inl s) = s.0
    begun ts rest (inr s) = absurd (true≢false (sym s.0))

    not_begun : (ts rest : List T) → Starts code gs ml ts rest → begins code (choose ml fs []) rest ≡ false → begins code fs ts ≡ false
    not_begun ts rest (inl s) n = begins_not code fs gs ts apart s.0
    not_begun ts rest (inr s) n = subst (λ us. begins code fs us ≡ false) s.1 (subst (λ b. begins code (choose b fs []) rest ≡ false) s.0 n)

    choice_finds : (ts : List T) (v : A) (rest : List T) → ChoiceReading d ts v rest → begins code (ms v ++ (ns v ++ choose ml fs [])) rest ≡ false → choice code fs r q ts ≡ got v rest
    choice_finds ts v rest (inl h) n = takes_left ts (begun ts rest (x.starts ts v rest h)) ∙ x.finds ts v rest h (begins_none code (ms v) _ rest n).0
    choice_finds ts v rest (inr h) n =
        let m = begins_none code (ns v) (choose ml fs []) rest (begins_none code (ms v) _ rest n).1 in
        takes_right ts (not_begun ts rest (z.starts ts v rest h) m.1) ∙ z.finds ts v rest h m.0

    choice_starts : (ts : List T) (v : A) (rest : List T) → ChoiceReading d ts v rest → Starts code (fs ++ gs) ml ts rest
    choice_starts ts v rest (inl h) = go (x.starts ts v rest h)
      where
        go : Starts code fs false ts rest → Starts code (fs ++ gs) ml ts rest
        go (inl s) = inl (begins_left code fs gs ts s.0, s.1)
        go (inr s) = absurd (true≢false (sym s.0))
    choice_starts ts v rest (inr h) = go (z.starts ts v rest h)
      where
        go : Starts code gs ml ts rest → Starts code (fs ++ gs) ml ts rest
        go (inl s) = inl (begins_right code fs gs ts s.0, s.1)
        go (inr s) = inr s

    choice_lifts : (e f : ℕ) → e ≤ f → (ts : List T) (v : A) (rest : List T) → ChoiceReading e ts v rest → ChoiceReading f ts v rest
    choice_lifts e f le ts v rest (inl h) = inl (x.lifts e f le ts v rest h)
    choice_lifts e f le ts v rest (inr h) = inr (z.lifts e f le ts v rest h)

    choice_meets : (p : List T) (w : Refusal) (rest : List T) → ChoiceCause p w rest → (choice code fs r q (p ++ rest) ≡ refused w rest) × (begins code (fs ++ gs) (p ++ rest) ≡ true)
    choice_meets p w rest (inl e) = let m = x.meets p w rest e in (takes_left (p ++ rest) m.1 ∙ m.0, begins_left code fs gs _ m.1)
    choice_meets p w rest (inr e) = let m = z.meets p w rest e in (takes_right (p ++ rest) (begins_not code fs gs _ apart m.1) ∙ m.0, begins_right code fs gs _ m.1)

    pub exact_choice : Exact code why (choice code fs r q) ChoiceReading ChoiceCause d (fs ++ gs) (λ v. ms v ++ (ns v ++ choose ml fs [])) ml
    exact_choice = record {
      agrees = choice_agrees;
      finds = choice_finds;
      starts = choice_starts;
      lifts = choice_lifts;
      lives = (x.lives.0, x.lives.1, x.lives.2, λ y. inl (x.lives.3 y));
      meets = choice_meets;
    }

  -- ---- one, or nothing

  module _ {A : Type 0} (r : List T → Outcome T A) (R : ℕ → Reading T A) (E : Cause T) (d : ℕ) (fs : List ℕ) (ms : A → List ℕ) (x : Exact code why r R E d fs ms false)
      (ks : Option A → List ℕ) (ends : (ts : List T) → begins code (ks None) ts ≡ false → begins code fs ts ≡ false)
      (goes : (a : A) (ts : List T) → begins code (ks (Some a)) ts ≡ false → begins code (ms a) ts ≡ false) where
    abbrev MaybeReading : ℕ → Reading T (Option A)
    MaybeReading e = Maybe (R e)

    abbrev maybe : List T → Outcome T (Option A)
    maybe ts = choice code fs (map Some r) (got None) ts

    takes : (ts : List T) (o : Outcome T A) → begins code fs ts ≡ true → r ts ≡ o → maybe ts ≡ and_then o (λ a rest. got (Some a) rest)
    takes ts o e h =
        ap {B = Outcome T (Option A)} (λ b. elim b [ true ↦ map Some r ts | false ↦ got None ts ]) e ∙ ap {B = Outcome T (Option A)} (λ o. and_then o (λ a rest. got (Some a) rest)) h

    skips : (ts : List T) → begins code fs ts ≡ false → maybe ts ≡ got None ts
    skips ts e = ap {B = Outcome T (Option A)} (λ b. elim b [ true ↦ map Some r ts | false ↦ got None ts ]) e

    some_agrees : (ts : List T) → begins code fs ts ≡ true → (o : Outcome T A) → Agrees why r R E d ts o → Agrees why maybe MaybeReading E d ts (and_then o (λ a rest. got (Some a) rest))
    some_agrees ts e (got v rest) h = (h.0, h.1, h.2, λ y s. takes (h.0 ++ y) (got v y) (alike code fs ts h.0 rest y true h.1 s e) (h.3 y s))
    some_agrees ts e (refused w rest) h =
        (h.0, h.1, (h.2.0, h.2.1, Some h.2.2, h.2.3), λ y s. takes (h.0 ++ y) (refused w y) (alike code fs ts h.0 rest y true h.1 s e) (h.3 y s), h.4)

    maybe_agrees : (ts : List T) → Agrees why maybe MaybeReading E d ts (maybe ts)
    maybe_agrees ts = go (begins code fs ts) refl
      where
        go : (b : Bool) → begins code fs ts ≡ b → Agrees why maybe MaybeReading E d ts (elim b [ true ↦ map Some r ts | false ↦ got None ts ])
        go true e = some_agrees ts e (r ts) (x.agrees ts)
        go false e = ([], refl, λ y. refl, λ y s. skips y (same_self code ts y fs false s e))

    must_begin : (ts rest : List T) → Starts code fs false ts rest → (begins code fs ts ≡ true) × (length rest < length ts)
    must_begin ts rest (inl s) = s
    must_begin ts rest (inr s) = absurd (true≢false (sym s.0))

    maybe_finds : (ts : List T) (v : Option A) (rest : List T) → MaybeReading d ts v rest → begins code (ks v) rest ≡ false → maybe ts ≡ got v rest
    maybe_finds ts None rest h n = skips ts (subst (λ us. begins code fs us ≡ false) h (ends rest n)) ∙ ap (got None) (sym h)
    maybe_finds ts (Some a) rest h n = takes ts (got a rest) (must_begin ts rest (x.starts ts a rest h)).0 (x.finds ts a rest h (goes a rest n))

    maybe_starts : (ts : List T) (v : Option A) (rest : List T) → MaybeReading d ts v rest → Starts code fs true ts rest
    maybe_starts ts None rest h = inr (refl, h)
    maybe_starts ts (Some a) rest h = inl (must_begin ts rest (x.starts ts a rest h))

    maybe_lifts : (e f : ℕ) → e ≤ f → (ts : List T) (v : Option A) (rest : List T) → MaybeReading e ts v rest → MaybeReading f ts v rest
    maybe_lifts e f le ts None rest h = h
    maybe_lifts e f le ts (Some a) rest h = x.lifts e f le ts a rest h

    pub exact_optional : Exact code why maybe MaybeReading E d fs ks true
    exact_optional = record {
      agrees = maybe_agrees;
      finds = maybe_finds;
      starts = maybe_starts;
      lifts = maybe_lifts;
      lives = (0, [], None, λ y. refl);
      meets = λ p w rest e. let m = x.meets p w rest e in (takes (p ++ rest) (refused w rest) m.1 m.0, m.1);
    }

  -- ---- a form that is left out

  module _ {A : Type 0} (n : Form) (c : ℕ) (s : List ℕ) (r : List T → Outcome T A) (R : ℕ → Reading T A) (E : Cause T) (d : ℕ) (fs : List ℕ) (ms : A → List ℕ) (nl : Bool)
      (x : Exact code why r R E d fs ms nl) (apart : disjoint s fs ≡ true) where
    abbrev LeftOutCause : Cause T
    LeftOutCause p w rest = ((p ≡ []) × (w ≡ LeftOut n c) × (begins code s rest ≡ true)) ⊎ E p w rest

    kept_cause : (p : List T) (w : Refusal) (rest : List T) → Caused why E p w rest → Caused why LeftOutCause p w rest
    kept_cause p w rest (inl e) = inl e
    kept_cause p w rest (inr e) = inr (inr e)

    abbrev omitted : List T → Outcome T A
    omitted ts = elim (begins code s ts) [ true ↦ refused (LeftOut n c) ts | false ↦ r ts ]

    omits : (ts : List T) → begins code s ts ≡ true → omitted ts ≡ refused (LeftOut n c) ts
    omits ts e = ap {B = Outcome T A} (λ b. elim b [ true ↦ refused (LeftOut n c) ts | false ↦ r ts ]) e

    keeps : (ts : List T) → begins code s ts ≡ false → omitted ts ≡ r ts
    keeps ts e = ap {B = Outcome T A} (λ b. elim b [ true ↦ refused (LeftOut n c) ts | false ↦ r ts ]) e

    kept_agrees : (ts : List T) → begins code s ts ≡ false → (o : Outcome T A) → Agrees why r R E d ts o → Agrees why omitted R LeftOutCause d ts o
    kept_agrees ts e (got v rest) h = (h.0, h.1, h.2, λ y k. keeps (h.0 ++ y) (alike code s ts h.0 rest y false h.1 k e) ∙ h.3 y k)
    kept_agrees ts e (refused w rest) h = (h.0, h.1, h.2, λ y k. keeps (h.0 ++ y) (alike code s ts h.0 rest y false h.1 k e) ∙ h.3 y k, kept_cause h.0 w rest h.4)

    left_out_agrees : (ts : List T) → Agrees why omitted R LeftOutCause d ts (omitted ts)
    left_out_agrees ts = go (begins code s ts) refl
      where
        go : (b : Bool) → begins code s ts ≡ b → Agrees why omitted R LeftOutCause d ts (elim b [ true ↦ refused (LeftOut n c) ts | false ↦ r ts ])
        go true e = ([], refl, x.lives, λ y k. omits y (same_self code ts y s true k e), inr (inl (refl, refl, e)))
        go false e = kept_agrees ts e (r ts) (x.agrees ts)

    unbegun : (ts rest : List T) → Starts code fs nl ts rest → begins code (choose nl s []) rest ≡ false → begins code s ts ≡ false
    unbegun ts rest (inl h) k = begins_not code s fs ts apart h.0
    unbegun ts rest (inr h) k = subst (λ us. begins code s us ≡ false) h.1 (subst (λ b. begins code (choose b s []) rest ≡ false) h.0 k)

    more_starts : (ts rest : List T) → Starts code fs nl ts rest → Starts code (s ++ fs) nl ts rest
    more_starts ts rest (inl i) = inl (begins_right code s fs ts i.0, i.1)
    more_starts ts rest (inr i) = inr i

    left_out_meets : (p : List T) (w : Refusal) (rest : List T) → LeftOutCause p w rest → (omitted (p ++ rest) ≡ refused w rest) × (begins code (s ++ fs) (p ++ rest) ≡ true)
    left_out_meets p w rest (inl e) =
        let same : p ++ rest ≡ rest = ap (λ us. us ++ rest) e.0 in
        (ap omitted same ∙ omits rest e.2 ∙ ap (λ w. refused w rest) (sym e.1), subst (λ us. begins code (s ++ fs) us ≡ true) (sym same) (begins_left code s fs rest e.2))
    left_out_meets p w rest (inr e) = let m = x.meets p w rest e in (keeps (p ++ rest) (begins_not code s fs _ apart m.1) ∙ m.0, begins_right code s fs _ m.1)

    pub exact_left_out : Exact code why omitted R LeftOutCause d (s ++ fs) (λ v. ms v ++ choose nl s []) nl
    exact_left_out = record {
      agrees = left_out_agrees;
      finds = λ ts v rest h k. let m = begins_none code (ms v) (choose nl s []) rest k in keeps ts (unbegun ts rest (x.starts ts v rest h) m.1) ∙ x.finds ts v rest h m.0;
      starts = λ ts v rest h. more_starts ts rest (x.starts ts v rest h);
      lifts = x.lifts;
      lives = x.lives;
      meets = left_out_meets;
    }
