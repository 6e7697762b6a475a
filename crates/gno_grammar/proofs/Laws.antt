-- The law between a reader and what it reads, and that it holds of nothing and of one token.
use Rattle.std.proofs.Common.{◌≡◌, refl, sym, ap, ◌∙◌, subst, ℕ, ◌<◌, ◌≤◌, Bool, true, false, ◌||◌, List, [], ◌∷◌, ◌++◌, length, ◌⊎◌, inl, inr, arith, true≢false}
use Rattle.gno_grammar.specs.Sets.{member, disjoint}
use Rattle.gno_grammar.specs.Readings.{Reading}
use Rattle.gno_grammar.specs.Readers.{Outcome, got, refused, one_of, begins, refusal}
use Rattle.gno_grammar.specs.Stops.{Cause}
use Rattle.gno_grammar.specs.declared.refusal.Refusal.{Refusal}
use Rattle.gno_grammar.specs.declared.refusal.Refusal.TheVariants.{Unexpected}
use Rattle.gno_grammar.proofs.Sets.{or_none, member-append, member_not}

-- both lists begin with the same token, or both are empty
abbrev pub SameHead : {T : Type 0} → List T → List T → Type 0
SameHead [] [] = Unit {0}
SameHead [] (u ∷ us) = ⊥
SameHead (t ∷ ts) [] = ⊥
SameHead (t ∷ ts) (u ∷ us) = t ≡ u

pub same_append : {T : Type 0} (p xs ys : List T) → SameHead xs ys → SameHead (p ++ xs) (p ++ ys)
same_append [] xs ys h = h
same_append (t ∷ p) xs ys h = refl

-- these tokens can be gone on with to a word, whatever stands behind it
abbrev pub Live : {T A : Type 0} → (ℕ → Reading T A) → List T → Type 0
Live {T = T} {A = A} R p = (d : ℕ) × (s : List T) × (v : A) × ((y : List T) → R d (p ++ (s ++ y)) v y)

-- a refusal is the token's own, or has a cause that stands there
abbrev pub Caused : {T : Type 0} → (T → Refusal) → Cause T → Cause T
Caused why E p w rest = (w ≡ refusal why rest) ⊎ E p w rest

-- the front that was read is a word, or can become one, and nothing behind the next token mattered
abbrev pub Agrees : {T A : Type 0} → (T → Refusal) → (List T → Outcome T A) → (ℕ → Reading T A) → Cause T → ℕ → List T → Outcome T A → Type 0
Agrees {T = T} why r R E d ts (got v rest) = (p : List T) × (ts ≡ p ++ rest) × ((y : List T) → R d (p ++ y) v y) × ((y : List T) → SameHead rest y → r (p ++ y) ≡ got v y)
Agrees {T = T} why r R E d ts (refused w rest) = (p : List T) × (ts ≡ p ++ rest) × Live R p × ((y : List T) → SameHead rest y → r (p ++ y) ≡ refused w y) × Caused why E p w rest

module _ {T : Type 0} (code : T → ℕ) where
  -- a reading takes a token, and begins with one of these kinds, or it may be empty, and is
  abbrev pub Starts : List ℕ → Bool → List T → List T → Type 0
  Starts fs nl ts rest = ((begins code fs ts ≡ true) × (length rest < length ts)) ⊎ ((nl ≡ true) × (rest ≡ ts))

  -- ---- sets

  pub begins_append : (xs ys : List ℕ) (ts : List T) → begins code (xs ++ ys) ts ≡ (begins code xs ts || begins code ys ts)
  unfolding begins
  begins_append xs ys [] = refl
  begins_append xs ys (t ∷ ts) = member-append (code t) xs ys

  pub begins_left : (xs ys : List ℕ) (ts : List T) → begins code xs ts ≡ true → begins code (xs ++ ys) ts ≡ true
  begins_left xs ys ts e = begins_append xs ys ts ∙ ap (λ b. b || begins code ys ts) e

  or_right : (a b : Bool) → b ≡ true → (a || b) ≡ true
  or_right true b e = refl
  or_right false b e = e

  pub begins_right : (xs ys : List ℕ) (ts : List T) → begins code ys ts ≡ true → begins code (xs ++ ys) ts ≡ true
  begins_right xs ys ts e = begins_append xs ys ts ∙ or_right _ _ e

  pub begins_none : (xs ys : List ℕ) (ts : List T) → begins code (xs ++ ys) ts ≡ false → (begins code xs ts ≡ false) × (begins code ys ts ≡ false)
  begins_none xs ys ts e = or_none _ _ (sym (begins_append xs ys ts) ∙ e)

  pub begins_not : (xs ys : List ℕ) (ts : List T) → disjoint xs ys ≡ true → begins code ys ts ≡ true → begins code xs ts ≡ false
  unfolding begins
  begins_not xs ys [] d e = refl
  begins_not xs ys (t ∷ ts) d e = go (member (code t) xs) refl
    where
      go : (b : Bool) → member (code t) xs ≡ b → member (code t) xs ≡ false
      go true h = absurd (true≢false (sym e ∙ member_not (code t) xs ys d h))
      go false h = h

  pub same_begins : (xs : List ℕ) (ts us : List T) → SameHead ts us → begins code xs ts ≡ begins code xs us
  unfolding begins
  same_begins xs [] [] h = refl
  same_begins xs [] (u ∷ us) h = elim h [ ]
  same_begins xs (t ∷ ts) [] h = elim h [ ]
  same_begins xs (t ∷ ts) (u ∷ us) h = ap (λ t. member (code t) xs) h

module _ {T : Type 0} (code : T → ℕ) (why : T → Refusal) where
  -- the law: r is the reader, R what is read at each depth, E where a refusal stands, d the depth,
  -- fs the kinds that begin a word, ms those that can go on where a word of a value ends, nl whether no token at all may be read
  pub record Exact {A : Type 0} (r : List T → Outcome T A) (R : ℕ → Reading T A) (E : Cause T) (d : ℕ) (fs : List ℕ) (ms : A → List ℕ) (nl : Bool) : Type 0 where
    -- what is answered is so
    pub agrees : (ts : List T) → Agrees why r R E d ts (r ts)
    -- what can be read is answered, where no token stands behind it that could go on
    pub finds : (ts : List T) (v : A) (rest : List T) → R d ts v rest → begins code (ms v) rest ≡ false → r ts ≡ got v rest
    -- what begins a word
    pub starts : (ts : List T) (v : A) (rest : List T) → R d ts v rest → Starts code fs nl ts rest
    -- at a greater depth no less is read
    pub lifts : (e f : ℕ) → e ≤ f → (ts : List T) (v : A) (rest : List T) → R e ts v rest → R f ts v rest
    -- there is a word
    pub lives : Live R []
    -- where a cause stands, it is answered
    pub meets : (p : List T) (w : Refusal) (rest : List T) → E p w rest → (r (p ++ rest) ≡ refused w rest) × (begins code fs (p ++ rest) ≡ true)

  -- ---- nothing, and one token

  pub exact_nothing : {A : Type 0} (x : A) (d : ℕ) → Exact (got x) (λ e ts v rest. (v ≡ x) × (rest ≡ ts)) (λ p w rest. ⊥) d [] (λ _. []) true
  exact_nothing x d = record {
    agrees = λ ts. ([], refl, λ y. (refl, refl), λ y h. refl);
    finds = λ ts v rest e _. ap (λ a. got a ts) (sym e.0) ∙ ap (λ us. got v us) (sym e.1);
    starts = λ ts v rest e. inr (refl, e.1);
    lifts = λ e f _ ts v rest h. h;
    lives = (0, [], x, λ y. (refl, refl));
    meets = λ p w rest e. absurd e;
  }

  module _ (s : List ℕ) (t₀ : T) (m₀ : member (code t₀) s ≡ true) (d : ℕ) where
    abbrev ReadsToken : ℕ → Reading T T
    ReadsToken e ts v rest = (ts ≡ v ∷ rest) × (member (code v) s ≡ true)

    token_live : Live ReadsToken []
    token_live = (0, t₀ ∷ [], t₀, λ y. (refl, m₀))

    token_yes : (t : T) (y : List T) → member (code t) s ≡ true → one_of code why s (t ∷ y) ≡ got t y
    token_yes t y e = ap {B = Outcome T T} (λ b. elim b [ true ↦ got t y | false ↦ refused (why t) (t ∷ y) ]) e

    token_no : (t : T) (y : List T) → member (code t) s ≡ false → one_of code why s (t ∷ y) ≡ refused (why t) (t ∷ y)
    token_no t y e = ap {B = Outcome T T} (λ b. elim b [ true ↦ got t y | false ↦ refused (why t) (t ∷ y) ]) e

    token_end : (y : List T) → SameHead [] y → one_of code why s y ≡ refused Unexpected y
    token_end [] h = refl
    token_end (u ∷ us) h = elim h [ ]

    token_other : (t : T) (ts y : List T) → member (code t) s ≡ false → SameHead (t ∷ ts) y → one_of code why s y ≡ refused (why t) y
    token_other t ts [] e h = elim h [ ]
    token_other t ts (u ∷ us) e h = token_no u us (ap (λ t. member (code t) s) (sym h) ∙ e) ∙ ap (λ t. refused (why t) (u ∷ us)) (sym h)

    token_agrees : (ts : List T) → Agrees why (one_of code why s) ReadsToken (λ p w rest. ⊥) d ts (one_of code why s ts)
    token_agrees [] = ([], refl, token_live, token_end, inl refl)
    token_agrees (t ∷ ts) = go (member (code t) s) refl
      where
        go : (b : Bool) → member (code t) s ≡ b → Agrees why (one_of code why s) ReadsToken (λ p w rest. ⊥) d (t ∷ ts) (elim b [ true ↦ got t ts | false ↦ refused (why t) (t ∷ ts) ])
        go true e = (t ∷ [], refl, λ y. (refl, e), λ y h. token_yes t y e)
        go false e = ([], refl, token_live, λ y h. token_other t ts y e h, inl refl)

    token_starts : (ts : List T) (v : T) (rest : List T) → ReadsToken d ts v rest → Starts code s false ts rest
    unfolding begins
    token_starts ts v rest h = subst (λ us. Starts code s false us rest) (sym h.0) (inl (h.1, omega arith))

    pub exact_token : Exact (one_of code why s) ReadsToken (λ p w rest. ⊥) d s (λ _. []) false
    exact_token = record {
      agrees = token_agrees;
      finds = λ ts v rest h _. ap (λ us. one_of code why s us) h.0 ∙ token_yes v rest h.1;
      starts = token_starts;
      lifts = λ e f _ ts v rest h. h;
      lives = token_live;
      meets = λ p w rest e. absurd e;
    }
