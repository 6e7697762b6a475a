-- A reading that takes no token gives the value of the empty word.
use Rattle.std.proofs.Common.{◌≡◌, refl, sym, ap, ◌∙◌, subst, ◌<◌, Bool, true, false, ◌&&◌, List, ◌∷◌, length, Option, Some, None, ◌⊎◌, inl, inr, arith, true≢false}
use Rattle.std.proofs.lemmas.Option.{none-some}
use Rattle.gno_grammar.specs.Phrases.{Phrase, nothing, token, both, either, optional, chain, until, follow, repeat, construct, left_out, Grammar}
use Rattle.gno_grammar.specs.Readings.{Reading, Steps, done, step, UntilSteps, until_done, until_step, reads}
use Rattle.gno_grammar.specs.Readers.{null}
use Rattle.gno_grammar.specs.Deciding.{applied, empty, Sound}

-- a reading takes a token, or none, and then this is its value
abbrev pub Takes : {T A : Type 0} → Option A → List T → A → List T → Type 0
Takes o ts v rest = (length rest < length ts) ⊎ ((rest ≡ ts) × (o ≡ Some v))

-- ---- truth values and options

both_true : {a b : Bool} → a ≡ true → b ≡ true → (a && b) ≡ true
both_true {a = a} {b = b} x y = ap (λ a. a && b) x ∙ y

first_some : {A B : Type 0} (o : Option A) (q : A → Option B) (v : B) → elim o [ None ↦ None | Some a ↦ q a ] ≡ Some v → (a : A) × (o ≡ Some a) × (q a ≡ Some v)
first_some None q v e = absurd (none-some v e)
first_some (Some a) q v e = (a, refl, e)

applied_some : {A B : Type 0} (f : A → B) (o : Option A) (v : B) → applied f o ≡ Some v → (a : A) × (o ≡ Some a)
applied_some f None v e = absurd (none-some v e)
applied_some f (Some a) v e = (a, refl)

-- ---- the readings of the parts

module _ {T : Type 0} where
  -- one reading, then another
  takes_both : {A B C : Type 0} (f : A → B → C) (o : Option A) (q : A → Option B) (ts : List T) (a : A) (mid : List T) (b : B) (rest : List T) → Takes o ts a mid → Takes (q a) mid b rest
      → Takes (elim o [ None ↦ None | Some a ↦ applied (f a) (q a) ]) ts (f a b) rest
  takes_both f o q ts a mid b rest (inl i) (inl j) = inl (omega arith)
  takes_both f o q ts a mid b rest (inl i) (inr j) = let e : length rest ≡ length mid = ap length j.0 in inl (omega arith)
  takes_both f o q ts a mid b rest (inr i) (inl j) = let e : length mid ≡ length ts = ap length i.0 in inl (omega arith)
  takes_both f o q ts a mid b rest (inr i) (inr j) =
      inr (j.0 ∙ i.0, ap (λ o. elim o [ None ↦ None | Some a ↦ applied (f a) (q a) ]) i.1 ∙ ap (applied (f a)) j.1)

  -- one reading, then steps: without a token there is none of them
  takes_first : {A : Type 0} (o : Option A) (ts : List T) (a : A) (mid : List T) (v : A) (rest : List T) → Takes o ts a mid → Takes (Some a) mid v rest → Takes o ts v rest
  takes_first o ts a mid v rest (inl i) (inl j) = inl (omega arith)
  takes_first o ts a mid v rest (inl i) (inr j) = let e : length rest ≡ length mid = ap length j.0 in inl (omega arith)
  takes_first o ts a mid v rest (inr i) (inl j) = let e : length mid ≡ length ts = ap length i.0 in inl (omega arith)
  takes_first o ts a mid v rest (inr i) (inr j) = inr (j.0 ∙ i.0, i.1 ∙ j.1)

  -- behind a token, whatever comes leaves fewer
  takes_then : {A : Type 0} (o : Option A) (v : A) (ts mid rest : List T) → length mid < length ts → Takes o mid v rest → length rest < length ts
  takes_then o v ts mid rest l (inl j) = omega arith
  takes_then o v ts mid rest l (inr j) = let e : length rest ≡ length mid = ap length j.0 in omega arith

  -- steps that each take a token take one, or there is none of them
  takes_steps : {A B : Type 0} (p : A → Bool) (S : A → Reading T B) (f : A → B → A) → ((a : A) (ts : List T) (b : B) (mid : List T) → S a ts b mid → length mid < length ts)
      → (a : A) (ts : List T) (v : A) (rest : List T) → Steps p S f a ts v rest → Takes (Some a) ts v rest
  takes_steps p S f l a ts v rest done = inr (refl, refl)
  takes_steps p S f l a ts v rest (step {b = b} {mid = mid} e x k) = inl (takes_then (Some (f a b)) v ts mid rest (l a ts b mid x) (takes_steps p S f l (f a b) mid v rest k))

  -- the same of steps up to a value that ends them
  takes_until : {A B : Type 0} (p : A → Bool) (S : A → Reading T B) (f : A → B → A) → ((a : A) (ts : List T) (b : B) (mid : List T) → S a ts b mid → length mid < length ts)
      → (a : A) (ts : List T) (v : A) (rest : List T) → UntilSteps p S f a ts v rest → Takes (Some a) ts v rest
  takes_until p S f l a ts v rest (until_done e) = inr (refl, refl)
  takes_until p S f l a ts v rest (until_step {b = b} {mid = mid} e x k) = inl (takes_then (Some (f a b)) v ts mid rest (l a ts b mid x) (takes_until p S f l (f a b) mid v rest k))

-- ---- the readings of a phrase

module _ {T R : Type 0} {gives : R → Type 0} (grammar : Grammar T R gives) where
  -- where the empty word has a value, it may be read
  pub null_empty : {A : Type 0} (g : Phrase T R gives A) (v : A) → empty g ≡ Some v → null grammar g ≡ true
  unfolding null
  null_empty (nothing x) v e = refl
  null_empty (token s) v e = absurd (none-some v e)
  null_empty (both f g h) v e =
      let i = first_some (empty g) (λ a. applied (f a) (empty h)) v e in
      let j = applied_some (f i.0) (empty h) v i.2 in
      both_true (null_empty g i.0 i.1) (null_empty h j.0 j.1)
  null_empty (either g h) v e = null_empty h v e
  null_empty (optional g) v e = refl
  null_empty (chain m w u p f g h) v e = null_empty g v e
  null_empty (until m w p f g h) v e = absurd (none-some v e)
  null_empty (follow m w u f g h) v e = let i = first_some (empty g) (λ a. applied (f a) (empty (h a))) v e in null_empty g i.0 i.1
  null_empty (repeat p f g h) v e = null_empty g v e
  null_empty (construct k) v e = absurd (none-some v e)
  null_empty (left_out n c s g) v e = null_empty g v e

  -- where the empty word may not be read, a token is taken
  takes_token : {A : Type 0} (g : Phrase T R gives A) (v : A) (ts rest : List T) → null grammar g ≡ false → Takes (empty g) ts v rest → length rest < length ts
  takes_token g v ts rest n (inl i) = i
  takes_token g v ts rest n (inr i) = absurd (true≢false (sym (null_empty g v i.1) ∙ n))

  module _ (C : (k : R) → Reading T (gives k)) (constructs : (k : R) (ts : List T) (v : gives k) (rest : List T) → C k ts v rest → length rest < length ts) where
    -- each reading of a sound phrase takes a token, or gives the value of the empty word
    pub takes : {A : Type 0} (g : Phrase T R gives A) → Sound grammar g → (ts : List T) (v : A) (rest : List T) → reads grammar C g ts v rest → Takes (empty g) ts v rest
    takes (nothing x) s ts v rest r = inr (r.1, ap Some (sym r.0))
    takes (token xs) s ts v rest r = let e : length ts ≡ length (v ∷ rest) = ap length r.0 in inl (omega arith)
    takes (both f g h) s ts v rest (a, mid, x, (b, y, e)) =
        subst (λ v. Takes (empty (both f g h)) ts v rest) (sym e)
        (takes_both f (empty g) (λ a. empty h) ts a mid b rest (takes g s.0 ts a mid x) (takes h s.1 mid b rest y))
    takes (either g h) s ts v rest (inl x) = inl (takes_token g v ts rest s.2 (takes g s.0 ts v rest x))
    takes (either g h) s ts v rest (inr x) = takes h s.1 ts v rest x
    takes (optional g) s ts None rest r = inr (r, refl)
    takes (optional g) s ts (Some v) rest r = inl (takes_token g v ts rest s.1 (takes g s.0 ts v rest r))
    takes (chain m w u p f g h) s ts v rest (a, mid, x, k) =
        takes_first (empty g) ts a mid v rest (takes g s.0 ts a mid x)
        (takes_steps p (λ a. reads grammar C (h a)) f (λ a ts b mid r. takes_token (h a) b ts mid (s.2 a) (takes (h a) (s.1 a) ts b mid r)) a mid v rest k)
    takes (until m w p f g h) s ts v rest (a, mid, x, k) =
        inl (takes_then (Some a) v ts mid rest (takes_token g a ts mid s.2 (takes g s.0 ts a mid x))
        (takes_until p (λ a. reads grammar C (h a)) f (λ a ts b mid r. takes_token (h a) b ts mid (s.3 a) (takes (h a) (s.1 a) ts b mid r)) a mid v rest k))
    takes (follow m w u f g h) s ts v rest (a, mid, x, (b, y, e)) =
        subst (λ v. Takes (empty (follow m w u f g h)) ts v rest) (sym e)
        (takes_both f (empty g) (λ a. empty (h a)) ts a mid b rest (takes g s.0 ts a mid x) (takes (h a) (s.1 a) mid b rest y))
    takes (repeat p f g h) s ts v rest (a, mid, x, k) =
        takes_first (empty g) ts a mid v rest (takes g s.0 ts a mid x)
        (takes_steps p (λ a. reads grammar C h) f (λ a ts b mid r. takes_token h b ts mid s.2 (takes h s.1 ts b mid r)) a mid v rest k)
    takes (construct k) s ts v rest r = inl (constructs k ts v rest r)
    takes (left_out n c xs g) s ts v rest r = takes g s.0 ts v rest r

    -- what takes no token gives the value of the empty word
    pub reads_empty : {A : Type 0} (g : Phrase T R gives A) → Sound grammar g → (ts : List T) (v : A) → reads grammar C g ts v ts → empty g ≡ Some v
    reads_empty g s ts v r = go (takes g s ts v ts r)
      where
        go : Takes (empty g) ts v ts → empty g ≡ Some v
        go (inl i) = absurd (omega arith)
        go (inr i) = i.1
