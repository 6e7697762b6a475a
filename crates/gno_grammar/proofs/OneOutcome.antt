-- A list of tokens has one outcome: the law of what a reader answers leaves no choice.
use Rattle.std.proofs.Common.{◌≡◌, refl, sym, ap, ◌∙◌, subst, ℕ, List, [], ◌∷◌, ◌++◌, length, Option, Some, None, ◌⊎◌, inl, inr, append_assoc, append-nil}
use Rattle.gno_grammar.specs.Phrases.{Phrase, Grammar}
use Rattle.gno_grammar.specs.Readings.{nested}
use Rattle.gno_grammar.specs.Readers.{Outcome, got, refused, why, why_at, why_form}
use Rattle.gno_grammar.specs.Stops.{stands, Stops}
use Rattle.gno_grammar.specs.Answers.{Is, Viable, EndsBefore, Because, Answers, Exactly}
use Rattle.gno_grammar.specs.declared.refusal.LeftOut.{LeftOut as Form}
use Rattle.gno_grammar.specs.declared.refusal.Refusal.{Refusal}
use Rattle.gno_grammar.specs.declared.refusal.Refusal.TheVariants.{Unexpected, TooDeep, LeftOut}

-- of two fronts of one list they are one, or one goes on behind the other
pub data Fronts {T : Type 0} : List T → List T → List T → List T → Type 0 where
  same : (p rest : List T) → Fronts p rest p rest
  shorter : (p : List T) (t : T) (q rest' : List T) → Fronts p (t ∷ (q ++ rest')) (p ++ (t ∷ q)) rest'
  longer : (p : List T) (t : T) (q rest : List T) → Fronts (p ++ (t ∷ q)) rest p (t ∷ (q ++ rest))

heads : {T : Type 0} (t : T) (xs : List T) (u : T) (ys : List T) → t ∷ xs ≡ u ∷ ys → t ≡ u
heads t xs u ys e = cc

tails : {T : Type 0} (t : T) (xs : List T) (u : T) (ys : List T) → t ∷ xs ≡ u ∷ ys → xs ≡ ys
tails t xs u ys e = cc

behind_token : {T : Type 0} (t u : T) → t ≡ u → (p rest p' rest' : List T) → Fronts p rest p' rest' → Fronts (t ∷ p) rest (u ∷ p') rest'
behind_token t u h _ _ _ _ (same p rest) = subst (λ u. Fronts (t ∷ p) rest (u ∷ p) rest) h (same (t ∷ p) rest)
behind_token t u h _ _ _ _ (shorter p v q rest') = subst (λ u. Fronts (t ∷ p) (v ∷ (q ++ rest')) (u ∷ (p ++ (v ∷ q))) rest') h (shorter (t ∷ p) v q rest')
behind_token t u h _ _ _ _ (longer p v q rest) = subst (λ u. Fronts (t ∷ (p ++ (v ∷ q))) rest (u ∷ p) (v ∷ (q ++ rest))) h (longer (t ∷ p) v q rest)

pub fronts : {T : Type 0} (p rest p' rest' : List T) → p ++ rest ≡ p' ++ rest' → Fronts p rest p' rest'
fronts [] rest [] rest' e = subst (Fronts [] rest []) e (same [] rest)
fronts [] rest (t ∷ q) rest' e = subst (λ r. Fronts [] r (t ∷ q) rest') (sym e) (shorter [] t q rest')
fronts (t ∷ q) rest [] rest' e = subst (λ r. Fronts (t ∷ q) rest [] r) e (longer [] t q rest)
fronts (t ∷ p) rest (u ∷ p') rest' e = behind_token t u (heads t (p ++ rest) u (p' ++ rest') e) p rest p' rest' (fronts p rest p' rest' (tails t (p ++ rest) u (p' ++ rest') e))

module _ {T R : Type 0} {gives : R → Type 0} (grammar : Grammar T R gives) {A : Type 0} (g : Phrase T R gives A) (d : ℕ) where
  -- a front that a tree begins with cannot go on behind one that none goes on with
  viable_front : (p : List T) (t : T) (q : List T) → Viable grammar g (p ++ (t ∷ q)) → Viable grammar g (p ++ t ∷ [])
  viable_front p t q h = (q ++ h.0, h.1, subst (λ ts. Is grammar g ts h.1) (append_assoc p (t ∷ q) h.0 ∙ sym (append_assoc p (t ∷ []) (q ++ h.0))) h.2)

  viable_whole : (p rest : List T) (v : A) → Is grammar g (p ++ rest) v → EndsBefore grammar g p rest → ⊥
  viable_whole p [] v h e = e v (subst (λ ts. Is grammar g ts v) (append-nil p) h)
  viable_whole p (t ∷ rest) v h e = e (rest, v, subst (λ ts. Is grammar g ts v) (sym (append_assoc p (t ∷ []) rest)) h)

  -- what is refused, not for the nesting
  abbrev Refuses : List T → Refusal → List T → Type 0
  Refuses ts w rest = (p : List T) × (ts ≡ p ++ rest) × Viable grammar g p × EndsBefore grammar g p rest × Because grammar d g p w rest

  abbrev TooDeepAt : List T → List T → Type 0
  TooDeepAt ts rest = (p : List T) × (ts ≡ p ++ rest) × stands grammar (nested grammar d) (Stops grammar d) g p TooDeep rest

  abbrev Always : List T → Outcome T A → Type 0
  Always ts out = (p : List T) (w : Refusal) (rest : List T) → ts ≡ p ++ rest → stands grammar (nested grammar d) (Stops grammar d) g p w rest → out ≡ refused w rest

  -- the three ways to answer
  data Way (ts : List T) : Outcome T A → Type 0 where
    tree : (v : A) → Is grammar g ts v → ((w : A) → Is grammar g ts w → w ≡ v) → Way ts (got v [])
    refusal : (w : Refusal) (rest : List T) → Refuses ts w rest → Way ts (refused w rest)
    deep : (rest : List T) → TooDeepAt ts rest → Way ts (refused TooDeep rest)

  not_deep : (form : Option Form) → TooDeep ≡ why_form form → ⊥
  not_deep None e = cc
  not_deep (Some form) e = cc

  never_deep : (rest : List T) → TooDeep ≡ why_at grammar rest → ⊥
  unfolding why
  never_deep [] e = cc
  never_deep (t ∷ rest) e = not_deep (grammar.form t) e

  deep_stands : (p rest : List T) → Because grammar d g p TooDeep rest → stands grammar (nested grammar d) (Stops grammar d) g p TooDeep rest
  deep_stands p rest (inl e) = absurd (never_deep rest e)
  deep_stands p rest (inr s) = s

  way : (ts : List T) (out : Outcome T A) → Answers grammar d g ts out → Way ts out
  way ts (got v rest) h = subst (λ r. Way ts (got v r)) (sym h.0) (tree v h.1 h.2)
  way ts (refused Unexpected rest) h = refusal Unexpected rest h
  way ts (refused (LeftOut n c) rest) h = refusal (LeftOut n c) rest h
  way ts (refused TooDeep rest) h = deep rest (h.0, h.1, deep_stands h.0 rest h.3)

  no_tree : (ts : List T) (v : A) (w : Refusal) (rest : List T) → Is grammar g ts v → Refuses ts w rest → ⊥
  no_tree ts v w rest t h = viable_whole h.0 rest v (subst (λ us. Is grammar g us v) h.1 t) h.3

  abbrev refusing : Refusal → List T → Outcome T A
  refusing w rest = refused w rest

  -- two refusals at one place
  same_place : (ts : List T) (w w' : Refusal) (p rest : List T) → ts ≡ p ++ rest → Because grammar d g p w rest → Because grammar d g p w' rest
      → Always ts (refused w rest) → Always ts (refused w' rest) → refusing w rest ≡ refused w' rest
  same_place ts w w' p rest e (inr s) b k k' = sym (k' p w rest e s)
  same_place ts w w' p rest e b (inr s) k k' = k p w' rest e s
  same_place ts w w' p rest e (inl x) (inl y) k k' = ap (λ w. refused w rest) (x ∙ sym y)

  two_places : (ts : List T) (w w' : Refusal) (p rest p' rest' : List T) → Fronts p rest p' rest' → ts ≡ p ++ rest
      → Viable grammar g p → EndsBefore grammar g p rest → Because grammar d g p w rest → Viable grammar g p' → EndsBefore grammar g p' rest' → Because grammar d g p' w' rest'
      → Always ts (refused w rest) → Always ts (refused w' rest') → refusing w rest ≡ refused w' rest'
  two_places ts w w' _ _ _ _ (same p rest) e v n b v' n' b' k k' = same_place ts w w' p rest e b b' k k'
  two_places ts w w' _ _ _ _ (shorter p t q rest') e v n b v' n' b' k k' = absurd (n (viable_front p t q v'))
  two_places ts w w' _ _ _ _ (longer p t q rest) e v n b v' n' b' k k' = absurd (n' (viable_front p t q v))

  one : (ts : List T) (o o' : Outcome T A) → Way ts o → Way ts o' → Always ts o → Always ts o' → o ≡ o'
  one ts _ _ (tree v t u) (tree v' t' u') k k' = ap (λ v. got v []) (u' v t)
  one ts _ _ (tree v t u) (refusal w rest h) k k' = absurd (no_tree ts v w rest t h)
  one ts _ _ (refusal w rest h) (tree v t u) k k' = absurd (no_tree ts v w rest t h)
  one ts o _ w (deep rest h) k k' = k h.0 TooDeep rest h.1 h.2
  one ts _ o' (deep rest h) w k k' = sym (k' h.0 TooDeep rest h.1 h.2)
  one ts _ _ (refusal w rest h) (refusal w' rest' h') k k' =
      two_places ts w w' h.0 rest h'.0 rest' (fronts h.0 rest h'.0 rest' (sym h.1 ∙ h'.1)) h.1 h.2 h.3 h.4 h'.2 h'.3 h'.4 k k'

  pub one_outcome : (ts : List T) (o o' : Outcome T A) → Exactly grammar d g ts o → Exactly grammar d g ts o' → o ≡ o'
  one_outcome ts o o' h h' = one ts o o' (way ts o h.0) (way ts o' h'.0) h.1 h'.1
