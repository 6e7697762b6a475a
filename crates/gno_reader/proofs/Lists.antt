-- What a list of items answers, step by step.
use Rattle.std.proofs.Common.{◌≡◌, refl, sym, ap, ◌∙◌, subst, ℕ, suc, ◌<◌, Bool, true, false, not, ◌&&◌, List, [], ◌∷◌, ◌++◌, length, Option, Some, None, arith}
use Rattle.gno_grammar.proofs.Loops.{Going, going}
use Rattle.gno_grammar.specs.Readers.{Outcome, got, refused, and_then, bind, map, begins, choice, turns, one_of, why}
use Rattle.gno_grammar.specs.Sets.{member}
use Rattle.gno_scan.specs.declared.kind.TokenKind.{TokenKind}
use Rattle.gno_scan.specs.declared.token.Token.{Token}
use Rattle.gno_reader.specs.Answers.{Fails, one_token, sees}
use Rattle.gno_reader.specs.Lists.{Reads, further, items, closed_items}
use Rattle.gno_reader.specs.declared.cursor.Failure.{Failure}
use Rattle.gno_reader.specs.declared.cursor.Failure.TheVariants.{NoMemory, Refused}
use Rattle.gno_rules.specs.Kinds.{numbers, code}
use Rattle.gno_rules.specs.Parts.{with_item}
use Rattle.gno_rules.specs.Table.{grammar}
use Rattle.gno_grammar.specs.declared.refusal.Refusal.{Refusal}
use Rattle.gno_grammar.specs.declared.refusal.Refusal.TheVariants.{Unexpected}

-- a part that fails first is what the whole answers
fails_first : {A B : Type 0} (o : Outcome Token A) (q : A → List Token → Outcome Token B) (failure : Failure) (us : List Token) → Fails o failure us → Fails (and_then o q) failure us
fails_first o q NoMemory us h = tt
fails_first {B = B} o q (Refused w) us h = ap {B = Outcome Token B} (λ o. and_then o q) h

fails_same : {A : Type 0} (o o' : Outcome Token A) (failure : Failure) (us : List Token) → o ≡ o' → Fails o' failure us → Fails o failure us
fails_same o o' NoMemory us e h = tt
fails_same o o' (Refused w) us e h = e ∙ h

-- a separator that was read is a token
abbrev refused_token : Refusal → List Token → Outcome Token Token
refused_token w us = refused w us

refused_got : (w : Refusal) (us : List Token) (t : Token) (mid : List Token) → refused_token w us ≡ got t mid → ⊥
refused_got w us t mid e = cc

rest_is : (u t : Token) (ts mid : List Token) → got u ts ≡ got t mid → ts ≡ mid
rest_is u t ts mid e = cc

pub one_shorter : (kind : TokenKind) (ts : List Token) (t : Token) (mid : List Token) → one_token (kind ∷ []) ts ≡ got t mid → length mid < length ts
unfolding one_token
one_shorter kind [] t mid e = absurd (refused_got Unexpected [] t mid e)
one_shorter kind (u ∷ ts) t mid e = go (member (code u) (numbers (kind ∷ []))) e
  where
    go : (b : Bool) → elim b [ true ↦ got u ts | false ↦ refused_token (why (grammar []) u) (u ∷ ts) ] ≡ got t mid → length mid < length (u ∷ ts)
    go true e = let l : length ts ≡ length mid = ap length (rest_is u t ts mid e) in omega arith
    go false e = absurd (refused_got (why (grammar []) u) (u ∷ ts) t mid e)

module _ {A : Type 0} (separator : TokenKind) (begin : List TokenKind) (item : Reads A) where
  -- ---- a separator, and perhaps an item

  abbrev behind : Bool → List Token → Outcome Token (Option A)
  behind b mid = and_then (elim b [ true ↦ map Some item mid | false ↦ got None mid ]) (λ x rest. got x rest)

  further_at : (ts : List Token) (t : Token) (mid : List Token) (b : Bool) → one_token (separator ∷ []) ts ≡ got t mid → sees begin mid ≡ b → further separator begin item ts ≡ behind b mid
  unfolding further sees
  further_at ts t mid b e s = ap (λ o. and_then o (λ _ mid. map (λ x. x) (choice code (numbers begin) (map Some item) (got None)) mid)) e ∙ ap (λ b. behind b mid) s

  pub further_fails : (ts : List Token) (failure : Failure) (us : List Token) → Fails (one_token (separator ∷ []) ts) failure us → Fails (further separator begin item ts) failure us
  unfolding further
  further_fails ts failure us h = fails_first (one_token (separator ∷ []) ts) (λ _ mid. map (λ x. x) (choice code (numbers begin) (map Some item) (got None)) mid) failure us h

  pub further_item_fails : (ts : List Token) (t : Token) (mid : List Token) (failure : Failure) (us : List Token) → one_token (separator ∷ []) ts ≡ got t mid → sees begin mid ≡ true
      → Fails (item mid) failure us → Fails (further separator begin item ts) failure us
  further_item_fails ts t mid failure us e s h =
      fails_same (further separator begin item ts) (behind true mid) failure us (further_at ts t mid true e s)
      (fails_first (map Some item mid) (λ x rest. got x rest) failure us (fails_first (item mid) (λ a rest. got (Some a) rest) failure us h))

  pub further_some : (ts : List Token) (t : Token) (mid : List Token) (v : A) (us : List Token) → one_token (separator ∷ []) ts ≡ got t mid → sees begin mid ≡ true → item mid ≡ got v us
      → further separator begin item ts ≡ got (Some v) us
  further_some ts t mid v us e s h = further_at ts t mid true e s ∙ ap (λ o. and_then (and_then o (λ a rest. got (Some a) rest)) (λ x rest. got x rest)) h

  pub further_none : (ts : List Token) (t : Token) (mid : List Token) → one_token (separator ∷ []) ts ≡ got t mid → sees begin mid ≡ false → further separator begin item ts ≡ got None mid
  further_none ts t mid e s = further_at ts t mid false e s

  -- ---- one item or more

  pub items_fails : (ts : List Token) (failure : Failure) (us : List Token) → Fails (item ts) failure us → Fails (items separator begin item ts) failure us
  unfolding items
  items_fails ts failure us h = fails_first (bind item (λ x. map (λ _. (x ∷ [], false)) (got (tt {0}))) ts) _ failure us (fails_first (item ts) (λ x. map (λ _. (x ∷ [], false)) (got (tt {0}))) failure us h)

  pub items_going : (ts : List Token) (v : A) (mid : List Token) (list : List A × Bool) → item ts ≡ got v mid → list ≡ (v ∷ [], false)
      → Going code (λ xs. not xs.1) (λ _. numbers (separator ∷ [])) (λ _. further separator begin item) with_item (items separator begin item ts) list mid
  unfolding items
  items_going ts v mid list e is =
      subst (λ (l : List A × Bool). Going code (λ xs. not xs.1) (λ _. numbers (separator ∷ [])) (λ _. further separator begin item) with_item (items separator begin item ts) l mid) (sym is)
      (subst (λ (out : Outcome Token (List A × Bool)). Going code (λ xs. not xs.1) (λ _. numbers (separator ∷ [])) (λ _. further separator begin item) with_item out (v ∷ [], false) mid)
      (sym (ap (λ o. and_then (and_then o (λ x rest. got (x ∷ [], false) rest)) (λ xs mid. turns code (λ xs. not xs.1) (λ _. numbers (separator ∷ [])) (λ _. further separator begin item) with_item (suc (length mid)) xs mid)) e))
      (going code (λ xs. not xs.1) (λ _. numbers (separator ∷ [])) (λ _. further separator begin item) with_item (v ∷ [], false) mid))

  pub goes_on_is : (ended : Bool) (ts : List Token) → (not ended && begins code (numbers (separator ∷ [])) ts) ≡ (not ended && sees (separator ∷ []) ts)
  unfolding sees
  goes_on_is ended ts = refl

  -- ---- any number of items, and what closes them

  module _ (closer : TokenKind) (ts : List Token) where
    abbrev closed_at : Bool → Outcome Token (List A)
    closed_at b = elim b [
      | true ↦ bind (one_token (closer ∷ [])) (λ _. map (λ _. []) (got (tt {0}))) ts
      | false ↦ bind (bind (items separator begin item) (λ xs. map (λ _. xs) (one_token (closer ∷ [])))) (λ xs. map (λ _. xs.0) (got (tt {0}))) ts
    ]

    closed_is : (b : Bool) → sees (closer ∷ []) ts ≡ b → closed_items separator begin item closer ts ≡ closed_at b
    unfolding closed_items sees
    closed_is b e = ap closed_at e

    pub closed_none_fails : (failure : Failure) (us : List Token) → sees (closer ∷ []) ts ≡ true → Fails (one_token (closer ∷ []) ts) failure us → Fails (closed_items separator begin item closer ts) failure us
    closed_none_fails failure us s h = fails_same (closed_items separator begin item closer ts) (closed_at true) failure us (closed_is true s) (fails_first (one_token (closer ∷ []) ts) (λ _ rest. got [] rest) failure us h)

    pub closed_none : (t : Token) (us : List Token) → sees (closer ∷ []) ts ≡ true → one_token (closer ∷ []) ts ≡ got t us → closed_items separator begin item closer ts ≡ got [] us
    closed_none t us s h = closed_is true s ∙ ap (λ o. and_then o (λ _ rest. got [] rest)) h

    pub closed_items_fail : (failure : Failure) (us : List Token) → sees (closer ∷ []) ts ≡ false → Fails (items separator begin item ts) failure us → Fails (closed_items separator begin item closer ts) failure us
    closed_items_fail failure us s h =
        fails_same (closed_items separator begin item closer ts) (closed_at false) failure us (closed_is false s)
        (fails_first (bind (items separator begin item) (λ xs. map (λ _. xs) (one_token (closer ∷ []))) ts) (λ xs rest. got xs.0 rest) failure us
        (fails_first (items separator begin item ts) (λ xs. map (λ _. xs) (one_token (closer ∷ []))) failure us h))

    abbrev closing : List A × Bool → Outcome Token Token → Outcome Token (List A)
    closing xs o = and_then (and_then o (λ _ rest. got xs rest)) (λ xs rest. got xs.0 rest)

    closes : (xs : List A × Bool) (mid : List Token) → sees (closer ∷ []) ts ≡ false → items separator begin item ts ≡ got xs mid → closed_items separator begin item closer ts ≡ closing xs (one_token (closer ∷ []) mid)
    closes xs mid s e = closed_is false s ∙ ap (λ o. and_then (and_then o (λ xs. map (λ _. xs) (one_token (closer ∷ [])))) (λ xs rest. got xs.0 rest)) e

    pub closed_end_fails : (xs : List A × Bool) (mid : List Token) (failure : Failure) (us : List Token) → sees (closer ∷ []) ts ≡ false → items separator begin item ts ≡ got xs mid
        → Fails (one_token (closer ∷ []) mid) failure us → Fails (closed_items separator begin item closer ts) failure us
    closed_end_fails xs mid failure us s e h =
        fails_same (closed_items separator begin item closer ts) (closing xs (one_token (closer ∷ []) mid)) failure us (closes xs mid s e)
        (fails_first (and_then (one_token (closer ∷ []) mid) (λ _ rest. got xs rest)) (λ xs rest. got xs.0 rest) failure us (fails_first (one_token (closer ∷ []) mid) (λ _ rest. got xs rest) failure us h))

    pub closed : (xs : List A × Bool) (mid : List Token) (t : Token) (us : List Token) → sees (closer ∷ []) ts ≡ false → items separator begin item ts ≡ got xs mid → one_token (closer ∷ []) mid ≡ got t us
        → closed_items separator begin item closer ts ≡ got xs.0 us
    closed xs mid t us s e h = closes xs mid s e ∙ ap (closing xs) h
