-- The reader of a grammar: it has one token in hand, and answers a value and the rest, or why it refuses which rest.
use Rattle.std.specs.Prelude.{ℕ, zero, suc, Bool, true, false, ◌&&◌, List, [], ◌∷◌, ◌++◌, length, Option, Some, None}
use Rattle.gno_grammar.specs.declared.refusal.LeftOut.{LeftOut as Form}
use Rattle.gno_grammar.specs.declared.refusal.Refusal.{Refusal}
use Rattle.gno_grammar.specs.declared.refusal.Refusal.TheVariants.{Unexpected, TooDeep, LeftOut}
use Rattle.gno_grammar.specs.Sets.{member, choose}
use Rattle.gno_grammar.specs.Phrases.{Phrase, nothing, token, both, either, optional, chain, until, follow, repeat, construct, left_out, Grammar}

pub data Outcome (T A : Type 0) : Type 0 where
  got : A → List T → Outcome T A
  refused : Refusal → List T → Outcome T A

abbrev pub and_then : {T A B : Type 0} → Outcome T A → (A → List T → Outcome T B) → Outcome T B
and_then (got a ts) f = f a ts
and_then (refused w ts) f = refused w ts

abbrev pub bind : {T A B : Type 0} → (List T → Outcome T A) → (A → List T → Outcome T B) → List T → Outcome T B
bind r s ts = and_then (r ts) s

abbrev pub map : {T A B : Type 0} → (A → B) → (List T → Outcome T A) → List T → Outcome T B
map f r ts = and_then (r ts) (λ a rest. got (f a) rest)

-- turns until the value ends them, at most this many; more than there are tokens are enough
unfoldable pub until_turns : {T A B : Type 0} → (A → Bool) → (A → List T → Outcome T B) → (A → B → A) → ℕ → A → List T → Outcome T A
until_turns p r f zero a ts = refused Unexpected ts
until_turns p r f (suc n) a ts = elim (p a) [ true ↦ got a ts | false ↦ and_then (r a ts) (λ b mid. until_turns p r f n (f a b) mid) ]

module _ {T : Type 0} (code : T → ℕ) where
  -- the next token is of these kinds
  unfoldable pub begins : List ℕ → List T → Bool
  begins s [] = false
  begins s (t ∷ ts) = member (code t) s

  abbrev pub choice : {A : Type 0} → List ℕ → (List T → Outcome T A) → (List T → Outcome T A) → List T → Outcome T A
  choice s r q ts = elim (begins s ts) [ true ↦ r ts | false ↦ q ts ]

  -- at most this many turns; more than there are tokens are enough
  unfoldable pub turns : {A B : Type 0} → (A → Bool) → (A → List ℕ) → (A → List T → Outcome T B) → (A → B → A) → ℕ → A → List T → Outcome T A
  turns p s r f zero a ts = refused Unexpected ts
  turns p s r f (suc n) a ts = elim (p a && begins (s a) ts) [ true ↦ and_then (r a ts) (λ b mid. turns p s r f n (f a b) mid) | false ↦ got a ts ]

  abbrev pub one_of : (T → Refusal) → List ℕ → List T → Outcome T T
  one_of why s [] = refused Unexpected []
  one_of why s (t ∷ ts) = elim (member (code t) s) [ true ↦ got t ts | false ↦ refused (why t) (t ∷ ts) ]

abbrev pub why_form : Option Form → Refusal
why_form None = Unexpected
why_form (Some n) = LeftOut n 0

-- why these tokens are refused, where each token says it of itself
abbrev pub refusal : {T : Type 0} → (T → Refusal) → List T → Refusal
refusal why [] = Unexpected
refusal why (t ∷ ts) = why t

module _ {T R : Type 0} {gives : R → Type 0} (grammar : Grammar T R gives) where
  -- whether a phrase can read no token at all
  unfoldable pub null : {A : Type 0} → Phrase T R gives A → Bool
  null (nothing x) = true
  null (token s) = false
  null (both f g h) = null g && null h
  null (either g h) = null h
  null (optional g) = true
  null (chain m w u p f g h) = null g
  null (until m w p f g h) = false
  null (follow m w u f g h) = null g
  null (repeat p f g h) = null g
  null (construct k) = false
  null (left_out n c s g) = null g

  -- the kinds that begin a phrase's words, and the forms that are left out in it
  unfoldable pub first : {A : Type 0} → Phrase T R gives A → List ℕ
  first (nothing x) = []
  first (token s) = s
  first (both f g h) = first g ++ choose (null g) (first h) []
  first (either g h) = first g ++ first h
  first (optional g) = first g
  first (chain m w u p f g h) = first g ++ choose (null g) u []
  first (until m w p f g h) = first g
  first (follow m w u f g h) = first g ++ choose (null g) u []
  first (repeat p f g h) = first g ++ choose (null g) (first h) []
  first (construct k) = grammar.first_of k
  first (left_out n c s g) = s ++ first g

  -- why a token is refused that begins nothing here
  unfoldable pub why : T → Refusal
  why t = why_form (grammar.form t)

  abbrev pub why_at : List T → Refusal
  why_at ts = refusal why ts

  -- the reader of a phrase, where L reads the constructs in it
  unfoldable pub run : ((k : R) → List T → Outcome T (gives k)) → {A : Type 0} → Phrase T R gives A → List T → Outcome T A
  run L (nothing x) ts = got x ts
  run L (token s) ts = one_of grammar.code why s ts
  run L (both f g h) ts = bind (run L g) (λ a. map (f a) (run L h)) ts
  run L (either g h) ts = choice grammar.code (first g) (run L g) (run L h) ts
  run L (optional g) ts = choice grammar.code (first g) (map Some (run L g)) (got None) ts
  run L (chain m w u p f g h) ts = bind (run L g) (λ a mid. turns grammar.code p (λ a. first (h a)) (λ a. run L (h a)) f (suc (length mid)) a mid) ts
  run L (until m w p f g h) ts = bind (run L g) (λ a mid. until_turns p (λ a. run L (h a)) f (suc (length mid)) a mid) ts
  run L (follow m w u f g h) ts = bind (run L g) (λ a. map (f a) (run L (h a))) ts
  run L (repeat p f g h) ts = bind (run L g) (λ a mid. turns grammar.code p (λ a. first h) (λ a. run L h) f (suc (length mid)) a mid) ts
  run L (construct k) ts = L k ts
  run L (left_out n c s g) ts = elim (begins grammar.code s ts) [ true ↦ refused (LeftOut n c) ts | false ↦ run L g ts ]

  -- the reader of a rule, where rules may nest this deep, itself counted
  unfoldable pub level : ℕ → (k : R) → List T → Outcome T (gives k)
  level zero k ts = elim (begins grammar.code (grammar.first_of k) ts) [ true ↦ refused TooDeep ts | false ↦ refused (why_at ts) ts ]
  level (suc d) k ts = run (level d) (grammar.rule k) ts
