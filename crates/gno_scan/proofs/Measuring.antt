-- The longest spellings of two classes together, and of one behind the other.
use Rattle.std.proofs.Common.{◌≡◌, ◌≤◌, ◌<◌, ℕ, ◌+◌, List, [], ◌∷◌, ◌++◌, Bool, true, false, cond, ◌&&◌, refl, arith, ap, ◌∙◌, sym, suc, zero, take, drop, length, inl, inr, subst, length-append, length-drop, append_assoc, take-add, drop_at, max}
use Rattle.std.specs.Prelude.{◌⊎◌}
use Rattle.std.specs.List.{list_all}
use Rattle.std.proofs.lemmas.Bool.{cases_lt}
use Rattle.std.proofs.lemmas.Bool.Decides.{nat_tests}
use Rattle.gno_scan.specs.Longest.{Measures, Begins}
use Rattle.gno_scan.specs.NumberLengths.{behind, joined, led_length, joined_length}

abbrev pub Counts : (List ℕ → Type 0) → (List ℕ → ℕ) → Type 0
Counts P count = (text : List ℕ) → Measures P text (count text)

abbrev pub AreNotEmpty : (List ℕ → Type 0) → Type 0
AreNotEmpty P = (word : List ℕ) → P word → 0 < length word

-- the spellings have no other bytes than these
abbrev pub AreOf : (ℕ → Bool) → (List ℕ → Type 0) → Type 0
AreOf is_byte P = (word : List ℕ) → P word → list_all is_byte word ≡ true

-- the first byte of each spelling is one of these, or none of these
pub record BeginsSo (is_byte : ℕ → Bool) (kind : Bool) (word : List ℕ) : Type 0 where
  pub first : ℕ
  pub rest : List ℕ
  pub parts : word ≡ first ∷ rest
  pub is_so : is_byte first ≡ kind

-- a byte of the class, and a spelling behind it
pub record IsLed (is_first : ℕ → Bool) (P : List ℕ → Type 0) (word : List ℕ) : Type 0 where
  pub first : ℕ
  pub rest : List ℕ
  pub parts : word ≡ first ∷ rest
  pub leads : is_first first ≡ true
  pub behind_it : P rest

-- a spelling of one class, and one of another behind it
pub record IsJoined (P Q : List ℕ → Type 0) (word : List ℕ) : Type 0 where
  pub left : List ℕ
  pub right : List ℕ
  pub parts : word ≡ left ++ right
  pub on_left : P left
  pub on_right : Q right

pub counted : (P : List ℕ → Type 0) (count : List ℕ → ℕ) → Counts P count → (text : List ℕ) (n : ℕ) → n ≡ count text → Measures P text n
counted P count h text n e = subst (λ (n : ℕ). Measures P text n) (sym e) (h text)

pub mapped : (P Q : List ℕ → Type 0) (count : List ℕ → ℕ) → ((word : List ℕ) → P word → Q word) → ((word : List ℕ) → Q word → P word) → Counts P count → Counts Q count
mapped P Q count to from h text = record {
  within = (h text).within;
  read = elim (h text).read [ inl none ↦ inl none | inr spelled ↦ inr (to (take (count text) text) spelled) ];
  longest = λ word q begins. (h text).longest word (from word q) begins;
}

either_of : (P Q : List ℕ → Type 0) (text : List ℕ) (m n k : ℕ) → k ≡ max m n → Measures P text m → Measures Q text n → (k ≡ 0) ⊎ (P (take k text) ⊎ Q (take k text))
either_of P Q text m n k e p q = elim (cases_lt m n) [
  | inl h ↦
      let same : k ≡ n = omega arith in
      elim q.read [ inl none ↦ inl (same ∙ none) | inr spelled ↦ inr (inr (subst (λ (i : ℕ). Q (take i text)) (sym same) spelled)) ]
  | inr h ↦
      let same : k ≡ m = omega arith in
      elim p.read [ inl none ↦ inl (same ∙ none) | inr spelled ↦ inr (inl (subst (λ (i : ℕ). P (take i text)) (sym same) spelled)) ]
]

either_longest : (P Q : List ℕ → Type 0) (text : List ℕ) (m n : ℕ) → Measures P text m → Measures Q text n → (word : List ℕ) → P word ⊎ Q word → Begins word text → length word ≤ max m n
either_longest P Q text m n p q word (inl h) begins = let short = p.longest word h begins in omega arith
either_longest P Q text m n p q word (inr h) begins = let short = q.longest word h begins in omega arith

pub either : (P Q : List ℕ → Type 0) (f g : List ℕ → ℕ) → Counts P f → Counts Q g → Counts (λ word. P word ⊎ Q word) (λ text. max (f text) (g text))
either P Q f g p q text =
    let a : f text ≤ length text = (p text).within in
    let b : g text ≤ length text = (q text).within in
    record {
      within = omega arith;
      read = either_of P Q text (f text) (g text) (max (f text) (g text)) refl (p text) (q text);
      longest = either_longest P Q text (f text) (g text) (p text) (q text);
    }

pub behind_some : (k n : ℕ) → 0 < n → behind k n ≡ k + n
behind_some k n h = grind (arith, nat_tests)

pub joined_some : (m n : ℕ) → 0 < m → 0 < n → joined m n ≡ m + n
joined_some m n h k = grind (arith, nat_tests)

pub behind_cases : (k n : ℕ) → ((n ≡ 0) × (behind k n ≡ 0)) ⊎ ((0 < n) × (behind k n ≡ k + n))
behind_cases k zero = inl (refl, refl)
behind_cases k (suc n) = inr (omega arith, behind_some k (suc n) (omega arith))

pub joined_cases : (m n : ℕ) → (joined m n ≡ 0) ⊎ ((0 < m) × (0 < n) × (joined m n ≡ m + n))
joined_cases zero n = inl refl
joined_cases (suc m) zero = inl (grind (arith, nat_tests))
joined_cases (suc m) (suc n) = inr (omega arith, omega arith, joined_some (suc m) (suc n) (omega arith) (omega arith))

-- a front of bytes of a class goes no further than the first byte that is none of it
front_stops : (is_byte : ℕ → Bool) (a : List ℕ) (c : ℕ) (rest : List ℕ) (n : ℕ) → list_all is_byte (take n (a ++ c ∷ rest)) ≡ true → is_byte c ≡ false → n ≤ length a
front_stops is_byte a c rest zero h k = omega arith
front_stops is_byte [] c rest (suc n) h k =
    let e : (is_byte c && list_all is_byte (take n rest)) ≡ true = h in
    let f : (false && list_all is_byte (take n rest)) ≡ true = rw k at e in
    absurd (let g : false ≡ true = f in cc)
front_stops is_byte (x ∷ xs) c rest (suc n) h k = elim (is_byte x) as (λ t. (t && list_all is_byte (take n (xs ++ c ∷ rest))) ≡ true → suc n ≤ suc (length xs)) [
  | true ↦ λ e. let short = front_stops is_byte xs c rest n e k in omega arith
  | false ↦ λ e. absurd (let g : false ≡ true = e in cc)
] h

pub stops_within : (P : List ℕ → Type 0) (is_byte : ℕ → Bool) → AreOf is_byte P → (text : List ℕ) (n : ℕ) → Measures P text n → (a : List ℕ) (c : ℕ) (rest : List ℕ) → text ≡ a ++ c ∷ rest → is_byte c ≡ false → n ≤ length a
stops_within P is_byte of text n h a c rest e k = elim h.read [
  | inl none ↦ omega arith
  | inr spelled ↦ front_stops is_byte a c rest n (subst (λ (t : List ℕ). list_all is_byte (take n t) ≡ true) e (of (take n text) spelled)) k
]

pub stops_at : (P : List ℕ → Type 0) (is_byte : ℕ → Bool) → AreOf is_byte P → (text : List ℕ) (n : ℕ) → Measures P text n → (a : List ℕ) (c : ℕ) (rest : List ℕ) → text ≡ a ++ c ∷ rest → is_byte c ≡ false → P a → n ≡ length a
stops_at P is_byte of text n h a c rest e k p =
    let short = stops_within P is_byte of text n h a c rest e k in
    let long = h.longest a p (c ∷ rest, e) in
    omega arith

led_within : (k m n : ℕ) → n ≤ m → behind k n ≤ k + m
led_within k m n h = elim (behind_cases k n) [ inl none ↦ let e = none.1 in omega arith | inr some ↦ let e = some.1 in omega arith ]

led_read : (is_first : ℕ → Bool) (P : List ℕ → Type 0) (b : ℕ) (rest : List ℕ) (n : ℕ) → is_first b ≡ true → Measures P rest n → (behind 1 n ≡ 0) ⊎ IsLed is_first P (take (behind 1 n) (b ∷ rest))
led_read is_first P b rest n h m = elim (behind_cases 1 n) [
  | inl none ↦ inl none.1
  | inr some ↦
      let more : 0 < n = some.0 in
      let count : behind 1 n ≡ suc n = some.1 ∙ (omega arith) in
      elim m.read [
        | inl none ↦ absurd (omega arith)
        | inr spelled ↦ inr (rw count (record { first = b; rest = take n rest; parts = refl; leads = h; behind_it = spelled }))
      ]
]

led_longest : (is_first : ℕ → Bool) (P : List ℕ → Type 0) → AreNotEmpty P → (b : ℕ) (rest : List ℕ) (n : ℕ) → Measures P rest n → (word : List ℕ) → IsLed is_first P word → Begins word (b ∷ rest) → length word ≤ behind 1 n
led_longest is_first P some b rest n m word led begins =
    let whole : b ∷ rest ≡ led.first ∷ (led.rest ++ begins.0) = begins.1 ∙ ap (λ (w : List ℕ). w ++ begins.0) led.parts in
    let tail : rest ≡ led.rest ++ begins.0 = cc in
    let short = m.longest led.rest led.behind_it (begins.0, tail) in
    let full = some led.rest led.behind_it in
    let count : behind 1 n ≡ 1 + n = behind_some 1 n (omega arith) in
    let size : length word ≡ suc (length led.rest) = ap length led.parts in
    omega arith

not_led : (is_first : ℕ → Bool) (P : List ℕ → Type 0) (b : ℕ) (rest : List ℕ) → is_first b ≡ false → (word : List ℕ) → IsLed is_first P word → Begins word (b ∷ rest) → length word ≤ 0
not_led is_first P b rest h word led begins =
    let whole : b ∷ rest ≡ led.first ∷ (led.rest ++ begins.0) = begins.1 ∙ ap (λ (w : List ℕ). w ++ begins.0) led.parts in
    let same : b ≡ led.first = cc in
    let yes : is_first b ≡ true = ap is_first same ∙ led.leads in
    absurd (let f : false ≡ true = sym h ∙ yes in cc)

nothing_led : (is_first : ℕ → Bool) (P : List ℕ → Type 0) (word : List ℕ) → IsLed is_first P word → Begins word [] → length word ≤ 0
nothing_led is_first P word led begins =
    let whole : [] ≡ led.first ∷ (led.rest ++ begins.0) = begins.1 ∙ ap (λ (w : List ℕ). w ++ begins.0) led.parts in
    absurd (cc)

pub led : (is_first : ℕ → Bool) (P : List ℕ → Type 0) (count : List ℕ → ℕ) → AreNotEmpty P → Counts P count → Counts (IsLed is_first P) (led_length is_first count)
led is_first P count some h [] = record { within = omega arith; read = inl refl; longest = nothing_led is_first P }
led is_first P count some h (b ∷ rest) = elim (is_first b) as (λ t. is_first b ≡ t → Measures (IsLed is_first P) (b ∷ rest) (cond t (behind 1 (count rest)) 0)) [
  | true ↦ λ e.
      let short = led_within 1 (length rest) (count rest) (h rest).within in
      record {
        within = omega arith;
        read = led_read is_first P b rest (count rest) e (h rest);
        longest = led_longest is_first P some b rest (count rest) (h rest);
      }
  | false ↦ λ e. record { within = omega arith; read = inl refl; longest = not_led is_first P b rest e }
] refl

joined_within : (text : List ℕ) (m n : ℕ) → m ≤ length text → n ≤ length (drop m text) → joined m n ≤ length text
joined_within text m n h k =
    let left = length-drop m text in
    elim (joined_cases m n) [ inl none ↦ omega arith | inr some ↦ let e = some.2 in omega arith ]

joined_read : (P Q : List ℕ → Type 0) (text : List ℕ) (m n : ℕ) → Measures P text m → Measures Q (drop m text) n → (joined m n ≡ 0) ⊎ IsJoined P Q (take (joined m n) text)
joined_read P Q text m n p q = elim (joined_cases m n) [
  | inl none ↦ inl none
  | inr some ↦ elim p.read [
    | inl none ↦ absurd (let s = some.0 in omega arith)
    | inr left ↦ elim q.read [
      | inl none ↦ absurd (let s = some.1 in omega arith)
      | inr right ↦ inr (record { left = take m text; right = take n (drop m text); parts = ap (λ (i : ℕ). take i text) some.2 ∙ take-add m n text; on_left = left; on_right = right })
    ]
  ]
]

joined_longest : (P Q : List ℕ → Type 0) (is_byte : ℕ → Bool) → AreNotEmpty P → AreOf is_byte P → ((word : List ℕ) → Q word → BeginsSo is_byte false word) → (text : List ℕ) (m n : ℕ) → Measures P text m → Measures Q (drop m text) n
    → (word : List ℕ) → IsJoined P Q word → Begins word text → length word ≤ joined m n
joined_longest P Q is_byte some of off text m n p q word j begins =
    let f = off j.right j.on_right in
    let apart : text ≡ j.left ++ (j.right ++ begins.0) = begins.1 ∙ ap (λ (w : List ℕ). w ++ begins.0) j.parts ∙ append_assoc j.left j.right begins.0 in
    let at_first : text ≡ j.left ++ f.first ∷ (f.rest ++ begins.0) = apart ∙ ap (λ (w : List ℕ). j.left ++ (w ++ begins.0)) f.parts in
    let left : m ≡ length j.left = stops_at P is_byte of text m p j.left f.first (f.rest ++ begins.0) at_first f.is_so j.on_left in
    let behind_left : drop m text ≡ j.right ++ begins.0 = ap (drop m) apart ∙ drop_at j.left (j.right ++ begins.0) m (sym left) in
    let short = q.longest j.right j.on_right (begins.0, behind_left) in
    let full = some j.left j.on_left in
    let one : length j.right ≡ suc (length f.rest) = ap length f.parts in
    let size : length word ≡ length j.left + length j.right = ap length j.parts ∙ length-append j.left j.right in
    let count : joined m n ≡ m + n = joined_some m n (omega arith) (omega arith) in
    omega arith

pub joins : (P Q : List ℕ → Type 0) (f g : List ℕ → ℕ) (is_byte : ℕ → Bool) → AreNotEmpty P → AreOf is_byte P → ((word : List ℕ) → Q word → BeginsSo is_byte false word) → Counts P f → Counts Q g → Counts (IsJoined P Q) (joined_length f g)
joins P Q f g is_byte some of off p q text = record {
  within = joined_within text (f text) (g (drop (f text) text)) (p text).within (q (drop (f text) text)).within;
  read = joined_read P Q text (f text) (g (drop (f text) text)) (p text) (q (drop (f text) text));
  longest = joined_longest P Q is_byte some of off text (f text) (g (drop (f text) text)) (p text) (q (drop (f text) text));
}
