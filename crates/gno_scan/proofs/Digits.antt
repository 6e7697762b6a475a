-- The digits that a text begins with.
use Rattle.std.proofs.Common.{◌≡◌, ◌≤◌, ◌<◌, ℕ, ◌+◌, List, [], ◌∷◌, ◌++◌, Bool, true, false, ◌||◌, ◌&&◌, refl, arith, ap, ◌∙◌, sym, suc, take, drop, length, inl, inr, get_or, subst, eqb-true}
use Rattle.std.specs.Prelude.{◌==◌, ◌⊎◌}
use Rattle.std.specs.List.{list_all}
use Rattle.std.proofs.lemmas.List.{at_drop_more, at_drop_all}
use Rattle.gno_scan.specs.Longest.{Measures, Begins}
use Rattle.gno_scan.specs.Numbers.{AreDigits}
use Rattle.gno_scan.specs.Numbers.AreDigits.{last, digit, digit_and_bar}
use Rattle.gno_scan.specs.NumberLengths.{begins_with, goes_on, run_length, digits_length}

module _ (is_one : ℕ → Bool) where
  run_more : (b : ℕ) (rest : List ℕ) → goes_on is_one (b ∷ rest) ≡ true → run_length is_one (b ∷ rest) ≡ suc (run_length is_one rest)
  unfolding run_length
  run_more b rest h = let one : 1 + run_length is_one rest ≡ suc (run_length is_one rest) = omega arith in rw h one

  run_stops : (text : List ℕ) → goes_on is_one text ≡ false → run_length is_one text ≡ 0
  unfolding run_length
  run_stops [] h = refl
  run_stops (b ∷ rest) h = rw h refl

  on_digit : (b : ℕ) (rest : List ℕ) → is_one b ≡ true → goes_on is_one (b ∷ rest) ≡ true
  on_digit b rest h = rw h refl

  on_bar : (rest : List ℕ) → begins_with is_one rest ≡ true → goes_on is_one (95 ∷ rest) ≡ true
  on_bar rest h = elim (is_one 95) as (λ t. (t || begins_with is_one rest) ≡ true) [ true ↦ refl | false ↦ h ]

  run_within : (text : List ℕ) → run_length is_one text ≤ length text
  run_within [] = let e = run_stops [] refl in omega arith
  run_within (b ∷ rest) = at_front (run_within rest) (goes_on is_one (b ∷ rest)) refl
    where
      at_front : run_length is_one rest ≤ length rest → (t : Bool) → goes_on is_one (b ∷ rest) ≡ t → run_length is_one (b ∷ rest) ≤ length (b ∷ rest)
      at_front short true e = let more = run_more b rest e in omega arith
      at_front short false e = let none = run_stops (b ∷ rest) e in omega arith

  abbrev AreRead : ℕ → List ℕ → Type 0
  AreRead b rest = AreDigits is_one (b ∷ take (run_length is_one rest) rest)

  read_end : (b : ℕ) (rest : List ℕ) → is_one b ≡ true → goes_on is_one rest ≡ false → AreRead b rest
  read_end b rest h e = rw (run_stops rest e) (last b h)

  read_digit : (b c : ℕ) (rest : List ℕ) → is_one b ≡ true → is_one c ≡ true → AreRead c rest → AreRead b (c ∷ rest)
  read_digit b c rest h k more = rw (run_more c rest (on_digit c rest k)) (digit b (c ∷ take (run_length is_one rest) rest) h more)

  read_bar : (b d : ℕ) (rest : List ℕ) → is_one b ≡ true → is_one d ≡ true → AreRead d rest → AreRead b (95 ∷ d ∷ rest)
  read_bar b d rest h k more =
      let first : run_length is_one (95 ∷ d ∷ rest) ≡ suc (suc (run_length is_one rest)) = run_more 95 (d ∷ rest) (on_bar (d ∷ rest) k) ∙ ap suc (run_more d rest (on_digit d rest k)) in
      rw first (digit_and_bar b (d ∷ take (run_length is_one rest) rest) h more)

  off_bar : (c : ℕ) (rest : List ℕ) → is_one c ≡ false → (c == 95) ≡ false → goes_on is_one (c ∷ rest) ≡ false
  off_bar c rest h k = rw (h, k) refl

  off_behind_bar : (c : ℕ) (rest : List ℕ) → is_one c ≡ false → begins_with is_one rest ≡ false → goes_on is_one (c ∷ rest) ≡ false
  off_behind_bar c rest h k = rw (h, k) (elim (c == 95) as (λ t. (t && false) ≡ false) [ true ↦ refl | false ↦ refl ])

  -- what is counted behind a digit spells digits
  read_behind : (b : ℕ) (rest : List ℕ) → is_one b ≡ true → AreRead b rest
  read_behind b [] h = read_end b [] h refl
  read_behind b (c ∷ []) h = on_test (is_one c) refl
    where
      on_test : (t : Bool) → is_one c ≡ t → AreRead b (c ∷ [])
      on_test true e = read_digit b c [] h e (read_end c [] e refl)
      on_test false e = read_end b (c ∷ []) h (off_behind_bar c [] e refl)
  read_behind b (c ∷ d ∷ rest) h = on_test (is_one c) (c == 95) (is_one d) refl refl refl (λ k. read_behind c (d ∷ rest) k) (λ k. read_behind d rest k)
    where
      on_test : (t bar next : Bool) → is_one c ≡ t → (c == 95) ≡ bar → is_one d ≡ next → (is_one c ≡ true → AreRead c (d ∷ rest)) → (is_one d ≡ true → AreRead d rest) → AreRead b (c ∷ d ∷ rest)
      on_test true bar next e f g more behind = read_digit b c (d ∷ rest) h e (more e)
      on_test false false next e f g more behind = read_end b (c ∷ d ∷ rest) h (off_bar c (d ∷ rest) e f)
      on_test false true false e f g more behind = read_end b (c ∷ d ∷ rest) h (off_behind_bar c (d ∷ rest) e g)
      on_test false true true e f g more behind = subst (λ (x : ℕ). AreRead b (x ∷ d ∷ rest)) (sym (eqb-true c 95 f)) (read_bar b d rest h g (behind g))

  begins_digits : (word rest : List ℕ) → AreDigits is_one word → begins_with is_one (word ++ rest) ≡ true
  begins_digits word rest (last b h) = h
  begins_digits word rest (digit b more h k) = h
  begins_digits word rest (digit_and_bar b more h k) = h

  -- no digits that the text begins with are longer than what is counted
  run_longest : (word rest : List ℕ) → AreDigits is_one word → length word ≤ run_length is_one (word ++ rest)
  run_longest word rest (last b h) = let e = run_more b rest (on_digit b rest h) in omega arith
  run_longest word rest (digit b more h k) =
      let e = run_more b (more ++ rest) (on_digit b (more ++ rest) h) in
      let f = run_longest more rest k in
      omega arith
  run_longest word rest (digit_and_bar b more h k) =
      let e = run_more b (95 ∷ more ++ rest) (on_digit b (95 ∷ more ++ rest) h) in
      let g = run_more 95 (more ++ rest) (on_bar (more ++ rest) (begins_digits more rest k)) in
      let f = run_longest more rest k in
      omega arith

  pub digits_run : (text : List ℕ) → begins_with is_one text ≡ true → digits_length is_one text ≡ run_length is_one text
  unfolding digits_length
  digits_run text h = rw h refl

  pub digits_none : (text : List ℕ) → begins_with is_one text ≡ false → digits_length is_one text ≡ 0
  unfolding digits_length
  digits_none text h = rw h refl

  digits_within : (text : List ℕ) → digits_length is_one text ≤ length text
  digits_within text = elim (begins_with is_one text) as (λ t. begins_with is_one text ≡ t → digits_length is_one text ≤ length text) [
    | true ↦ λ e. let same = digits_run text e in let short = run_within text in omega arith
    | false ↦ λ e. let none = digits_none text e in omega arith
  ] refl

  digits_read : (text : List ℕ) → (digits_length is_one text ≡ 0) ⊎ AreDigits is_one (take (digits_length is_one text) text)
  digits_read [] = inl (digits_none [] refl)
  digits_read (b ∷ rest) = elim (is_one b) as (λ t. is_one b ≡ t → (digits_length is_one (b ∷ rest) ≡ 0) ⊎ AreDigits is_one (take (digits_length is_one (b ∷ rest)) (b ∷ rest))) [
    | true ↦ λ e.
        let count : digits_length is_one (b ∷ rest) ≡ suc (run_length is_one rest) = digits_run (b ∷ rest) e ∙ run_more b rest (on_digit b rest e) in
        inr (rw count (read_behind b rest e))
    | false ↦ λ e. inl (digits_none (b ∷ rest) e)
  ] refl

  digits_longest : (text word : List ℕ) → AreDigits is_one word → Begins word text → length word ≤ digits_length is_one text
  digits_longest text word h begins =
      let first : begins_with is_one text ≡ true = ap (begins_with is_one) begins.1 ∙ begins_digits word begins.0 h in
      let count : digits_length is_one text ≡ run_length is_one (word ++ begins.0) = digits_run text first ∙ ap (run_length is_one) begins.1 in
      let longest = run_longest word begins.0 h in
      omega arith

  pub digits_measure : (text : List ℕ) → Measures (AreDigits is_one) text (digits_length is_one text)
  digits_measure text = record { within = digits_within text; read = digits_read text; longest = digits_longest text }

  pub digits_counted : (text : List ℕ) (count : ℕ) → count ≡ digits_length is_one text → Measures (AreDigits is_one) text count
  digits_counted text count e = subst (λ (n : ℕ). Measures (AreDigits is_one) text n) (sym e) (digits_measure text)

  -- one more step of the count
  pub run_drop_more : (text : List ℕ) (i : ℕ) → i < length text → goes_on is_one (drop i text) ≡ true → run_length is_one (drop i text) ≡ 1 + run_length is_one (drop (i + 1) text)
  run_drop_more text i h k =
      let front : goes_on is_one (get_or text i 0 ∷ drop (i + 1) text) ≡ true = sym (at_drop_more (goes_on is_one) text i 0 h) ∙ k in
      let step = run_more (get_or text i 0) (drop (i + 1) text) front in
      let here = at_drop_more (run_length is_one) text i 0 h in
      omega arith

  pub run_drop_stops : (text : List ℕ) (i : ℕ) → goes_on is_one (drop i text) ≡ false → run_length is_one (drop i text) ≡ 0
  run_drop_stops text i h = run_stops (drop i text) h

  pub run_drop_all : (text : List ℕ) (i : ℕ) → length text ≤ i → run_length is_one (drop i text) ≡ 0
  run_drop_all text i h = at_drop_all (run_length is_one) text i h ∙ run_stops [] refl

  -- digits have no other bytes than digits and `_`
  abbrev pub is_digit_or_bar : ℕ → Bool
  is_digit_or_bar b = is_one b || b == 95

  pub digit_bytes : (word : List ℕ) → AreDigits is_one word → list_all is_digit_or_bar word ≡ true
  digit_bytes word (last b h) = rw h refl
  digit_bytes word (digit b more h k) = rw (h, digit_bytes more k) refl
  digit_bytes word (digit_and_bar b more h k) = rw (h, digit_bytes more k) (elim (is_one 95) as (λ t. ((t || true) && true) ≡ true) [ true ↦ refl | false ↦ refl ])

pub ruleset run_steps = (run_drop_more, run_drop_stops, run_drop_all)
