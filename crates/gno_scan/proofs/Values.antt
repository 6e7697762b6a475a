-- What an integer stands for.
use Rattle.std.proofs.Common.{◌≡◌, ◌≤◌, ◌<◌, ℕ, ◌+◌, ◌*◌, ◌^◌, List, [], ◌∷◌, Bool, true, false, cond, ◌||◌, ◌&&◌, refl, arith, ap, ◌∙◌, sym, length, drop, get_or, subst, Option, Some, None, ltb-true, lt-ltb}
use Rattle.std.specs.Prelude.{◌==◌, nat_lt, IfSome}
use Rattle.std.specs.List.{list_any}
use Rattle.std.specs.Char.{digit_value}
use Rattle.std.specs.Str.Parse.{IsNumeral, AllDigits, digits_value, digits_value_after}
use Rattle.std.proofs.lemmas.List.{at_drop_more, at_drop_all}
use Rattle.std.proofs.Math.Nat.{le-mul_of_pos_right}
use Rattle.gno_scan.specs.Numbers.{IsValue, base_and_digits, without_bars, is_hex_letter, is_other_base_letter, base_behind_zero}
use Rattle.gno_scan.specs.NumberValues.{base_of, prefix_length, is_no_bar, with_digit, with_byte, value_from}

module _ (base : ℕ) where
  step_some : (value b next : ℕ) (rest : List ℕ) → with_byte base value b ≡ Some next → value_from base value (b ∷ rest) ≡ value_from base next rest
  unfolding value_from
  step_some value b next rest e = rw e refl

  step_none : (value b : ℕ) (rest : List ℕ) → with_byte base value b ≡ None → value_from base value (b ∷ rest) ≡ None
  unfolding value_from
  step_none value b rest e = rw e refl

  ended : (value : ℕ) → value_from base value [] ≡ Some value
  unfolding value_from
  ended value = refl

  -- the steps of a loop over the digits
  pub value_more : (value next i : ℕ) (digits : List ℕ) → i < length digits → with_byte base value (get_or digits i 0) ≡ Some next → value_from base value (drop i digits) ≡ value_from base next (drop (i + 1) digits)
  value_more value next i digits h e = at_drop_more (value_from base value) digits i 0 h ∙ step_some value (get_or digits i 0) next (drop (i + 1) digits) e

  pub value_fails : (value i : ℕ) (digits : List ℕ) → i < length digits → with_byte base value (get_or digits i 0) ≡ None → value_from base value (drop i digits) ≡ None
  value_fails value i digits h e = at_drop_more (value_from base value) digits i 0 h ∙ step_none value (get_or digits i 0) (drop (i + 1) digits) e

  pub value_all : (value i : ℕ) (digits : List ℕ) → length digits ≤ i → value_from base value (drop i digits) ≡ Some value
  value_all value i digits h = at_drop_all (value_from base value) digits i h ∙ ended value

  -- what one digit tells
  record Step (value b next : ℕ) : Type 0 where
    of_base : digit_value b < base
    next_is : next ≡ value * base + digit_value b
    small : next < 2 ^ 127

  digit_some : (value b next : ℕ) → with_digit base value b ≡ Some next → Step value b next
  unfolding with_digit
  digit_some value b next e =
      elim (nat_lt (digit_value b) base) as (λ t. nat_lt (digit_value b) base ≡ t → cond (t && nat_lt (value * base + digit_value b) (2 ^ 127)) (Some (value * base + digit_value b)) None ≡ Some next → Step value b next) [
        | true ↦ λ h. elim (nat_lt (value * base + digit_value b) (2 ^ 127)) as (λ t. nat_lt (value * base + digit_value b) (2 ^ 127) ≡ t → cond t (Some (value * base + digit_value b)) None ≡ Some next → Step value b next) [
          | true ↦ λ k f.
              let same : next ≡ value * base + digit_value b = cc in
              let below = ltb-true (value * base + digit_value b) (2 ^ 127) k in
              record { of_base = ltb-true (digit_value b) base h; next_is = same; small = omega arith }
          | false ↦ λ k f. absurd (cc)
        ] refl
        | false ↦ λ h f. absurd (cc)
      ] refl e

  digit_none : (value b : ℕ) → with_digit base value b ≡ None → digit_value b < base → value * base + digit_value b < 2 ^ 127 → ⊥
  unfolding with_digit
  digit_none value b e h k =
      let f : cond (true && true) (Some (value * base + digit_value b)) None ≡ None = rw (lt-ltb (digit_value b) base h, lt-ltb (value * base + digit_value b) (2 ^ 127) k) at e in
      let g : Some (value * base + digit_value b) ≡ None = f in
      cc

  byte_digit : (value b : ℕ) → is_no_bar b ≡ true → with_byte base value b ≡ with_digit base value b
  unfolding with_byte
  byte_digit value b h = rw h refl

  byte_bar : (value b : ℕ) → is_no_bar b ≡ false → with_byte base value b ≡ Some value
  unfolding with_byte
  byte_bar value b h = rw h refl

  kept : (b : ℕ) (rest : List ℕ) → is_no_bar b ≡ true → without_bars (b ∷ rest) ≡ b ∷ without_bars rest
  kept b rest h = rw h refl

  left_out : (b : ℕ) (rest : List ℕ) → is_no_bar b ≡ false → without_bars (b ∷ rest) ≡ without_bars rest
  left_out b rest h = rw h refl

  -- what the digits behind a number stand for
  pub record IsRead (value : ℕ) (digits : List ℕ) (result : ℕ) : Type 0 where
    pub all : AllDigits base (without_bars digits)
    pub result_is : result ≡ digits_value_after base value (without_bars digits)
    pub small : result < 2 ^ 127

  read_digit : (value b next : ℕ) (rest : List ℕ) (result : ℕ) → is_no_bar b ≡ true → Step value b next → IsRead next rest result → IsRead value (b ∷ rest) result
  read_digit value b next rest result h s r = record {
    all = subst (AllDigits base) (sym (kept b rest h)) (s.of_base, r.all);
    result_is = r.result_is ∙ ap (λ (n : ℕ). digits_value_after base n (without_bars rest)) s.next_is ∙ ap (digits_value_after base value) (sym (kept b rest h));
    small = r.small;
  }

  read_bar : (value b : ℕ) (rest : List ℕ) (result : ℕ) → is_no_bar b ≡ false → IsRead value rest result → IsRead value (b ∷ rest) result
  read_bar value b rest result h r = record {
    all = subst (AllDigits base) (sym (left_out b rest h)) r.all;
    result_is = r.result_is ∙ ap (digits_value_after base value) (sym (left_out b rest h));
    small = r.small;
  }

  pub value_some : (digits : List ℕ) (value result : ℕ) → value < 2 ^ 127 → value_from base value digits ≡ Some result → IsRead value digits result
  value_some [] value result small e =
      let f : Some value ≡ Some result = sym (ended value) ∙ e in
      let same : value ≡ result = cc in
      record { all = tt; result_is = sym same; small = omega arith }
  value_some (b ∷ rest) value result small e = on_test (is_no_bar b) (with_digit base value b) refl refl (value_some rest)
    where
      on_test : (t : Bool) (o : Option ℕ) → is_no_bar b ≡ t → with_digit base value b ≡ o → ((next r : ℕ) → next < 2 ^ 127 → value_from base next rest ≡ Some r → IsRead next rest r) → IsRead value (b ∷ rest) result
      on_test true (Some next) h k more =
          let s = digit_some value b next k in
          let there = sym (step_some value b next rest (byte_digit value b h ∙ k)) ∙ e in
          read_digit value b next rest result h s (more next result s.small there)
      on_test true None h k more =
          let none = sym (step_none value b rest (byte_digit value b h ∙ k)) ∙ e in
          absurd (cc)
      on_test false o h k more =
          let there = sym (step_some value b value rest (byte_bar value b h)) ∙ e in
          read_bar value b rest result h (more value result small there)

  value_ge : 0 < base → (digits : List ℕ) (value : ℕ) → value ≤ digits_value_after base value digits
  value_ge some [] value = omega arith
  value_ge some (b ∷ rest) value =
      let more = value_ge some rest (value * base + digit_value b) in
      let scaled = le-mul_of_pos_right {m = base} value some in
      omega arith

  pub value_none : 0 < base → (digits : List ℕ) (value : ℕ) → value_from base value digits ≡ None → AllDigits base (without_bars digits) → digits_value_after base value (without_bars digits) < 2 ^ 127 → ⊥
  value_none some [] value e all small = let f : Some value ≡ None = sym (ended value) ∙ e in cc
  value_none some (b ∷ rest) value e all small = on_test (is_no_bar b) (with_digit base value b) refl refl (value_none some rest)
    where
      on_test : (t : Bool) (o : Option ℕ) → is_no_bar b ≡ t → with_digit base value b ≡ o
          → ((next : ℕ) → value_from base next rest ≡ None → AllDigits base (without_bars rest) → digits_value_after base next (without_bars rest) < 2 ^ 127 → ⊥) → ⊥
      on_test true (Some next) h k more =
          let s = digit_some value b next k in
          let there = sym (step_some value b next rest (byte_digit value b h ∙ k)) ∙ e in
          let digits : AllDigits base (b ∷ without_bars rest) = subst (AllDigits base) (kept b rest h) all in
          let whole : digits_value_after base value (b ∷ without_bars rest) < 2 ^ 127 = subst (λ (ds : List ℕ). digits_value_after base value ds < 2 ^ 127) (kept b rest h) small in
          more next there digits.1 (subst (λ (n : ℕ). digits_value_after base n (without_bars rest) < 2 ^ 127) (sym s.next_is) whole)
      on_test true None h k more =
          let digits : AllDigits base (b ∷ without_bars rest) = subst (AllDigits base) (kept b rest h) all in
          let whole : digits_value_after base (value * base + digit_value b) (without_bars rest) < 2 ^ 127 = subst (λ (ds : List ℕ). digits_value_after base value ds < 2 ^ 127) (kept b rest h) small in
          let least = value_ge some (without_bars rest) (value * base + digit_value b) in
          digit_none value b k digits.0 (omega arith)
      on_test false o h k more =
          let there = sym (step_some value b value rest (byte_bar value b h)) ∙ e in
          more value there (subst (AllDigits base) (left_out b rest h) all) (subst (λ (ds : List ℕ). digits_value_after base value ds < 2 ^ 127) (left_out b rest h) small)

some_kept : (digits : List ℕ) → list_any is_no_bar digits ≡ true → 0 < length (without_bars digits)
some_kept [] h = cc
some_kept (b ∷ rest) h = elim (is_no_bar b) as (λ t. (t || list_any is_no_bar rest) ≡ true → 0 < length (cond t (b ∷ without_bars rest) (without_bars rest))) [
  | true ↦ λ e. omega arith
  | false ↦ λ e. some_kept rest e
] h

none_kept : (digits : List ℕ) → list_any is_no_bar digits ≡ false → length (without_bars digits) ≡ 0
none_kept [] h = refl
none_kept (b ∷ rest) h = elim (is_no_bar b) as (λ t. (t || list_any is_no_bar rest) ≡ false → length (cond t (b ∷ without_bars rest) (without_bars rest)) ≡ 0) [
  | true ↦ λ e. absurd (let f : true ≡ false = e in cc)
  | false ↦ λ e. none_kept rest e
] h

-- the digits of a word
abbrev pub digits_in : List ℕ → List ℕ
digits_in word = drop (prefix_length word) word

parts : (word : List ℕ) → base_and_digits word ≡ (base_of word, without_bars (digits_in word))
parts [] = refl
parts (b ∷ []) = refl
parts (b ∷ letter ∷ rest) = elim (b == 48) as (λ (t : Bool). ◌≡◌ {A = ℕ × List ℕ}
    (cond t (base_behind_zero letter, cond (is_hex_letter letter || is_other_base_letter letter) (without_bars rest) (without_bars (letter ∷ rest))) (10, without_bars (b ∷ letter ∷ rest)))
    (cond t (base_behind_zero letter) 10, without_bars (drop (cond t (cond (is_hex_letter letter || is_other_base_letter letter) 2 1) 0) (b ∷ letter ∷ rest)))) [
      | true ↦ elim (is_hex_letter letter || is_other_base_letter letter) as (λ (t : Bool). ◌≡◌ {A = ℕ × List ℕ}
          (base_behind_zero letter, cond t (without_bars rest) (without_bars (letter ∷ rest)))
          (base_behind_zero letter, without_bars (drop (cond t 2 1) (b ∷ letter ∷ rest)))) [ true ↦ refl | false ↦ refl ]
      | false ↦ refl
    ]

pub is_value : (word : List ℕ) (value : ℕ) → list_any is_no_bar (digits_in word) ≡ true → value_from (base_of word) 0 (digits_in word) ≡ Some value → IsValue word value
is_value word value h e =
    let r = value_some (base_of word) (digits_in word) 0 value (omega arith) e in
    record {
      numeral = subst (λ (p : ℕ × List ℕ). IsNumeral p.0 p.1) (sym (parts word)) (some_kept (digits_in word) h, r.all);
      value_is = subst (λ (p : ℕ × List ℕ). value ≡ digits_value p.0 p.1) (sym (parts word)) r.result_is;
      not_too_wide = r.small;
    }

pub no_value : (word : List ℕ) → 2 ≤ base_of word → value_from (base_of word) 0 (digits_in word) ≡ None → (value : ℕ) → IsValue word value → ⊥
no_value word some e value v =
    let numeral : IsNumeral (base_of word) (without_bars (digits_in word)) = subst (λ (p : ℕ × List ℕ). IsNumeral p.0 p.1) (parts word) v.numeral in
    let same : value ≡ digits_value (base_of word) (without_bars (digits_in word)) = subst (λ (p : ℕ × List ℕ). value ≡ digits_value p.0 p.1) (parts word) v.value_is in
    let small = v.not_too_wide in
    value_none (base_of word) (omega arith) (digits_in word) 0 e numeral.1 (subst (λ (n : ℕ). n < 2 ^ 127) same small)

pub no_digits : (word : List ℕ) → list_any is_no_bar (digits_in word) ≡ false → (value : ℕ) → IsValue word value → ⊥
no_digits word e value v =
    let numeral : IsNumeral (base_of word) (without_bars (digits_in word)) = subst (λ (p : ℕ × List ℕ). IsNumeral p.0 p.1) (parts word) v.numeral in
    let some : 0 < length (without_bars (digits_in word)) = numeral.0 in
    let none = none_kept (digits_in word) e in
    absurd (omega arith)

pub value_if : (word : List ℕ) (found : Option ℕ) → list_any is_no_bar (digits_in word) ≡ true → found ≡ value_from (base_of word) 0 (digits_in word) → IfSome found (λ value. IsValue word value)
value_if word None h e = tt
value_if word (Some value) h e = is_value word value h (sym e)
