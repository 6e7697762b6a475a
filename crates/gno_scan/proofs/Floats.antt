-- The floats that a text begins with.
use Rattle.std.proofs.Common.{◌≡◌, ◌≤◌, ℕ, ◌+◌, suc, List, [], ◌∷◌, ◌++◌, Bool, true, false, ◌||◌, ◌&&◌, refl, arith, ap, ◌∙◌, sym, length, inl, inr, subst, eqb-true, take, length-append}
use Rattle.std.specs.Prelude.{◌⊎◌}
use Rattle.std.specs.List.{list_all}
use Rattle.std.proofs.lemmas.List.Folds.{list_all-append}
use Rattle.gno_scan.specs.Longest.{Measures, Begins}
use Rattle.gno_scan.specs.Numbers.{IsExponent, AreDigits}
use Rattle.gno_scan.specs.NumberLengths.{led_length, joined_length, is_point, digits_length, exponent_length, part_length, pointed_length, mantissa_length, scaled_length}
use Rattle.gno_scan.proofs.Digits.{digits_measure, digit_bytes, is_digit_or_bar}
use Rattle.gno_scan.proofs.Measuring.{Counts, AreNotEmpty, AreOf, BeginsSo, IsLed, IsJoined, either, led, joins}
use Rattle.gno_scan.proofs.Integers.{digits_some, led_some}
use Rattle.gno_scan.proofs.Exponents.{exponent_measure, exponent_begins}

-- a mantissa's parts: digits or nothing, behind a point
abbrev pub AreMaybe : (ℕ → Bool) → List ℕ → Type 0
AreMaybe is_one word = (word ≡ []) ⊎ AreDigits is_one word

abbrev pub IsPart : (ℕ → Bool) → List ℕ → Type 0
IsPart is_one word = IsLed is_point (AreMaybe is_one) word

module _ (is_one : ℕ → Bool) where
  part_length_more : (rest : List ℕ) → part_length is_one (46 ∷ rest) ≡ suc (digits_length is_one rest)
  unfolding part_length
  part_length_more rest = omega arith

  part_none : (b : ℕ) (rest : List ℕ) → is_point b ≡ false → part_length is_one (b ∷ rest) ≡ 0
  unfolding part_length
  part_none b rest h = rw h refl

  part_empty : part_length is_one [] ≡ 0
  unfolding part_length
  part_empty = refl

  part_read : (rest : List ℕ) → IsPart is_one (46 ∷ take (digits_length is_one rest) rest)
  part_read rest = record {
    first = 46;
    rest = take (digits_length is_one rest) rest;
    parts = refl;
    leads = refl;
    behind_it =
        elim (digits_measure is_one rest).read [ inl none ↦ inl (ap (λ (n : ℕ). take n rest) none) | inr digits ↦ inr digits ];
  }

  part_longest : (text word : List ℕ) → IsPart is_one word → Begins word text → length word ≤ part_length is_one text
  part_longest text word l begins =
      let point : l.first ≡ 46 = eqb-true l.first 46 l.leads in
      let whole : text ≡ 46 ∷ (l.rest ++ begins.0) = begins.1 ∙ ap (λ (w : List ℕ). w ++ begins.0) l.parts ∙ ap (λ (b : ℕ). b ∷ (l.rest ++ begins.0)) point in
      let count : part_length is_one text ≡ suc (digits_length is_one (l.rest ++ begins.0)) = ap (part_length is_one) whole ∙ part_length_more (l.rest ++ begins.0) in
      let size : length word ≡ suc (length l.rest) = ap length l.parts in
      elim l.behind_it [
        | inl none ↦ let e : length l.rest ≡ 0 = ap length none in omega arith
        | inr digits ↦ let short = (digits_measure is_one (l.rest ++ begins.0)).longest l.rest digits (begins.0, refl) in omega arith
      ]

  pub part_measure : Counts (IsPart is_one) (part_length is_one)
  part_measure [] = record { within = (let e = part_empty in omega arith); read = inl part_empty; longest = part_longest [] }
  part_measure (b ∷ rest) = elim (is_point b) as (λ t. is_point b ≡ t → Measures (IsPart is_one) (b ∷ rest) (part_length is_one (b ∷ rest))) [
    | true ↦ λ e.
        let point : b ≡ 46 = eqb-true b 46 e in
        let count = part_length_more rest in
        let short = (digits_measure is_one rest).within in
        let here : Measures (IsPart is_one) (46 ∷ rest) (part_length is_one (46 ∷ rest)) = record {
          within = omega arith;
          read = inr (subst (λ (n : ℕ). IsPart is_one (take n (46 ∷ rest))) (sym count) (part_read rest));
          longest = part_longest (46 ∷ rest);
        } in
        subst (λ (x : ℕ). Measures (IsPart is_one) (x ∷ rest) (part_length is_one (x ∷ rest))) (sym point) here
    | false ↦ λ e.
        let none = part_none b rest e in
        record { within = omega arith; read = inl none; longest = part_longest (b ∷ rest) }
  ] refl

  part_begins : is_digit_or_bar is_one 46 ≡ false → (word : List ℕ) → IsPart is_one word → BeginsSo (is_digit_or_bar is_one) false word
  part_begins off word l =
      let point : l.first ≡ 46 = eqb-true l.first 46 l.leads in
      record { first = l.first; rest = l.rest; parts = l.parts; is_so = ap (is_digit_or_bar is_one) point ∙ off }

  -- what stands before a point: digits, maybe with a `_` before them
  pub record IsWhole (P : List ℕ → Type 0) (count : List ℕ → ℕ) : Type 0 where
    pub some : AreNotEmpty P
    pub bytes : AreOf (is_digit_or_bar is_one) P
    pub counts : Counts P count

  abbrev pub IsPointed : (List ℕ → Type 0) → List ℕ → Type 0
  IsPointed P word = IsJoined P (IsPart is_one) word ⊎ IsLed is_point (AreDigits is_one) word

  abbrev pub IsMantissa : (List ℕ → Type 0) → List ℕ → Type 0
  IsMantissa P word = P word ⊎ IsPointed P word

  pub pointed_measure : (P : List ℕ → Type 0) (count : List ℕ → ℕ) → is_digit_or_bar is_one 46 ≡ false → IsWhole P count → Counts (IsPointed P) (pointed_length is_one count)
  unfolding pointed_length
  pointed_measure P count off h =
      either (IsJoined P (IsPart is_one)) (IsLed is_point (AreDigits is_one)) (joined_length count (part_length is_one)) (led_length is_point (digits_length is_one))
      (joins P (IsPart is_one) count (part_length is_one) (is_digit_or_bar is_one) h.some h.bytes (part_begins off) h.counts part_measure)
      (led is_point (AreDigits is_one) (digits_length is_one) (digits_some is_one) (digits_measure is_one))

  pub mantissa_measure : (P : List ℕ → Type 0) (count : List ℕ → ℕ) → is_digit_or_bar is_one 46 ≡ false → IsWhole P count → Counts (IsMantissa P) (mantissa_length is_one count)
  unfolding mantissa_length
  mantissa_measure P count off h = either P (IsPointed P) count (pointed_length is_one count) h.counts (pointed_measure P count off h)

  -- the bytes of a mantissa
  abbrev pub is_mantissa_byte : ℕ → Bool
  is_mantissa_byte b = is_digit_or_bar is_one b || is_point b

  weaker : (word : List ℕ) → list_all (is_digit_or_bar is_one) word ≡ true → list_all is_mantissa_byte word ≡ true
  weaker [] h = refl
  weaker (b ∷ rest) h = elim (is_digit_or_bar is_one b) as (λ t. (t && list_all (is_digit_or_bar is_one) rest) ≡ true → ((t || is_point b) && list_all is_mantissa_byte rest) ≡ true) [
    | true ↦ λ e. weaker rest e
    | false ↦ λ e. absurd (let f : false ≡ true = e in cc)
  ] h

  point_byte : is_mantissa_byte 46 ≡ true
  point_byte = elim (is_digit_or_bar is_one 46) as (λ t. (t || true) ≡ true) [ true ↦ refl | false ↦ refl ]

  pointed_rest : (rest : List ℕ) → list_all is_mantissa_byte rest ≡ true → list_all is_mantissa_byte (46 ∷ rest) ≡ true
  pointed_rest rest h = rw (point_byte, h) refl

  maybe_bytes : (word : List ℕ) → AreMaybe is_one word → list_all is_mantissa_byte word ≡ true
  maybe_bytes word (inl none) = ap (list_all is_mantissa_byte) none
  maybe_bytes word (inr digits) = weaker word (digit_bytes is_one word digits)

  led_bytes : (P : List ℕ → Type 0) → ((word : List ℕ) → P word → list_all is_mantissa_byte word ≡ true) → (word : List ℕ) → IsLed is_point P word → list_all is_mantissa_byte word ≡ true
  led_bytes P h word l =
      let point : l.first ≡ 46 = eqb-true l.first 46 l.leads in
      ap (list_all is_mantissa_byte) (l.parts ∙ ap (λ (b : ℕ). b ∷ l.rest) point) ∙ pointed_rest l.rest (h l.rest l.behind_it)

  pub pointed_bytes : (P : List ℕ → Type 0) → AreOf (is_digit_or_bar is_one) P → AreOf is_mantissa_byte (IsPointed P)
  pointed_bytes P h word (inl j) =
      let left = weaker j.left (h j.left j.on_left) in
      let right = led_bytes (AreMaybe is_one) maybe_bytes j.right j.on_right in
      ap (list_all is_mantissa_byte) j.parts ∙ list_all-append is_mantissa_byte j.left j.right ∙ rw (left, right) refl
  pointed_bytes P h word (inr l) = led_bytes (AreDigits is_one) (λ w d. weaker w (digit_bytes is_one w d)) word l

  pub mantissa_bytes : (P : List ℕ → Type 0) → AreOf (is_digit_or_bar is_one) P → AreOf is_mantissa_byte (IsMantissa P)
  mantissa_bytes P h word (inl whole) = weaker word (h word whole)
  mantissa_bytes P h word (inr p) = pointed_bytes P h word p

  pub pointed_some : (P : List ℕ → Type 0) → AreNotEmpty P → AreNotEmpty (IsPointed P)
  pointed_some P h word (inl j) =
      let full = h j.left j.on_left in
      let size : length word ≡ length j.left + length j.right = ap length j.parts ∙ length-append j.left j.right in
      omega arith
  pointed_some P h word (inr l) = led_some is_point (AreDigits is_one) word l

  pub mantissa_some : (P : List ℕ → Type 0) → AreNotEmpty P → AreNotEmpty (IsMantissa P)
  mantissa_some P h word (inl whole) = h word whole
  mantissa_some P h word (inr p) = pointed_some P h word p

  -- a mantissa and an exponent
  abbrev pub IsScaled : (ℕ → Bool) → (List ℕ → Type 0) → List ℕ → Type 0
  IsScaled is_mark P word = IsJoined (IsMantissa P) (IsExponent is_mark) word

  pub scaled_measure : (is_mark : ℕ → Bool) (P : List ℕ → Type 0) (count : List ℕ → ℕ) → is_digit_or_bar is_one 46 ≡ false → ((mark : ℕ) → is_mark mark ≡ true → is_mantissa_byte mark ≡ false) → IsWhole P count
      → Counts (IsScaled is_mark P) (scaled_length is_one is_mark count)
  unfolding scaled_length
  scaled_measure is_mark P count off apart h =
      joins (IsMantissa P) (IsExponent is_mark) (mantissa_length is_one count) (exponent_length is_mark) is_mantissa_byte (mantissa_some P h.some) (mantissa_bytes P h.bytes)
      (exponent_begins is_mark is_mantissa_byte apart) (mantissa_measure P count off h) (exponent_measure is_mark)
