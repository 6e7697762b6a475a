-- What is read from the digits of an integer.
use Rattle.std.proofs.Common.{◌≡◌, ◌≤◌, ◌<◌, ℕ, ◌+◌, ◌*◌, ◌^◌, List, [], ◌∷◌, Bool, true, false, cond, ◌&&◌, refl, ap, ◌∙◌, sym, length, drop, get_or, subst, Option, Some, None, inl, inr, eqb-true}
use Rattle.std.specs.Prelude.{◌==◌, ◌⊎◌, nat_lt, not, option_and_then, if◌then◌else◌}
use Rattle.std.specs.Char.{digit_value}
use Rattle.std.proofs.lemmas.List.{at_drop_more, at_drop_all}
use Rattle.gno_scan.specs.Numbers.{AreBehindPrefix, AreDigits}
use Rattle.gno_scan.specs.Numbers.AreDigits.{last, digit, digit_and_bar}
use Rattle.gno_scan.specs.Numbers.AreBehindPrefix.{plain, barred}
use Rattle.gno_scan.specs.NumberValues.{is_no_bar, value_from, with_byte, with_digit}
use Rattle.gno_literals.specs.declared.integer.Reading.{Reading}
use Rattle.gno_literals.specs.Digits.{read_all, read_byte, whole_reading}

abbrev pub reading : ℕ → Bool → Reading
reading value may_bar = record { value = value; may_bar = may_bar }

-- the digits of a base
abbrev pub is_digit_of : ℕ → ℕ → Bool
is_digit_of base b = nat_lt (digit_value b) base

-- what may stand behind a digit or a prefix, and else
abbrev pub Follows : (ℕ → Bool) → Bool → List ℕ → Type 0
Follows is_one true digits = (digits ≡ []) ⊎ AreBehindPrefix is_one digits
Follows is_one false digits = AreDigits is_one digits

no_digits : (is_one : ℕ → Bool) (digits : List ℕ) → digits ≡ [] → AreDigits is_one digits → ⊥
no_digits is_one _ e (last b h) = cc
no_digits is_one _ e (digit b more h k) = cc
no_digits is_one _ e (digit_and_bar b more h k) = cc

-- what follows the first digit
behind_first : (is_one : ℕ → Bool) (b : ℕ) (digits rest : List ℕ) → digits ≡ b ∷ rest → AreDigits is_one digits → (is_one b ≡ true) × Follows is_one true rest
behind_first is_one b _ rest e (last d h) =
    let same : d ≡ b = cc in
    let end : rest ≡ [] = cc in
    (ap is_one (sym same) ∙ h, inl end)
behind_first is_one b _ rest e (digit d more h k) =
    let same : d ≡ b = cc in
    let end : rest ≡ more = cc in
    (ap is_one (sym same) ∙ h, inr (subst (λ (t : List ℕ). AreBehindPrefix is_one t) (sym end) (plain more k)))
behind_first is_one b _ rest e (digit_and_bar d more h k) =
    let same : d ≡ b = cc in
    let end : rest ≡ 95 ∷ more = cc in
    (ap is_one (sym same) ∙ h, inr (subst (λ (t : List ℕ). AreBehindPrefix is_one t) (sym end) (barred more k)))

with_first : (is_one : ℕ → Bool) (b : ℕ) (rest : List ℕ) → is_one b ≡ true → Follows is_one true rest → AreDigits is_one (b ∷ rest)
with_first is_one b rest h (inl end) = subst (λ (t : List ℕ). AreDigits is_one (b ∷ t)) (sym end) (last b h)
with_first is_one b _ h (inr (plain digits k)) = digit b digits h k
with_first is_one b _ h (inr (barred digits k)) = digit_and_bar b digits h k

-- the same, whether a `_` might stand in its place or not
follows_first : (is_one : ℕ → Bool) (may_bar : Bool) (b : ℕ) (rest : List ℕ) → is_one b ≡ true → Follows is_one true rest → Follows is_one may_bar (b ∷ rest)
follows_first is_one true b rest h more = inr (plain (b ∷ rest) (with_first is_one b rest h more))
follows_first is_one false b rest h more = with_first is_one b rest h more

first_of : (is_one : ℕ → Bool) (b : ℕ) (whole rest : List ℕ) → whole ≡ b ∷ rest → (b == 95) ≡ false → AreBehindPrefix is_one whole → Follows is_one true rest
first_of is_one b _ rest e other (plain digits k) = (behind_first is_one b digits rest e k).1
first_of is_one b _ rest e other (barred digits k) =
    let same : b ≡ 95 = cc in
    let off : true ≡ false = ap (λ x. x == 95) (sym same) ∙ other in
    absurd (cc)

behind_digit_is : (is_one : ℕ → Bool) (may_bar : Bool) (b : ℕ) (rest : List ℕ) → (b == 95) ≡ false → Follows is_one may_bar (b ∷ rest) → Follows is_one true rest
behind_digit_is is_one true b rest other (inl e) = absurd (cc)
behind_digit_is is_one true b rest other (inr h) = first_of is_one b (b ∷ rest) rest refl other h
behind_digit_is is_one false b rest other h = (behind_first is_one b (b ∷ rest) rest refl h).1

bar_only : (is_one : ℕ → Bool) (whole rest : List ℕ) → is_one 95 ≡ false → whole ≡ 95 ∷ rest → AreBehindPrefix is_one whole → AreDigits is_one rest
bar_only is_one _ rest off e (plain digits k) =
    let yes : is_one 95 ≡ true = (behind_first is_one 95 digits rest e k).0 in
    let f : true ≡ false = sym yes ∙ off in
    absurd (cc)
bar_only is_one _ rest off e (barred digits k) = let same : digits ≡ rest = cc in subst (λ (t : List ℕ). AreDigits is_one t) same k

-- a `_` stands only where it may, and digits behind it
behind_bar_is : (is_one : ℕ → Bool) (may_bar : Bool) (rest : List ℕ) → is_one 95 ≡ false → Follows is_one may_bar (95 ∷ rest) → (may_bar ≡ true) × AreDigits is_one rest
behind_bar_is is_one true rest off (inl e) = absurd (cc)
behind_bar_is is_one true rest off (inr h) = (refl, bar_only is_one (95 ∷ rest) rest off refl h)
behind_bar_is is_one false rest off h =
    let yes : is_one 95 ≡ true = (behind_first is_one 95 (95 ∷ rest) rest refl h).0 in
    let f : true ≡ false = sym yes ∙ off in
    absurd (cc)

pub number_of : (r : Reading) (may_bar : Bool) → r.may_bar ≡ may_bar → option_and_then whole_reading (Some r) ≡ (if may_bar then Some r.value else None)
number_of r may_bar e = ap (λ t. if t then Some r.value else None) e

module _ (base : ℕ) where
  -- one step of the reading
  all_some : (r next : Reading) (b : ℕ) (rest : List ℕ) → read_byte base r b ≡ Some next → read_all base r (b ∷ rest) ≡ read_all base next rest
  unfolding read_all
  all_some r next b rest e = rw e refl

  all_none : (r : Reading) (b : ℕ) (rest : List ℕ) → read_byte base r b ≡ None → read_all base r (b ∷ rest) ≡ None
  unfolding read_all
  all_none r b rest e = rw e refl

  all_read : (r : Reading) → read_all base r [] ≡ Some r
  unfolding read_all
  all_read r = refl

  -- the steps of a loop over the digits
  pub read_more : (r next : Reading) (i : ℕ) (digits : List ℕ) → i < length digits → read_byte base r (get_or digits i 0) ≡ Some next → read_all base r (drop i digits) ≡ read_all base next (drop (i + 1) digits)
  read_more r next i digits h e = at_drop_more (read_all base r) digits i 0 h ∙ all_some r next (get_or digits i 0) (drop (i + 1) digits) e

  pub read_fails : (r : Reading) (i : ℕ) (digits : List ℕ) → i < length digits → read_byte base r (get_or digits i 0) ≡ None → read_all base r (drop i digits) ≡ None
  read_fails r i digits h e = at_drop_more (read_all base r) digits i 0 h ∙ all_none r (get_or digits i 0) (drop (i + 1) digits) e

  pub read_end : (r : Reading) (i : ℕ) (digits : List ℕ) → length digits ≤ i → read_all base r (drop i digits) ≡ Some r
  read_end r i digits h = at_drop_all (read_all base r) digits i h ∙ all_read r

  -- the number that is read
  abbrev pub number_read : ℕ → Bool → List ℕ → Option ℕ
  number_read value may_bar digits = option_and_then whole_reading (read_all base (reading value may_bar) digits)

  -- a byte is a digit or a bar
  digit_read : (value : ℕ) (may_bar : Bool) (b next : ℕ) → is_no_bar b ≡ true → with_digit base value b ≡ Some next → read_byte base (reading value may_bar) b ≡ Some (reading next true)
  unfolding read_byte
  digit_read value may_bar b next h e = rw (h, e) refl

  digit_refused : (value : ℕ) (may_bar : Bool) (b : ℕ) → is_no_bar b ≡ true → with_digit base value b ≡ None → read_byte base (reading value may_bar) b ≡ None
  unfolding read_byte
  digit_refused value may_bar b h e = rw (h, e) refl

  bar_read : (value b : ℕ) → is_no_bar b ≡ false → read_byte base (reading value true) b ≡ Some (reading value false)
  unfolding read_byte
  bar_read value b h = rw h refl

  bar_refused : (value b : ℕ) → is_no_bar b ≡ false → read_byte base (reading value false) b ≡ None
  unfolding read_byte
  bar_refused value b h = rw h refl

  number_behind : (value : ℕ) (may_bar : Bool) (next : ℕ) (may_bar' : Bool) (b : ℕ) (rest : List ℕ) → read_byte base (reading value may_bar) b ≡ Some (reading next may_bar') → number_read value may_bar (b ∷ rest) ≡ number_read next may_bar' rest
  number_behind value may_bar next may_bar' b rest e = ap (option_and_then whole_reading) (all_some (reading value may_bar) (reading next may_bar') b rest e)

  number_fails : (value : ℕ) (may_bar : Bool) (b : ℕ) (rest : List ℕ) → read_byte base (reading value may_bar) b ≡ None → number_read value may_bar (b ∷ rest) ≡ None
  number_fails value may_bar b rest e = ap (option_and_then whole_reading) (all_none (reading value may_bar) b rest e)

  number_end : (value : ℕ) (may_bar : Bool) → number_read value may_bar [] ≡ whole_reading (reading value may_bar)
  number_end value may_bar = ap (option_and_then whole_reading) (all_read (reading value may_bar))

  -- the same steps where bars are left out wherever they stand
  from_some : (value next b : ℕ) (rest : List ℕ) → with_byte base value b ≡ Some next → value_from base value (b ∷ rest) ≡ value_from base next rest
  unfolding value_from
  from_some value next b rest e = rw e refl

  from_none : (value b : ℕ) (rest : List ℕ) → with_byte base value b ≡ None → value_from base value (b ∷ rest) ≡ None
  unfolding value_from
  from_none value b rest e = rw e refl

  from_end : (value : ℕ) → value_from base value [] ≡ Some value
  unfolding value_from
  from_end value = refl

  byte_digit : (value b : ℕ) → is_no_bar b ≡ true → with_byte base value b ≡ with_digit base value b
  unfolding with_byte
  byte_digit value b h = rw h refl

  byte_bar : (value b : ℕ) → is_no_bar b ≡ false → with_byte base value b ≡ Some value
  unfolding with_byte
  byte_bar value b h = rw h refl

  of_base : (value b next : ℕ) → with_digit base value b ≡ Some next → is_digit_of base b ≡ true
  unfolding with_digit
  of_base value b next e = elim (is_digit_of base b) as (λ t. cond (t && nat_lt (value * base + digit_value b) (2 ^ 127)) (Some (value * base + digit_value b)) None ≡ Some next → t ≡ true) [
    | true ↦ λ _. refl
    | false ↦ λ f. absurd (let g : None ≡ Some next = f in cc)
  ] e

  pub record IsReadAs (value : ℕ) (may_bar : Bool) (digits : List ℕ) (result : ℕ) : Type 0 where
    pub value_is : value_from base value digits ≡ Some result
    pub follows : Follows (is_digit_of base) may_bar digits

  none_is_some : (A : Type 0) (n : ℕ) → None ≡ Some n → A
  none_is_some A n e = absurd (cc)

  is_bar : (b : ℕ) → is_no_bar b ≡ false → b ≡ 95
  is_bar b h = eqb-true b 95 (elim (b == 95) as (λ t. not t ≡ false → t ≡ true) [ true ↦ λ _. refl | false ↦ λ f. absurd (let g : true ≡ false = f in cc) ] h)

  is_other : (b : ℕ) → is_no_bar b ≡ true → (b == 95) ≡ false
  is_other b h = elim (b == 95) as (λ t. not t ≡ true → t ≡ false) [ true ↦ λ f. absurd (let g : false ≡ true = f in cc) | false ↦ λ _. refl ] h

  pub read_as : (digits : List ℕ) (value : ℕ) (may_bar : Bool) (result : ℕ) → number_read value may_bar digits ≡ Some result → IsReadAs value may_bar digits result
  read_as [] value true result e = record { value_is = from_end value ∙ sym (number_end value true) ∙ e; follows = inl refl }
  read_as [] value false result e = none_is_some _ result (sym (number_end value false) ∙ e)
  read_as (b ∷ rest) value may_bar result e = on_test (is_no_bar b) (with_digit base value b) may_bar refl refl e (read_as rest)
    where
      on_test : (t : Bool) (o : Option ℕ) (may_bar : Bool) → is_no_bar b ≡ t → with_digit base value b ≡ o → number_read value may_bar (b ∷ rest) ≡ Some result
          → ((v : ℕ) (m : Bool) (r : ℕ) → number_read v m rest ≡ Some r → IsReadAs v m rest r) → IsReadAs value may_bar (b ∷ rest) result
      on_test true (Some next) may_bar h k e more =
          let m = more next true result (sym (number_behind value may_bar next true b rest (digit_read value may_bar b next h k)) ∙ e) in
          record {
            value_is = from_some value next b rest (byte_digit value b h ∙ k) ∙ m.value_is;
            follows = follows_first (is_digit_of base) may_bar b rest (of_base value b next k) m.follows;
          }
      on_test true None may_bar h k e more = none_is_some _ result (sym (number_fails value may_bar b rest (digit_refused value may_bar b h k)) ∙ e)
      on_test false o true h k e more =
          let m = more value false result (sym (number_behind value true value false b rest (bar_read value b h)) ∙ e) in
          record {
            value_is = from_some value value b rest (byte_bar value b h) ∙ m.value_is;
            follows = inr (subst (λ (x : ℕ). AreBehindPrefix (is_digit_of base) (x ∷ rest)) (sym (is_bar b h)) (barred rest m.follows));
          }
      on_test false o false h k e more = none_is_some _ result (sym (number_fails value false b rest (bar_refused value b h)) ∙ e)

  pub is_read : (is_one : ℕ → Bool) → is_one 95 ≡ false → (digits : List ℕ) (value : ℕ) (may_bar : Bool) (result : ℕ) → value_from base value digits ≡ Some result → Follows is_one may_bar digits →
      number_read value may_bar digits ≡ Some result
  is_read is_one off [] value true result e follows = number_end value true ∙ sym (from_end value) ∙ e
  is_read is_one off [] value false result e follows = absurd (no_digits is_one [] refl follows)
  is_read is_one off (b ∷ rest) value may_bar result e follows = on_test (is_no_bar b) (with_digit base value b) refl refl (is_read is_one off rest)
    where
      on_test : (t : Bool) (o : Option ℕ) → is_no_bar b ≡ t → with_digit base value b ≡ o
          → ((v : ℕ) (m : Bool) (r : ℕ) → value_from base v rest ≡ Some r → Follows is_one m rest → number_read v m rest ≡ Some r) → number_read value may_bar (b ∷ rest) ≡ Some result
      on_test true (Some next) h k more =
          number_behind value may_bar next true b rest (digit_read value may_bar b next h k)
          ∙ more next true result (sym (from_some value next b rest (byte_digit value b h ∙ k)) ∙ e) (behind_digit_is is_one may_bar b rest (is_other b h) follows)
      on_test true None h k more = none_is_some _ result (sym (from_none value b rest (byte_digit value b h ∙ k)) ∙ e)
      on_test false o h k more =
          let bar = behind_bar_is is_one may_bar rest off (subst (λ (x : ℕ). Follows is_one may_bar (x ∷ rest)) (is_bar b h) follows) in
          ap (λ m. number_read value m (b ∷ rest)) bar.0 ∙ number_behind value true value false b rest (bar_read value b h)
          ∙ more value false result (sym (from_some value value b rest (byte_bar value b h)) ∙ e) bar.1
