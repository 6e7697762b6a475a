-- The longest number that a text begins with.
use Rattle.std.proofs.Common.{◌≡◌, ◌≤◌, ◌<◌, ℕ, ◌+◌, List, [], ◌∷◌, ◌++◌, true, false, refl, arith, ap, ◌∙◌, sym, take, drop, length, length-append, length-take-le, take-append-drop, inl, inr, subst, eqb-true, ◌↔◌}
use Rattle.std.specs.Prelude.{◌==◌, ◌⊎◌}
use Rattle.gno_scan.specs.Longest.{Measures, Begins, IsLongest, BeginsWithNone}
use Rattle.gno_scan.specs.Numbers.{IsInteger, IsFloat, IsImaginary, IsNumber}
use Rattle.gno_scan.specs.Numbers.IsImaginary.{integer, float}
use Rattle.gno_scan.specs.NumberLengths.{integer_length, decimal_float_length, hex_float_length, float_length, real_length, last_letter_length, joined_length, number_length}
use Rattle.gno_scan.proofs.Measuring.{Counts, AreNotEmpty, BeginsSo, IsJoined, either, joins, mapped}
use Rattle.gno_scan.proofs.Integers.{integer_measure}
use Rattle.gno_scan.proofs.FloatForms.{IsDecimalFloat, IsHexFloat, FloatForms, float_to, float_from, decimal_float_measure, hex_float_measure}
use Rattle.gno_scan.proofs.RealBytes.{is_no_i, HaveNoI, integer_no_i, float_no_i}
use Rattle.gno_scan.proofs.NotEmpty.{integer_some, float_some}

abbrev pub IsReal : List ℕ → Type 0
IsReal word = IsInteger word ⊎ IsFloat word

pub float_measure : Counts IsFloat float_length
unfolding float_length
float_measure =
    mapped FloatForms IsFloat float_length float_to float_from
    (either IsDecimalFloat IsHexFloat decimal_float_length hex_float_length decimal_float_measure hex_float_measure)

real_measure : Counts IsReal real_length
unfolding real_length
real_measure = either IsInteger IsFloat integer_length float_length integer_measure float_measure

real_no_i : HaveNoI IsReal
real_no_i word (inl h) = integer_no_i word h
real_no_i word (inr h) = float_no_i word h

real_some : AreNotEmpty IsReal
real_some word (inl h) = integer_some word h
real_some word (inr h) = float_some word h

-- the letter `i` alone
abbrev IsLetter : List ℕ → Type 0
IsLetter word = word ≡ 105 ∷ []

letter_begins : (word : List ℕ) → IsLetter word → BeginsSo is_no_i false word
letter_begins word h = record { first = 105; rest = []; parts = h; is_so = refl }

letter_none : (b : ℕ) (rest : List ℕ) → (b == 105) ≡ false → last_letter_length (b ∷ rest) ≡ 0
unfolding last_letter_length
letter_none b rest h = rw h refl

letter_longest : (text word : List ℕ) → IsLetter word → Begins word text → length word ≤ last_letter_length text
unfolding last_letter_length
letter_longest text word h begins =
    let whole : text ≡ 105 ∷ begins.0 = begins.1 ∙ ap (λ (w : List ℕ). w ++ begins.0) h in
    let size : length word ≡ 1 = ap length h in
    let count : last_letter_length text ≡ 1 = ap last_letter_length whole in
    omega arith

letter_measure : Counts IsLetter last_letter_length
unfolding last_letter_length
letter_measure [] = record { within = omega arith; read = inl refl; longest = letter_longest [] }
letter_measure (b ∷ rest) = elim (b == 105) as (λ t. (b == 105) ≡ t → Measures IsLetter (b ∷ rest) (last_letter_length (b ∷ rest))) [
  | true ↦ λ e.
      let here : Measures IsLetter (105 ∷ rest) (last_letter_length (105 ∷ rest)) = record { within = omega arith; read = inr refl; longest = letter_longest (105 ∷ rest) } in
      subst (λ (x : ℕ). Measures IsLetter (x ∷ rest) (last_letter_length (x ∷ rest))) (sym (eqb-true b 105 e)) here
  | false ↦ λ e. let none = letter_none b rest e in record { within = omega arith; read = inl none; longest = letter_longest (b ∷ rest) }
] refl

imaginary_to : (word : List ℕ) → IsJoined IsReal IsLetter word → IsImaginary word
imaginary_to word j =
    let whole : word ≡ j.left ++ 105 ∷ [] = j.parts ∙ ap (λ (w : List ℕ). j.left ++ w) j.on_right in
    subst IsImaginary (sym whole) (elim j.on_left [ inl h ↦ integer j.left h | inr h ↦ float j.left h ])

imaginary_from : (word : List ℕ) → IsImaginary word → IsJoined IsReal IsLetter word
imaginary_from word (integer number h) = record { left = number; right = 105 ∷ []; parts = refl; on_left = inl h; on_right = refl }
imaginary_from word (float number h) = record { left = number; right = 105 ∷ []; parts = refl; on_left = inr h; on_right = refl }

abbrev NumberForms : List ℕ → Type 0
NumberForms word = IsReal word ⊎ IsJoined IsReal IsLetter word

number_to : (word : List ℕ) → NumberForms word → IsNumber word
number_to word (inl (inl h)) = inl h
number_to word (inl (inr h)) = inr (inl h)
number_to word (inr j) = inr (inr (imaginary_to word j))

number_from : (word : List ℕ) → IsNumber word → NumberForms word
number_from word (inl h) = inl (inl h)
number_from word (inr (inl h)) = inl (inr h)
number_from word (inr (inr h)) = inr (imaginary_from word h)

pub number_measure : Counts IsNumber number_length
unfolding number_length
number_measure =
    mapped NumberForms IsNumber number_length number_to number_from
    (either IsReal (IsJoined IsReal IsLetter) real_length (joined_length real_length last_letter_length) real_measure
    (joins IsReal IsLetter real_length last_letter_length is_no_i real_some real_no_i letter_begins real_measure letter_measure))

number_some : AreNotEmpty IsNumber
number_some word (inl h) = integer_some word h
number_some word (inr (inl h)) = float_some word h
number_some word (inr (inr h)) =
    let j = imaginary_from word h in
    let full = real_some j.left j.on_left in
    let size : length word ≡ length j.left + length j.right = ap length j.parts ∙ length-append j.left j.right in
    omega arith

-- what is told of a text by the length of the longest number that it begins with
pub no_number : (text : List ℕ) (n : ℕ) → Measures IsNumber text n → n ≡ 0 → BeginsWithNone IsNumber text
no_number text n m e word h begins =
    let full = number_some word h in
    let short = m.longest word h begins in
    omega arith

front_length : (P : List ℕ → Type 0) (text : List ℕ) (n : ℕ) → Measures P text n → length (take n text) ≡ n
front_length P text n m = length-take-le n text m.within

front_begins : (n : ℕ) (text : List ℕ) → Begins (take n text) text
front_begins n text = (drop n text, sym (take-append-drop n text))

pub longest_number : (text : List ℕ) (n : ℕ) → Measures IsNumber text n → 0 < n → IsLongest IsNumber text (take n text)
longest_number text n m some =
    let size = front_length IsNumber text n m in
    record {
      spelled = elim m.read [ inl none ↦ absurd (omega arith) | inr h ↦ h ];
      begins = front_begins n text;
      longest = λ other h begins. let short = m.longest other h begins in omega arith;
    }

integer_within : (text : List ℕ) (i n : ℕ) → Measures IsInteger text i → Measures IsNumber text n → i ≤ n
integer_within text i n p m = elim p.read [
  | inl none ↦ omega arith
  | inr h ↦
      let size = front_length IsInteger text i p in
      let short = m.longest (take i text) (inl h) (front_begins i text) in
      omega arith
]

-- a number is an integer where it is as long as the longest integer
pub integer_where : (text : List ℕ) (i n : ℕ) → Measures IsInteger text i → Measures IsNumber text n → 0 < n → (n ≡ i) ↔ IsInteger (take n text)
integer_where text i n p m some = (
  λ (e : n ≡ i). elim p.read [ inl none ↦ absurd (omega arith) | inr h ↦ subst (λ (k : ℕ). IsInteger (take k text)) (sym e) h ],
  λ (h : IsInteger (take n text)).
      let size = front_length IsNumber text n m in
      let short = p.longest (take n text) h (front_begins n text) in
      let long = integer_within text i n p m in
      omega arith,
)
