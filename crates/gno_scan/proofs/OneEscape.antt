-- Between quotes 34 or 39 no escape begins another one, so a text is read in one way.
use Rattle.std.proofs.Common.{◌≡◌, ◌∙◌, ◌≤◌, ◌<◌, ℕ, List, [], ◌∷◌, ◌++◌, append_assoc, ap, refl, sym, arith, length, take, length-append}
use Rattle.std.specs.Prelude.{true, false, ◌==◌, ◌||◌, if◌then◌else◌, codes, nat_lt}
use Rattle.std.specs.List.{list_all, list_any}
use Rattle.std.specs.Char.{digit_value}
use Rattle.std.proofs.lemmas.Bool.{and_parts, eqb-true, lt-ltb}
use Rattle.std.proofs.lemmas.List.{append-nil, append_cancel_left}
use Rattle.gno_scan.specs.Escapes.{AreDigitsIn, AreParts, IsBadEscape, IsEscape, is_escape_letter, nothing, plain, escape, letter, quote_itself, octal, hex, little, big}
use Rattle.gno_scan.proofs.Fronts.{not_true, same_head, same_tail, take_front}

-- how many bytes the escape has that has such a byte behind its backslash
abbrev pub size_of : ℕ → ℕ
size_of second = if nat_lt (digit_value second) 8 then 4 else if second == 120 then 4 else if second == 117 then 6 else if second == 85 then 10 else 2

-- an escape, its second byte and its length
pub record IsSized (word : List ℕ) : Type 0 where
  pub second : ℕ
  pub rest : List ℕ
  pub parts : word ≡ 92 ∷ second ∷ rest
  pub size : length word ≡ size_of second

size_of_one : (b : ℕ) (letters : List ℕ) → list_any (λ x. b == x) letters ≡ true → list_all (λ x. size_of x == 2) letters ≡ true → size_of b ≡ 2
size_of_one b [] is all = absurd (not_true is)
size_of_one b (x ∷ xs) is all =
    let both : (size_of x == 2 ≡ true) × (list_all (λ y. size_of y == 2) xs ≡ true) = and_parts (size_of x == 2) (list_all (λ y. size_of y == 2) xs) all in
    elim (b == x) as (λ t. (b == x) ≡ t → (t || list_any (λ y. b == y) xs) ≡ true → size_of b ≡ 2) [
      | true ↦ λ same _. ap size_of (eqb-true b x same) ∙ eqb-true (size_of x) 2 both.0
      | false ↦ λ _ more. size_of_one b xs more both.1
    ] refl is

size_of_letter : (b : ℕ) → is_escape_letter b ≡ true → size_of b ≡ 2
size_of_letter b is = size_of_one b (codes "abfnrtv\\") is refl

octal_size : (d : ℕ) → digit_value d < 8 → size_of d ≡ 4
octal_size d small = ap (λ t. if t then 4 else if d == 120 then 4 else if d == 117 then 6 else if d == 85 then 10 else 2) (lt-ltb (digit_value d) 8 small)

octal_sized : (digits : List ℕ) → AreDigitsIn 8 3 digits → IsSized (92 ∷ digits)
octal_sized [] are = absurd (omega (arith, are.size))
octal_sized (d ∷ ds) are = record {
  second = d;
  rest = ds;
  parts = refl;
  size = omega (arith, are.size, octal_size d are.each.0);
}

pub sized : (quote : ℕ) (word : List ℕ) → size_of quote ≡ 2 → IsEscape quote word → IsSized word
sized quote _ two (letter b is) = record { second = b; rest = []; parts = refl; size = sym (size_of_letter b is) }
sized quote _ two quote_itself = record { second = quote; rest = []; parts = refl; size = sym two }
sized quote _ two (octal digits are small) = octal_sized digits are
sized quote _ two (hex digits are) = record { second = 120; rest = digits; parts = refl; size = omega (arith, are.size) }
sized quote _ two (little digits are scalar) = record { second = 117; rest = digits; parts = refl; size = omega (arith, are.size) }
sized quote _ two (big digits are scalar) = record { second = 85; rest = digits; parts = refl; size = omega (arith, are.size) }

same_front : (front front' rest rest' : List ℕ) → length front ≡ length front' → front ++ rest ≡ front' ++ rest' → front ≡ front'
same_front front front' rest rest' size e = sym (take_front front rest) ∙ (λ i. take (size i) (e i)) ∙ take_front front' rest'

-- of two texts that are one, each begun by an escape, the escapes are one, and what is left
pub one_escape : (quote : ℕ) (word word' rest rest' : List ℕ) → size_of quote ≡ 2 → IsEscape quote word → IsEscape quote word' → word ++ rest ≡ word' ++ rest' → (word ≡ word') × (rest ≡ rest')
one_escape quote word word' rest rest' two is is' e =
    let s = sized quote word two is in
    let s' = sized quote word' two is' in
    let whole : 92 ∷ s.second ∷ (s.rest ++ rest) ≡ 92 ∷ s'.second ∷ (s'.rest ++ rest') = ap (λ w. w ++ rest) (sym s.parts) ∙ e ∙ ap (λ w. w ++ rest') s'.parts in
    let second : s.second ≡ s'.second = cc whole in
    let same : word ≡ word' = same_front word word' rest rest' (s.size ∙ ap size_of second ∙ sym s'.size) e in
    (same, append_cancel_left word rest rest' (e ∙ ap (λ w. w ++ rest') (sym same)))

-- no escape begins with another byte than a backslash
pub first_is_backslash : (quote b : ℕ) (word rest more : List ℕ) → size_of quote ≡ 2 → IsEscape quote word → b ∷ rest ≡ word ++ more → b ≡ 92
first_is_backslash quote b word rest more two is e =
    let s = sized quote word two is in
    let whole : b ∷ rest ≡ 92 ∷ s.second ∷ (s.rest ++ more) = e ∙ ap (λ w. w ++ more) s.parts in
    cc whole

abbrev pub HasNoEscape : ℕ → List ℕ → Type 0
HasNoEscape quote text = (word more : List ℕ) → IsEscape quote word → text ≡ word ++ more → ⊥

-- parts go no further than the parts before a backslash with which no escape begins
pub no_further : (quote : ℕ) (front front' rest rest' : List ℕ) → size_of quote ≡ 2 → AreParts quote front → AreParts quote front' → HasNoEscape quote (92 ∷ rest') → front ++ rest ≡ front' ++ 92 ∷ rest' →
    length front ≤ length front'
no_further quote _ front' rest rest' two nothing parts' none e = omega arith
no_further quote _ _ rest rest' two (plain b front other parts) nothing none e = absurd (other (same_head b 92 (front ++ rest) rest' e))
no_further quote _ _ rest rest' two (plain b front other parts) (plain b' front' other' parts') none e =
    omega (arith, no_further quote front front' rest rest' two parts parts' none (same_tail b b' (front ++ rest) (front' ++ 92 ∷ rest') e))
no_further quote _ _ rest rest' two (plain b front other parts) (escape word' front' is' parts') none e =
    absurd (other (first_is_backslash quote b word' (front ++ rest) (front' ++ 92 ∷ rest') two is' (e ∙ append_assoc word' front' (92 ∷ rest'))))
no_further quote _ _ rest rest' two (escape word front is parts) nothing none e = absurd (none word (front ++ rest) is (sym e ∙ append_assoc word front rest))
no_further quote _ _ rest rest' two (escape word front is parts) (plain b' front' other' parts') none e =
    absurd (other' (first_is_backslash quote b' word (front' ++ 92 ∷ rest') (front ++ rest) two is (sym e ∙ append_assoc word front rest)))
no_further quote _ _ rest rest' two (escape word front is parts) (escape word' front' is' parts') none e =
    let same = one_escape quote word word' (front ++ rest) (front' ++ 92 ∷ rest') two is is' (sym (append_assoc word front rest) ∙ e ∙ append_assoc word' front' (92 ∷ rest')) in
    omega (arith, no_further quote front front' rest rest' two parts parts' none same.1, ap length same.0, length-append word front, length-append word' front')

-- a text of parts has no bad escape
pub no_bad_escape : (quote : ℕ) (inside : List ℕ) (at : ℕ) → size_of quote ≡ 2 → AreParts quote inside → IsBadEscape quote inside at → ⊥
no_bad_escape quote inside at two parts bad =
    let further : length inside ≤ length bad.front = no_further quote inside bad.front [] bad.rest two parts bad.parts bad.no_escape (append-nil inside ∙ bad.split) in
    omega (arith, further, ap length bad.split, length-append bad.front (92 ∷ bad.rest))

-- a text has one first bad escape
pub one_bad_escape : (quote : ℕ) (inside : List ℕ) (at at' : ℕ) → size_of quote ≡ 2 → IsBadEscape quote inside at → IsBadEscape quote inside at' → at ≡ at'
one_bad_escape quote inside at at' two bad bad' =
    let up : length bad.front ≤ length bad'.front = no_further quote bad.front bad'.front (92 ∷ bad.rest) bad'.rest two bad.parts bad'.parts bad'.no_escape (sym bad.split ∙ bad'.split) in
    let down : length bad'.front ≤ length bad.front = no_further quote bad'.front bad.front (92 ∷ bad'.rest) bad.rest two bad'.parts bad.parts bad.no_escape (sym bad'.split ∙ bad.split) in
    omega (arith, up, down, bad.place, bad'.place)
