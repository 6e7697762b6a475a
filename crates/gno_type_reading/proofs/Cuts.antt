-- What stands on both sides of the last such byte, and what digits spell.
use Rattle.std.proofs.Common.{◌≡◌, refl, ap, ap₂, sym, ◌∙◌, true≢false, ℕ, suc, length, get_or, take, drop, ◌+◌, ◌-◌, ◌*◌, ◌<◌, ◌≤◌, ◌^◌, Bool, true, false, not, ◌==◌, cond, arith, List, [], ◌∷◌, ◌++◌, Some, None}
use Rattle.std.specs.Fmt.{decimal}
use Rattle.std.specs.List.{list_all}
use Rattle.std.specs.Char.{digit_value}
use Rattle.std.specs.Str.Parse.{AllDigits, digits_value_after}
use Rattle.std.proofs.lemmas.Bool.{and_parts, and_from}
use Rattle.std.proofs.lemmas.Bool.Decides.{nat_tests}
use Rattle.std.proofs.lemmas.Fmt.{decimal_is_IsNumeral}
use Rattle.std.proofs.lemmas.List.{take-append-drop}
use Rattle.std.proofs.Math.Seq.{drop-cons}
use Rattle.gno_base.specs.Callers.{is_digit}
use Rattle.gno_scan.specs.Names.{IsName}
use Rattle.gno_terms.specs.Texts.{member_text}
use Rattle.gno_terms.proofs.Words.{weaken}
use Rattle.gno_terms.proofs.Bytes.{in_name, in_member}
use Rattle.gno_terms.proofs.NameBytes.{name_bytes}
use Rattle.gno_terms.proofs.Members.{IsPackage, all_member, decimal_digits}
use Rattle.gno_type_reading.specs.declared.frame.Member.{Member}
use Rattle.gno_type_reading.specs.Turns.{Halves, further, cut_here, halves_at, cut, member, member_by, digit_fits, number_after}

abbrev halves : List ℕ → List ℕ → Halves
halves front back = record { front = front; back = back }

module _ (c : ℕ) where
  abbrev pub other : ℕ → Bool
  other b = not (b == c)

  no_cut : (b : Bool) (bs : List ℕ) → not b ≡ true → cond b (Some (halves [] bs)) None ≡ None
  no_cut true bs e = absurd (true≢false (sym e))
  no_cut false bs e = refl

  pub uncut : (bs : List ℕ) → list_all other bs ≡ true → cut c bs ≡ None
  uncut [] e = refl
  uncut (b ∷ bs) e =
      let t = and_parts (other b) (list_all other bs) e in
      ap (λ o. cut_here c b bs (further b o)) (uncut bs t.1) ∙ no_cut (b == c) bs t.0

  here : (bs : List ℕ) → cond (c == c) (Some (halves [] bs)) None ≡ Some (halves [] bs)
  here bs = grind (arith, nat_tests)

  pub cut_at : (front back : List ℕ) → list_all other back ≡ true → cut c (front ++ (c ∷ back)) ≡ Some (halves front back)
  cut_at [] back e = ap (λ o. cut_here c c back (further c o)) (uncut back e) ∙ here back
  cut_at (b ∷ front) back e = ap (λ o. cut_here c b (front ++ (c ∷ back)) (further b o)) (cut_at front back e)

  -- the byte stands here, and not behind
  pub cut_found : (text : List ℕ) (at b : ℕ) → at < length text → get_or text at b ≡ c → list_all other (drop (at + 1) text) ≡ true → cut c text ≡ Some (halves_at text at)
  cut_found text at b h e all =
      let next : suc at ≡ at + 1 = omega arith in
      ap (cut c) (sym (take-append-drop at text) ∙ ap (λ l. take at text ++ l) (drop-cons text at b h ∙ ap₂ (λ x n. x ∷ drop n text) e next)) ∙ cut_at (take at text) (drop (at + 1) text) all

  -- nor does it stand here
  pub none_here : (text : List ℕ) (at b : ℕ) → at < length text → (get_or text at b == c) ≡ false → list_all other (drop (at + 1) text) ≡ true → list_all other (drop at text) ≡ true
  none_here text at b h e all =
      let next : suc at ≡ at + 1 = omega arith in
      ap (list_all other) (drop-cons text at b h ∙ ap (λ n. get_or text at b ∷ drop n text) next) ∙ and_from (other (get_or text at b)) (list_all other (drop (at + 1) text)) (ap not e) all

abbrev pub member_of : List ℕ → List ℕ → Member
member_of name path = record { name = name; «package» = path }

no_point : (b : ℕ) → in_name b ≡ true → not (b == 46) ≡ true
no_point b e = grind (arith, nat_tests)

no_mark : (b : ℕ) → in_member b ≡ true → not (b == 35) ≡ true
no_mark b e = grind (arith, nat_tests)

digit_no_mark : (b : ℕ) → is_digit b ≡ true → not (b == 35) ≡ true
digit_no_mark b e = grind (arith, nat_tests)

pub member_is : (name path : List ℕ) → IsName name → member (member_text name path) ≡ member_of name path
member_is name [] n = ap (member_by name) (uncut 46 name (weaken in_name (other 46) no_point name (name_bytes name n)))
member_is name (b ∷ path) n = ap (member_by ((b ∷ path) ++ (46 ∷ name))) (cut_at 46 (b ∷ path) name (weaken in_name (other 46) no_point name (name_bytes name n)))

-- a value never falls while digits are read
grows : (ds : List ℕ) (n : ℕ) → n ≤ digits_value_after 10 n ds
grows [] n = omega arith
grows (d ∷ ds) n = let k = grows ds (n * 10 + digit_value d) in omega (arith, k)

digit_is : (n d : ℕ) → digit_value d < 10 → 10 * n + (d - 48) ≡ n * 10 + digit_value d
digit_is n d h = grind (arith, nat_tests)

fits : (n d : ℕ) → digit_value d < 10 → n * 10 + digit_value d < 2 ^ 64 → digit_fits n d ≡ true
fits n d h k = grind (arith, nat_tests)

chosen : (b : Bool) (m n : ℕ) (ds : List ℕ) → b ≡ true → m ≡ n → cond b (number_after m ds) None ≡ number_after n ds
chosen true m n ds e f = ap (λ k. number_after k ds) f
chosen false m n ds e f = absurd (true≢false (sym e))

numbered : (ds : List ℕ) (n : ℕ) → AllDigits 10 ds → digits_value_after 10 n ds < 2 ^ 64 → number_after n ds ≡ Some (digits_value_after 10 n ds)
numbered [] n a h = refl
numbered (d ∷ ds) n a h =
    let next = n * 10 + digit_value d in
    let k = grows ds next in
    chosen (digit_fits n d) (10 * n + (d - 48)) next ds (fits n d a.0 (omega (arith, k, h))) (digit_is n d a.0) ∙ numbered ds next a.1 h

pub number_is : (n : ℕ) → n < 2 ^ 64 → number_after 0 (decimal n) ≡ Some n
number_is n h =
    let is = decimal_is_IsNumeral n h in
    numbered (decimal n) 0 is.0.1 (ap_lt is.1 h) ∙ ap Some is.1
  where
    ap_lt : {m : ℕ} → m ≡ n → n < 2 ^ 64 → m < 2 ^ 64
    ap_lt e h = omega (arith, e, h)

-- the mark of a type that a function declares
pub cut_local : (name path : List ℕ) (n : ℕ) → IsName name → IsPackage path → n < 2 ^ 64 → cut 35 (member_text name path ++ (35 ∷ decimal n)) ≡ Some (halves (member_text name path) (decimal n))
cut_local name path n i p h = cut_at 35 (member_text name path) (decimal n) (weaken is_digit (other 35) digit_no_mark (decimal n) (decimal_digits n h))

pub uncut_member : (name path : List ℕ) → IsName name → IsPackage path → cut 35 (member_text name path) ≡ None
uncut_member name path i p = uncut 35 (member_text name path) (weaken in_member (other 35) no_mark (member_text name path) (all_member name path i p))
