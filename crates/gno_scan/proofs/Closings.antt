-- The quote that closes a literal is the one that the definition says.
use Rattle.std.proofs.Common.{◌≡◌, ◌≢◌, ◌∙◌, ◌+◌, ◌⊎◌, inl, inr, ℕ, List, [], ◌∷◌, ◌++◌, append_assoc, ap, refl, sym, subst, arith, length, take, drop, length-append}
use Rattle.std.specs.Prelude.{Option, Some, None, Bool, true, false, ◌==◌, if◌then◌else◌, nat_eq}
use Rattle.std.proofs.lemmas.Bool.Decides.{nat_tests}
use Rattle.gno_scan.specs.Closing.{closing}
use Rattle.gno_scan.specs.Longest.{Begins, BeginsWithNone, IsLongest}
use Rattle.gno_scan.proofs.Fronts.{take_front}
use Rattle.gno_scan.specs.Quoted.{IsInside, IsQuoted, nothing, plain, escaped}

differ : (a b : ℕ) → a ≢ b → nat_eq a b ≡ false
differ a b ne = grind (arith, nat_tests, ne)

same : (a : ℕ) → nat_eq a a ≡ true
same a = grind (arith, nat_tests)

is_same : (a b : ℕ) → nat_eq a b ≡ true → a ≡ b
is_same a b e = grind (arith, nat_tests, e)

is_other : (a b : ℕ) → nat_eq a b ≡ false → a ≢ b
is_other a b e same_one = grind (arith, nat_tests, e, same_one)

-- what stands inside is read to the quote behind it
pub found : (quote at : ℕ) (inside rest : List ℕ) → quote ≢ 92 → quote ≢ 10 → IsInside quote inside → closing quote at false (inside ++ quote ∷ rest) ≡ Some (at + length inside)
found quote at _ rest nb nl nothing = rw (differ quote 10 nl, same quote) (ap Some (omega arith))
found quote at _ rest nb nl (plain b more nq nb' nl' inside) =
    rw (differ b 10 nl', differ b quote nq, differ b 92 nb') (found quote (at + 1) more rest nb nl inside ∙ ap Some (omega arith))
found quote at _ rest nb nl (escaped b more nl' inside) =
    rw (differ 92 quote (λ e. nb (sym e)), differ b 10 nl') (found quote (at + 1 + 1) more rest nb nl inside ∙ ap Some (omega arith))

-- what may stand inside a literal, behind a backslash or not
abbrev pub Behind : ℕ → Bool → List ℕ → Type 0
Behind quote false inside = IsInside quote inside
Behind quote true [] = ⊥
Behind quote true (b ∷ inside) = (b ≢ 10) × IsInside quote inside

pub record Closes (quote at : ℕ) (escaped : Bool) (text : List ℕ) (place : ℕ) : Type 0 where
  pub inside : List ℕ
  pub rest : List ℕ
  pub parts : text ≡ inside ++ quote ∷ rest
  pub place_is : place ≡ at + length inside
  pub behind : Behind quote escaped inside

either : (test : Bool) (x y : Option ℕ) (n : ℕ) → if test then x else y ≡ Some n → ((test ≡ true) × (x ≡ Some n)) ⊎ ((test ≡ false) × (y ≡ Some n))
either true x y n e = inl (refl, e)
either false x y n e = inr (refl, e)

not_none : (found : Option ℕ) (n : ℕ) → found ≡ None → found ≡ Some n → ⊥
not_none None n none some = cc
not_none (Some m) n none some = cc

same_some : (m n : ℕ) → Some m ≡ Some n → m ≡ n
same_some m n e = cc

goes_on : (quote b : ℕ) (test : Bool) (inside : List ℕ) → nat_eq b 92 ≡ test → b ≢ 10 → b ≢ quote → Behind quote test inside → IsInside quote (b ∷ inside)
goes_on quote b true [] e nl nq behind = absurd behind
goes_on quote b true (c ∷ more) e nl nq behind = subst (λ (x : ℕ). IsInside quote (x ∷ c ∷ more)) (sym (is_same b 92 e)) (escaped c more behind.0 behind.1)
goes_on quote b false inside e nl nq behind = plain b inside nq (is_other b 92 e) nl behind

-- what is read is what stands inside
pub read : (quote at : ℕ) (test : Bool) (text : List ℕ) (n : ℕ) → closing quote at test text ≡ Some n → Closes quote at test text n
read quote at test [] n e = absurd (not_none None n refl e)
read quote at true (b ∷ bs) n e = elim (either (b == 10) None (closing quote (at + 1) false bs) n e) [
  | inl p ↦ absurd (not_none None n refl p.1)
  | inr p ↦
      let more = read quote (at + 1) false bs n p.1 in
      record {
        inside = b ∷ more.inside;
        rest = more.rest;
        parts = ap (λ l. b ∷ l) more.parts;
        place_is = omega (arith, more.place_is);
        behind = (is_other b 10 p.0, more.behind);
      }
]
read quote at false (b ∷ bs) n e = elim (either (b == 10) None (if b == quote then Some at else closing quote (at + 1) (b == 92) bs) n e) [
  | inl p ↦ absurd (not_none None n refl p.1)
  | inr p ↦ elim (either (b == quote) (Some at) (closing quote (at + 1) (b == 92) bs) n p.1) [
    | inl q ↦ record {
      inside = [];
      rest = bs;
      parts = ap (λ c. c ∷ bs) (is_same b quote q.0);
      place_is = omega (arith, same_some at n q.1);
      behind = nothing;
    }
    | inr q ↦
        let more = read quote (at + 1) (b == 92) bs n q.1 in
        record {
          inside = b ∷ more.inside;
          rest = more.rest;
          parts = ap (λ l. b ∷ l) more.parts;
          place_is = omega (arith, more.place_is);
          behind = goes_on quote b (b == 92) more.inside refl (is_other b 10 p.0) (is_other b quote q.0) more.behind;
        }
  ]
]

-- a literal that a text begins with, as it is read
pub quoted_closes : (quote : ℕ) (text word : List ℕ) → quote ≢ 92 → quote ≢ 10 → IsQuoted quote word → Begins word text →
    (inside rest : List ℕ) × (text ≡ quote ∷ (inside ++ quote ∷ rest)) × (closing quote 0 false (drop 1 text) ≡ Some (length inside)) × (length word ≡ length inside + 2)
quoted_closes quote text word nb nl quoted begins =
    let inside = quoted.inside in
    let rest = begins.0 in
    let all : text ≡ quote ∷ (inside ++ quote ∷ rest) = begins.1 ∙ ap (λ w. w ++ rest) quoted.spelled ∙ ap (λ l. quote ∷ l) (append_assoc inside (quote ∷ []) rest) in
    let size : length word ≡ length inside + 2 = ap length quoted.spelled ∙ omega (arith, length-append inside (quote ∷ [])) in
    (inside, rest, all, ap (λ t. closing quote 0 false (drop 1 t)) all ∙ found quote 0 inside rest nb nl quoted.one_line ∙ ap Some (omega arith), size)

pub longest_quoted : (quote n : ℕ) (text : List ℕ) → quote ≢ 92 → quote ≢ 10 → text ≡ quote ∷ drop 1 text → closing quote 0 false (drop 1 text) ≡ Some n →
    IsLongest (IsQuoted quote) text (take (n + 2) text)
longest_quoted quote n text nb nl starts closes =
    let it = read quote 0 false (drop 1 text) n closes in
    let word = quote ∷ (it.inside ++ quote ∷ []) in
    let all : text ≡ word ++ it.rest = starts ∙ ap (λ l. quote ∷ l) (it.parts ∙ sym (append_assoc it.inside (quote ∷ []) it.rest)) in
    let size : length word ≡ n + 2 = omega (arith, length-append it.inside (quote ∷ []), it.place_is) in
    let front : take (n + 2) text ≡ word = rw (sym size) (ap (take (length word)) all ∙ take_front word it.rest) in
    record {
      spelled = record { inside = it.inside; spelled = front; one_line = it.behind };
      begins = (it.rest, all ∙ ap (λ w. w ++ it.rest) (sym front));
      longest = λ other quoted begins.
          let q = quoted_closes quote text other nb nl quoted begins in
          let same_size : n ≡ length q.0 = same_some n (length q.0) (sym closes ∙ q.3) in
          rw front (omega (arith, q.4, same_size, size));
    }

pub no_quoted : (quote : ℕ) (text : List ℕ) → quote ≢ 92 → quote ≢ 10 → closing quote 0 false (drop 1 text) ≡ None → BeginsWithNone (IsQuoted quote) text
no_quoted quote text nb nl open_end word quoted begins = let q = quoted_closes quote text word nb nl quoted begins in not_none _ _ open_end q.3
