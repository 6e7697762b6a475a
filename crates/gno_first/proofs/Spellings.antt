-- The spelling of a number.
use Rattle.std.proofs.Common.{◌≡◌, ℕ, ◌<◌, ◌≤◌, ◌^◌, List, refl, arith, ap, ◌∙◌, sym, true, false, subst}
use Rattle.std.specs.Prelude.{Option, Some, None, nat_lt, ◌&&◌}
use Rattle.std.specs.Str.{bytes_eq}
use Rattle.std.specs.Str.Parse.{digits_value}
use Rattle.std.specs.Fmt.{decimal}
use Rattle.std.proofs.lemmas.Fmt.{decimal_is_IsNumeral}
use Rattle.std.proofs.lemmas.Option.{cond_some, none-some, same_Some}
use Rattle.std.proofs.lemmas.Slice.Eq.{bytes_eq-Decides}
use Rattle.std.proofs.lemmas.Bool.{and_parts, lt-ltb, ltb-true}
use Rattle.gno_first.specs.Literals.{IsLiteral, literal_of}

value_is : (word : List ℕ) (n : ℕ) → word ≡ decimal n → n < 10 ^ 18 → digits_value 10 word ≡ n
value_is word n e h = ap (λ (w : List ℕ). digits_value 10 w) e ∙ (decimal_is_IsNumeral n (omega arith)).1

same : (a b : List ℕ) → a ≡ b → bytes_eq a b ≡ true
same a b e = (bytes_eq-Decides a b).1 e

literal_is : (word : List ℕ) (n : ℕ) → IsLiteral word n → literal_of word ≡ Some n
unfolding literal_of
literal_is word n b =
    let v = value_is word n b.spelled b.small in
    let s : bytes_eq word (decimal (digits_value 10 word)) ≡ true = same word (decimal (digits_value 10 word)) (b.spelled ∙ ap decimal (sym v)) in
    let t : nat_lt (digits_value 10 word) (10 ^ 18) ≡ true = lt-ltb (digits_value 10 word) (10 ^ 18) (omega (arith, b.small)) in
    rw (s, t) (ap Some v)

-- what is read is spelled
pub literal_spells : (word : List ℕ) (n : ℕ) → literal_of word ≡ Some n → IsLiteral word n
unfolding literal_of
literal_spells word n e =
    let c = cond_some (bytes_eq word (decimal (digits_value 10 word)) && nat_lt (digits_value 10 word) (10 ^ 18)) (digits_value 10 word) n e in
    let h = and_parts (bytes_eq word (decimal (digits_value 10 word))) (nat_lt (digits_value 10 word) (10 ^ 18)) c.0 in
    record {
      spelled = (bytes_eq-Decides word (decimal (digits_value 10 word))).0 h.0 ∙ ap decimal c.1;
      small = subst (λ k. k < 10 ^ 18) c.1 (ltb-true _ _ h.1);
    }

no_literal : (word : List ℕ) → ((n : ℕ) → IsLiteral word n → ⊥) → None ≡ literal_of word
no_literal word none = elim (literal_of word) as (λ o. literal_of word ≡ o → None ≡ o) [ None ↦ (λ e. refl) | Some n ↦ (λ e. absurd (none n (literal_spells word n e))) ] refl

-- a number that is the right one where the word spells any
abbrev pub Parsed : List ℕ → Option ℕ → Type 0
Parsed word found = (n : ℕ) → n < 10 ^ 18 → word ≡ decimal n → found ≡ Some n

pub parsed-none : (word : List ℕ) (found : Option ℕ) → Parsed word found → found ≡ None → None ≡ literal_of word
parsed-none word found p e = no_literal word (λ n b. none-some n (sym e ∙ p n b.small b.spelled))

pub parsed-large : (word : List ℕ) (found : Option ℕ) (m : ℕ) → Parsed word found → found ≡ Some m → 10 ^ 18 ≤ m → None ≡ literal_of word
parsed-large word found m p e h = no_literal word (λ n b. let s : m ≡ n = same_Some m n (sym e ∙ p n b.small b.spelled) in omega (arith, b.small))

pub parsed-other : (word : List ℕ) (found : Option ℕ) (m : ℕ) → Parsed word found → found ≡ Some m → bytes_eq (decimal m) word ≡ false → None ≡ literal_of word
parsed-other word found m p e h = no_literal word (λ n b.
    let s : m ≡ n = same_Some m n (sym e ∙ p n b.small b.spelled) in
    let t : bytes_eq (decimal m) word ≡ true = same (decimal m) word (ap decimal s ∙ sym b.spelled) in
    cc)

pub parsed-is : (word : List ℕ) (m : ℕ) → bytes_eq (decimal m) word ≡ true → m < 10 ^ 18 → Some m ≡ literal_of word
parsed-is word m e h = sym (literal_is word m (record { spelled = sym ((bytes_eq-Decides (decimal m) word).0 e); small = h }))
