use Rattle.std.proofs.Common.{◌≡◌, ◌≤◌, ℕ, List, ◌∙◌, sym, ap, drop, true, false, take, length, ◌-◌, arith}
use Rattle.std.specs.List.{list_any}
use Rattle.std.proofs.lemmas.List.{take_rest}
use Rattle.gno_scan.specs.NumberValues.{base_of, prefix_length, is_no_bar, value_from}
use Rattle.gno_scan.proofs.Values.{digits_in, no_digits, no_value, value_if}
use Rattle.gno_scan.proofs.number.value.integer_value.Goals as goal

-- the slice behind the prefix
same_digits : (word : List ℕ) (n : ℕ) → n ≡ prefix_length word → take (length word - n) (drop n word) ≡ digits_in word
same_digits word n e = take_rest word n ∙ ap (λ (k : ℕ). drop k word) e

pub returns-then-not-has_digit-clause-none : goal.returns-then-not-has_digit-clause-none
returns-then-not-has_digit-clause-none c =
    let word = c.args.word.now in
    let none : list_any is_no_bar (digits_in word) ≡ false = sym (c.has_digit.ensures ∙ ap (list_any is_no_bar) (same_digits word c.prefix_length.result c.prefix_length.ensures.count)) ∙ c.if-not-has_digit.true in
    λ _. no_digits word none

pub returns-clause-value : goal.returns-clause-value
returns-clause-value c =
    let word = c.args.word.now in
    let same = same_digits word c.prefix_length.result c.prefix_length.ensures.count in
    let some : list_any is_no_bar (digits_in word) ≡ true = sym (c.has_digit.ensures ∙ ap (list_any is_no_bar) same) ∙ c.if-not-has_digit.false in
    value_if word c.digits_value.result some (c.digits_value.ensures ∙ ap (value_from c.base_of.result 0) same ∙ ap (λ (b : ℕ). value_from b 0 (digits_in word)) c.base_of.ensures.base)

pub returns-clause-none : goal.returns-clause-none
returns-clause-none c =
    let word = c.args.word.now in
    let same = same_digits word c.prefix_length.result c.prefix_length.ensures.count in
    let found : c.digits_value.result ≡ value_from (base_of word) 0 (digits_in word) = c.digits_value.ensures ∙ ap (value_from c.base_of.result 0) same ∙ ap (λ (b : ℕ). value_from b 0 (digits_in word)) c.base_of.ensures.base in
    let base = c.base_of.ensures.base in
    let some : 2 ≤ base_of word = omega arith in
    λ e. no_value word some (sym found ∙ e)
