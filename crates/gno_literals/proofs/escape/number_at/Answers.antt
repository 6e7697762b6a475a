use Rattle.std.proofs.Common.{◌≡◌, ◌<◌, ◌+◌, ◌*◌, ◌^◌, ◌∙◌, ℕ, arith, ap, get_or, length, sym, subst, take}
use Rattle.std.specs.Char.{digit_value}
use Rattle.std.specs.Str.Parse.{digits_value}
use Rattle.std.proofs.lemmas.Int.Digits.{digits_more, digits_value_more}
use Rattle.gno_scan.proofs.EscapeDigits.{bounded, each_is_digit}
use Rattle.gno_literals.proofs.escape.number_at.Goals as goal

within : (c : goal.In_ok-digit) → c.loop-at.at < length c.args.text.now
within c = omega (arith, c.loop-at-test.true, c.if-text-count.false)

digit : (c : goal.In_ok-digit) → digit_value (get_or c.args.text.now c.loop-at.at 0) < c.args.base
digit c = subst (λ (b : ℕ). digit_value b < c.args.base) c.from.ensures c.in_ok-digit.ensures.value.0

next : (c : goal.In_ok-digit) → c.loop-at.number * c.args.base + c.in_ok-digit.digit ≡ digits_value c.args.base (take c.loop-at.at c.args.text.now) * c.args.base + digit_value (get_or c.args.text.now c.loop-at.at 0)
next c = λ i. (c.loop-at.invariant.value i) * c.args.base + (c.in_ok-digit.ensures.value.1 ∙ ap digit_value c.from.ensures) i

small : (c : goal.In_ok-digit) → c.loop-at.number * c.args.base + c.in_ok-digit.digit < 2 ^ 32
small c = subst (λ (n : ℕ). n < 2 ^ 32) (sym (next c)) (bounded c.args.base c.loop-at.at c.args.text.now c.requires.most (omega (arith, c.loop-at-test.true, c.requires.count)) (within c) c.loop-at.invariant.digits (digit c))

pub returns-in_err-digit-clause-none : goal.returns-in_err-digit-clause-none
returns-in_err-digit-clause-none c = λ none digits.
    c.in_err-digit.ensures.value (subst (λ (b : ℕ). digit_value b < c.args.base) (sym c.from.ensures) (each_is_digit c.args.base c.args.count c.loop-at.at c.args.text.now c.loop-at-test.true digits))

pub overflow_mul-number : goal.overflow_mul-number
overflow_mul-number c = omega (arith, small c)

pub overflow_add-number : goal.overflow_add-number
overflow_add-number c = omega (arith, small c)

pub loop-at-preserved : goal.loop-at-preserved
loop-at-preserved c = record {
  digits = digits_more c.args.base c.args.text.now c.loop-at.at (within c) c.loop-at.invariant.digits (digit c);
  value = next c ∙ sym (digits_value_more c.args.base c.args.text.now c.loop-at.at (within c));
}
