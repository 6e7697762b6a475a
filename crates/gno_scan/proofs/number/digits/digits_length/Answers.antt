use Rattle.std.proofs.Common.{◌≡◌, true, false, sym, ◌∙◌}
use Rattle.gno_scan.specs.NumberLengths.{begins_with, is_digit_of}
use Rattle.gno_scan.proofs.Digits.{digits_counted, digits_run, digits_none}
use Rattle.gno_scan.proofs.number.digits.digits_length.Goals as goal

pub returns-then-begins_with_digit-clause-longest : goal.returns-then-begins_with_digit-clause-longest
returns-then-begins_with_digit-clause-longest c =
    let first : begins_with (is_digit_of c.args.radix) c.args.text.now ≡ true = sym c.begins_with_digit.ensures ∙ c.if-begins_with_digit.true in
    digits_counted (is_digit_of c.args.radix) c.args.text.now c.run_length.result (c.run_length.ensures ∙ sym (digits_run (is_digit_of c.args.radix) c.args.text.now first))

pub returns-else-begins_with_digit-clause-longest : goal.returns-else-begins_with_digit-clause-longest
returns-else-begins_with_digit-clause-longest c =
    let first : begins_with (is_digit_of c.args.radix) c.args.text.now ≡ false = sym c.begins_with_digit.ensures ∙ c.if-begins_with_digit.false in
    digits_counted (is_digit_of c.args.radix) c.args.text.now 0 (sym (digits_none (is_digit_of c.args.radix) c.args.text.now first))
