use Rattle.std.proofs.Common.{◌≡◌, arith, drop, true, false, sym, ap, ◌∙◌}
use Rattle.std.proofs.lemmas.List.{take_rest}
use Rattle.gno_scan.specs.NumberLengths.{goes_on, is_digit_of}
use Rattle.gno_scan.proofs.Digits.{run_drop_more, run_drop_stops}
use Rattle.gno_scan.proofs.number.digits.run_length.Goals as goal

pub loop-end-preserved : goal.loop-end-preserved
loop-end-preserved c =
    let on : goes_on (is_digit_of c.args.radix) (drop c.loop-end.end c.args.text.now) ≡ true = sym (c.goes_on.ensures ∙ ap (goes_on (is_digit_of c.args.radix)) (take_rest c.args.text.now c.loop-end.end)) ∙ c.if-goes_on.true in
    let more = run_drop_more (is_digit_of c.args.radix) c.args.text.now c.loop-end.end c.loop-end-test.true on in
    record { read = omega (arith, c.loop-end.invariant.read); within = omega arith }

pub returns-else-goes_on : goal.returns-else-goes_on
returns-else-goes_on c =
    let off : goes_on (is_digit_of c.args.radix) (drop c.loop-end.end c.args.text.now) ≡ false = sym (c.goes_on.ensures ∙ ap (goes_on (is_digit_of c.args.radix)) (take_rest c.args.text.now c.loop-end.end)) ∙ c.if-goes_on.false in
    let stops = run_drop_stops (is_digit_of c.args.radix) c.args.text.now c.loop-end.end off in
    omega (arith, c.loop-end.invariant.read)
