use Rattle.std.proofs.Common.{◌≡◌, ◌∙◌, sym, arith, Some, None, get_or}
use Rattle.gno_scan.specs.NumberValues.{with_byte}
use Rattle.gno_scan.proofs.Values.{value_more, value_fails, value_all}
use Rattle.gno_scan.proofs.number.value.digits_value.Goals as goal

pub returns-in_err-value : goal.returns-in_err-value
returns-in_err-value c =
    let none : with_byte c.args.base c.loop-b.value (get_or c.args.digits.now c.loop-b.b-index 0) ≡ None = sym c.with_byte.ensures ∙ c.in_err-value.was in
    c.from_residual.ensures ∙ sym (value_fails c.args.base c.loop-b.value c.loop-b.b-index c.args.digits.now (omega arith) none) ∙ c.loop-b.invariant

pub loop-b-preserved : goal.loop-b-preserved
loop-b-preserved c =
    let some : with_byte c.args.base c.loop-b.value (get_or c.args.digits.now c.loop-b.b-index 0) ≡ Some c.in_ok-value.value = sym c.with_byte.ensures ∙ c.in_ok-value.was in
    sym (value_more c.args.base c.loop-b.value c.in_ok-value.value c.loop-b.b-index c.args.digits.now (omega arith) some) ∙ c.loop-b.invariant

pub returns : goal.returns
returns c = sym (value_all c.args.base c.loop-b.value c.loop-b.b-index c.args.digits.now (omega arith)) ∙ c.loop-b.invariant
