use Rattle.std.proofs.Common.{◌≡◌, ◌∙◌, ap, arith, get_or, sym, Some, None}
use Rattle.std.specs.Prelude.{option_and_then, true, false}
use Rattle.gno_literals.specs.Digits.{read_byte, whole_reading}
use Rattle.gno_literals.proofs.Reading.{number_of, read_end, read_fails, read_more}
use Rattle.gno_literals.proofs.integer.digits_value.Goals as goal

pub returns-in_err-reading : goal.returns-in_err-reading
returns-in_err-reading c =
    let none : read_byte c.args.base c.loop-b.reading (get_or c.args.digits.now c.loop-b.b-index 0) ≡ None = sym c.read_byte.ensures ∙ c.in_err-reading.was in
    c.from_residual.ensures ∙ ap (option_and_then whole_reading) (sym (read_fails c.args.base c.loop-b.reading c.loop-b.b-index c.args.digits.now (omega arith) none) ∙ c.loop-b.invariant)

pub loop-b-preserved : goal.loop-b-preserved
loop-b-preserved c =
    let some : read_byte c.args.base c.loop-b.reading (get_or c.args.digits.now c.loop-b.b-index 0) ≡ Some c.in_ok-reading.reading = sym c.read_byte.ensures ∙ c.in_ok-reading.was in
    sym (read_more c.args.base c.loop-b.reading c.in_ok-reading.reading c.loop-b.b-index c.args.digits.now (omega arith) some) ∙ c.loop-b.invariant

pub returns-then-reading : goal.returns-then-reading
returns-then-reading c =
    sym (number_of c.loop-b.reading true c.if-reading.true)
    ∙ ap (option_and_then whole_reading) (sym (read_end c.args.base c.loop-b.reading c.loop-b.b-index c.args.digits.now (omega arith)) ∙ c.loop-b.invariant)

pub returns-else-reading : goal.returns-else-reading
returns-else-reading c =
    sym (number_of c.loop-b.reading false c.if-reading.false)
    ∙ ap (option_and_then whole_reading) (sym (read_end c.args.base c.loop-b.reading c.loop-b.b-index c.args.digits.now (omega arith)) ∙ c.loop-b.invariant)
