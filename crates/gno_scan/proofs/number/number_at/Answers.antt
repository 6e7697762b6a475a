use Rattle.std.proofs.Common.{◌<◌, arith, eqb-true, eq-eqb}
use Rattle.gno_scan.proofs.Numbers.{no_number, longest_number, integer_where}
use Rattle.gno_scan.proofs.number.number_at.Goals as goal

pub returns-then-length-eq0-clause-none : goal.returns-then-length-eq0-clause-none
returns-then-length-eq0-clause-none c = λ _. no_number c.args.text.now c.with_letter-length.result c.with_letter-length.ensures.longest c.if-length-eq0.true

pub returns-clause-longest : goal.returns-clause-longest
returns-clause-longest c =
    let some : 0 < c.with_letter-length.result = omega arith in
    longest_number c.args.text.now c.with_letter-length.result c.with_letter-length.ensures.longest some

pub returns-clause-integer : goal.returns-clause-integer
returns-clause-integer c =
    let some : 0 < c.with_letter-length.result = omega arith in
    let n = c.with_letter-length.result in
    let i = c.integer_length-integer.result in
    let same = integer_where c.args.text.now i n c.integer_length-integer.ensures.longest c.with_letter-length.ensures.longest some in
    (λ e. same.0 (eqb-true n i e), λ h. eq-eqb n i (same.1 h))
