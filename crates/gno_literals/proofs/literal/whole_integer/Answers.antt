use Rattle.std.proofs.Common.{arith}
use Rattle.std.proofs.lemmas.Int.{to_z_pos}
use mir.Syntax.{w128}
use Rattle.gno_literals.proofs.Spelling.{integer_at}
use Rattle.gno_literals.proofs.literal.whole_integer.Goals as goal

pub returns-in-Some-clause-some : goal.returns-in-Some-clause-some
returns-in-Some-clause-some c =
    let is = c.in-Some.ensures.value in
    let small = is.value_is.not_too_wide in
    integer_at c.args.spelling.now c.in-Some.value _ is (to_z_pos w128 c.in-Some.value (omega (arith, small)))
