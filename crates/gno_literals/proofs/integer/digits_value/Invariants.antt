use Rattle.std.proofs.Common.{◌≡◌, drop}
use Rattle.gno_literals.specs.Digits.{read_all}
use Rattle.gno_literals.proofs.integer.digits_value.Given as goal
use Rattle.gno_literals.proofs.Reading.{reading}

abbrev pub invariant-loop-b : goal.invariant-loop-b
invariant-loop-b l = read_all l.base l.reading (drop l.b-index l.digits) ≡ read_all l.base (reading 0 l.may_bar) l.digits
