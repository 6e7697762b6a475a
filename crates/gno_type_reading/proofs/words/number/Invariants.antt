use Rattle.std.proofs.Common.{◌≡◌, drop}
use Rattle.gno_type_reading.specs.Turns.{number_after}
use Rattle.gno_type_reading.proofs.words.number.Given as goal

abbrev pub invariant-loop-digit : goal.invariant-loop-digit
invariant-loop-digit l = number_after l.number (drop l.digit-index l.digits) ≡ number_after 0 l.digits
