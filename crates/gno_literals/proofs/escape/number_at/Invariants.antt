use Rattle.std.proofs.Common.{◌≡◌, take}
use Rattle.std.specs.Str.Parse.{AllDigits, digits_value}
use Rattle.gno_literals.proofs.escape.number_at.Given as goal

abbrev pub invariant-loop-at : goal.invariant-loop-at
invariant-loop-at l = record {
  digits : AllDigits l.base (take l.at l.text);
  value : l.number ≡ digits_value l.base (take l.at l.text);
}
