use Rattle.std.proofs.Common.{◌≡◌, drop}
use Rattle.std.specs.Prelude.{false}
use Rattle.gno_scan.specs.Closing.{closing}
use Rattle.gno_scan.proofs.quoted.bytes_inside.Given as goal

abbrev pub invariant-loop-at : goal.invariant-loop-at
invariant-loop-at l = closing l.quote l.at l.is_escaped (drop l.at l.text) ≡ closing l.quote 0 false l.text
