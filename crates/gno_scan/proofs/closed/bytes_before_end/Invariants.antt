use Rattle.std.proofs.Common.{take}
use Rattle.gno_scan.specs.Quoted.{HasNoEnd}
use Rattle.gno_scan.proofs.closed.bytes_before_end.Given as goal

abbrev pub invariant-loop-at : goal.invariant-loop-at
invariant-loop-at l = HasNoEnd (take l.at l.text)
