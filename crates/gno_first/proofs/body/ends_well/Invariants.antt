use Rattle.std.proofs.Common.{◌≡◌, drop}
use Rattle.gno_first.specs.Form.{ends_well}
use Rattle.gno_first.proofs.body.ends_well.Given as goal

abbrev pub invariant-loop-at : goal.invariant-loop-at
invariant-loop-at l = ends_well l.has_int (drop l.at l.body) ≡ ends_well l.has_int l.body
