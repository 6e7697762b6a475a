use Rattle.std.proofs.Common.{drop}
use Rattle.std.specs.Prelude.{◌↔◌}
use Rattle.gno_port.specs.Failing.{IsToFail}
use Rattle.gno_port.proofs.failing.is_to_fail.Given as goal

abbrev pub invariant-loop-one : goal.invariant-loop-one
invariant-loop-one l = IsToFail (drop l.one-index l.fails) l.call l.number ↔ IsToFail l.fails l.call l.number
