use Rattle.std.specs.Prelude.{◌≡◌, ◌++◌, drop}
use Rattle.gno_method_sets.specs.Receiving.{received}
use Rattle.gno_method_sets.proofs.received.received.Given as goal

abbrev pub invariant-loop-one : goal.invariant-loop-one
invariant-loop-one l = l.methods ++ received l.pointer (drop l.one-index l.promoted) ≡ received l.pointer l.promoted
