use Rattle.std.proofs.Common.{◌≡◌}
use Rattle.gno.proofs.streams.StdSinkSink.write.Given as goal

abbrev pub invariant-loop-turn : goal.invariant-loop-turn
invariant-loop-turn g l = (l.self.faults ≡ l.fn.self.faults) × (l.self.zero_writes ≡ l.fn.self.zero_writes)
