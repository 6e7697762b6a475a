use Rattle.std.proofs.Common.{◌≡◌}
use Rattle.gno.proofs.streams.StdSourceSource.read.Given as goal

abbrev pub invariant-loop-turn : goal.invariant-loop-turn
invariant-loop-turn g l = (l.self.faults ≡ l.fn.self.faults) × (l.self.given ≡ l.fn.self.given) × (l.self.ends ≡ l.fn.self.ends)
