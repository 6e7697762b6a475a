use Rattle.std.proofs.Common.{◌≡◌, ◌++◌}
use Rattle.gno_port.specs.Changes.{changes_of}
use Rattle.gno_port.proofs.changes.Changes.into_batch.Given as goal

abbrev pub invariant-loop-key : goal.invariant-loop-key
invariant-loop-key l = l.changes ++ changes_of l.key-iterator ≡ l.fn.self
