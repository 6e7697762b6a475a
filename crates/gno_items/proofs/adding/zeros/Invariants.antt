use Rattle.std.proofs.Common.{◌≡◌, replicate}
use Rattle.gno_machine.specs.Meaning.{int_of}
use Rattle.gno_items.proofs.adding.zeros.Given as goal

abbrev pub invariant-loop-index : goal.invariant-loop-index
invariant-loop-index l = l.values ≡ replicate l._index (int_of 0)
