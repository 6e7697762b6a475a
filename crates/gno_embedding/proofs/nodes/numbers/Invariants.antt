use Rattle.std.proofs.Common.{◌≡◌, map, take}
use Rattle.gno_embedding.specs.Reaching.{number_of}
use Rattle.gno_embedding.proofs.nodes.numbers.Given as goal

abbrev pub invariant-loop-node : goal.invariant-loop-node
invariant-loop-node l = l.numbers ≡ map number_of (take l.node-index l.nodes)
