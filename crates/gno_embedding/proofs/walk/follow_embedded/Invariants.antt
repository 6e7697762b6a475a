use Rattle.std.proofs.Common.{length, ◌+◌, ◌-◌, ◌≤◌}
use Rattle.gno_terms.specs.Tables.{deep}
use Rattle.gno_embedding.specs.Nodes.{IsAt}
use Rattle.gno_embedding.proofs.walk.follow_embedded.Given as goal

abbrev pub invariant-loop-next : goal.invariant-loop-next
invariant-loop-next l = record {
  at : IsAt l.rows (deep l.rows.types l.term) l.nodes.items.items l.nodes.places l.next 0;
  within : l.next ≤ length l.nodes.items.items;
}

abbrev pub decreases-loop-next : goal.decreases-loop-next
decreases-loop-next l = length l.rows.types + 1 - l.next
