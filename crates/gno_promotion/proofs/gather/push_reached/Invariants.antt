use Rattle.std.specs.Prelude.{drop}
use Rattle.gno_promotion.specs.Candidates.{AreReachedSo}
use Rattle.gno_promotion.proofs.gather.push_reached.Given as goal

abbrev pub invariant-loop-it : goal.invariant-loop-it
invariant-loop-it l = AreReachedSo l.rows l.reached (drop l.it-index l.reached) l.fn.candidates.items l.candidates.items
