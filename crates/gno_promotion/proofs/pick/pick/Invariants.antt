use Rattle.std.specs.Prelude.{◌≡◌, ◌++◌, drop, false}
use Rattle.gno_promotion.specs.Candidates.{picked}
use Rattle.gno_promotion.proofs.pick.pick.Given as goal

abbrev pub invariant-loop-at : goal.invariant-loop-at
invariant-loop-at l = l.methods ++ picked l.behind (drop l.at l.candidates) ≡ picked false l.candidates
