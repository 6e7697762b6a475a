use Rattle.std.specs.Prelude.{◌≡◌, ◌++◌, drop, map}
use Rattle.gno_embedding.specs.Reaching.{number_of}
use Rattle.gno_promotion.proofs.methods.numbers_of.Given as goal

abbrev pub invariant-loop-it : goal.invariant-loop-it
invariant-loop-it l = l.numbers ++ map number_of (drop l.it-index l.reached) ≡ map number_of l.reached
