use Rattle.std.specs.Prelude.{◌≡◌, ◌++◌, drop, map}
use Rattle.gno_promotion.specs.Candidates.{of_method}
use Rattle.gno_promotion.proofs.gather.push_methods.Given as goal

abbrev pub invariant-loop-method : goal.invariant-loop-method
invariant-loop-method l = l.candidates.items ++ map (of_method l.way) (drop l.method-index l.methods) ≡ l.fn.candidates.items ++ map (of_method l.way) l.methods
