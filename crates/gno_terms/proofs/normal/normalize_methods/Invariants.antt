-- What the loop has passed is normal.
use Rattle.std.proofs.Common.{◌≡◌, ◌++◌, map, take, drop}
use Rattle.gno_terms.specs.Normal.{normal_method}
use Rattle.gno_terms.proofs.normal.normalize_methods.Given as goal

abbrev pub invariant-loop-method : goal.invariant-loop-method
invariant-loop-method l = take l.method-index l.methods ++ map normal_method (drop l.method-index l.methods) ≡ map normal_method l.fn.methods
