use Rattle.std.proofs.Common.{◌≡◌, ◌++◌, map}
use Rattle.std.specs.Vec.Iter.{into_iter_items}
use Rattle.gno_rules.specs.Shapes.{expr_of, exprs_of}
use Rattle.gno_rules.proofs.expression.Exprs.into_list.Given as goal

abbrev pub invariant-loop-found : goal.invariant-loop-found
invariant-loop-found l = l.all ++ map expr_of (into_iter_items l.found-iterator) ≡ exprs_of l.fn.self
