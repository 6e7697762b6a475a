use Rattle.std.proofs.Common.{◌≡◌, ◌++◌}
use Rattle.std.specs.Vec.Iter.{into_iter_items}
use Rattle.gno_rules.specs.Statements.{names_of, all_names}
use Rattle.gno_simple.proofs.simple_value.all_names.Given as goal

abbrev pub invariant-loop-found : goal.invariant-loop-found
invariant-loop-found l = l.names ++ names_of (into_iter_items l.found-iterator) ≡ all_names l.fn.exprs
