use Rattle.std.proofs.Common.{◌≡◌, ◌++◌, map}
use Rattle.std.specs.Vec.Iter.{into_iter_items}
use Rattle.gno_rules.specs.Signatures.{type_alone, parameters_of}
use Rattle.gno_rules.proofs.parameters.ParameterList.into_parameters.Given as goal

abbrev pub invariant-loop-name : goal.invariant-loop-name
invariant-loop-name l = l.known ++ map type_alone (into_iter_items l.name-iterator) ≡ parameters_of l.fn.self
