use Rattle.std.specs.Prelude.{map, drop, length}
use Rattle.gno_terms.specs.Lawful.{Each}
use Rattle.gno_terms.specs.Tables.{Below}
use Rattle.gno_terms.specs.Terms.{method_of}
use Rattle.gno_type_classes.proofs.tests.lawful.contains_all.Given as goal

-- the first ones are there
abbrev pub invariant-loop-method : goal.invariant-loop-method
invariant-loop-method l = Each (Below (length l.types.types)) (map method_of (drop l.method-index l.methods)) → Each (Below (length l.types.types)) (map method_of l.methods)
