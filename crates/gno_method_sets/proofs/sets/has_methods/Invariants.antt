use Rattle.std.specs.Prelude.{map, drop}
use Rattle.gno_method_sets.specs.Implementing.{HasMethod}
use Rattle.gno_terms.specs.Lawful.{Each}
use Rattle.gno_terms.specs.Tables.{Is, type_at}
use Rattle.gno_terms.specs.Terms.{method_with}
use Rattle.gno_terms.specs.declared.term.GoType.{GoType}
use Rattle.gno_method_sets.proofs.sets.has_methods.Given as goal

-- the first ones are there
abbrev pub invariant-loop-wanted : goal.invariant-loop-wanted
invariant-loop-wanted l = (s : GoType) → Is l.types l.t s → Each (HasMethod l.types s) (map (method_with (type_at l.types.types)) (drop l.wanted-index l.methods)) → Each (HasMethod l.types s) (map (method_with (type_at l.types.types)) l.methods)
