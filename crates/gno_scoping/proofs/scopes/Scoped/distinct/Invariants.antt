use Rattle.std.specs.Prelude.{List, drop}
use Rattle.gno_scoping.proofs.Scoping.{Going, Met}
use Rattle.gno_tree.specs.declared.word.Name.{Name}
use Rattle.gno_scoping.proofs.scopes.Scoped.distinct.Given as goal

abbrev pub invariant-loop-name : goal.invariant-loop-name
invariant-loop-name l = (before : List Name) → Met l.fn.self.met before → Going l.fn.faults before l.names (drop l.name-index l.names) l.self.met l.faults l.found
