use Rattle.std.specs.Prelude.{◌≤◌, ◌+◌, ◌*◌, Option}
use Rattle.std.specs.Vec.Iter.{into_iter_items}
use Rattle.gno_giving.specs.Basics.{AreBasics}
use Rattle.gno_pending.proofs.Depths.{deepest}
use Rattle.gno_pending.specs.Fronts.{DefaultedSoFar}
use Rattle.gno_terms.specs.declared.term.GoType.{GoType}
use Rattle.gno_typing.specs.declared.fault.Fault.{Fault}
use Rattle.gno_typing.specs.declared.pending.PendingOf.{PendingOf}
use Rattle.gno_pending.proofs.defaults.+defaulted.Given as goal

abbrev pub invariant-all_defaulted-loop-operation : goal.invariant-all_defaulted-loop-operation
invariant-all_defaulted-loop-operation l = record {
  no_deeper : deepest (into_iter_items l.operation-iterator) ≤ deepest l.fn.rest;
  goes_on : (y : PendingOf GoType) (first : Option Fault) → AreBasics l.types l.fn.basics → DefaultedSoFar l.types y first l.fn.rest l.fn.faults l.fn.front → DefaultedSoFar l.types y first (into_iter_items l.operation-iterator) l.faults l.front;
}

abbrev pub decreases-all_defaulted : goal.decreases-all_defaulted
decreases-all_defaulted l = 4 * goal.size-all_defaulted l + 3

abbrev pub decreases-one_defaulted : goal.decreases-one_defaulted
decreases-one_defaulted l = 4 * goal.size-one_defaulted l + 2

abbrev pub decreases-behind_constant : goal.decreases-behind_constant
decreases-behind_constant l = 4 * goal.size-behind_constant l + 1

abbrev pub decreases-behind_judged : goal.decreases-behind_judged
decreases-behind_judged l = 4 * goal.size-behind_judged l + 1

abbrev pub decreases-constant_joined : goal.decreases-constant_joined
decreases-constant_joined l = 4 * goal.size-constant_joined l + 1

abbrev pub decreases-joined_operand : goal.decreases-joined_operand
decreases-joined_operand l = 4 * goal.size-joined_operand l + 1

abbrev pub decreases-first_defaulted : goal.decreases-first_defaulted
decreases-first_defaulted l = 4 * goal.size-first_defaulted l + 1

abbrev pub decreases-defaulted : goal.decreases-defaulted
decreases-defaulted l = 4 * goal.size-defaulted l
