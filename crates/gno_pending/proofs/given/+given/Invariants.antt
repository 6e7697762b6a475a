use Rattle.std.specs.Prelude.{◌≤◌, Option}
use Rattle.std.specs.Vec.Iter.{into_iter_items}
use Rattle.gno_pending.proofs.Depths.{deepest}
use Rattle.gno_pending.specs.Chains.{GivenSoFar}
use Rattle.gno_terms.specs.declared.term.GoType.{GoType}
use Rattle.gno_terms.specs.Tables.{Is}
use Rattle.gno_typing.specs.declared.fault.Fault.{Fault}
use Rattle.gno_typing.specs.declared.pending.PendingOf.{PendingOf}
use Rattle.gno_pending.proofs.given.+given.Given as goal

abbrev pub invariant-all_given-loop-operation : goal.invariant-all_given-loop-operation
invariant-all_given-loop-operation l = record {
  no_deeper : deepest (into_iter_items l.operation-iterator) ≤ deepest l.fn.rest;
  goes_on : (u : GoType) (y : PendingOf GoType) (first : Option Fault) → Is l.types l.fn.of u → GivenSoFar l.types u y first l.fn.rest l.fn.form l.fn.faults → GivenSoFar l.types u y first (into_iter_items l.operation-iterator) l.form l.faults;
}
