use Rattle.std.proofs.Common.{ap, List, []}
use Rattle.gno_terms.specs.declared.term.TypeRef.{TypeRef}
use Rattle.gno_terms.specs.declared.term.TermOf.{TermOf}
use Rattle.gno_type_rows.specs.RowTypes.{deeps}
use Rattle.gno_type_rows.proofs.Empty.{empty_table}
use Rattle.gno_type_rows.proofs.Laying.{laid_at, laid_empty}
use Rattle.gno_type_rows.proofs.Steps.{at_lists}
use Rattle.gno_type_rows.proofs.rows.Rows.new.Goals as goal

pub invariant_of-result : goal.invariant_of-result
invariant_of-result c = record {
  table = at_lists c.new.ensures.items c.new-3.ensures.items (empty_table c.new-2.result c.new-2.ensures.empty);
  laid = laid_at c.new.ensures.items c.new-3.ensures.items c.new-4.ensures laid_empty;
}

pub returns-clause-types : goal.returns-clause-types
unfolding deeps
returns-clause-types c = ap (λ (l : List (TermOf TypeRef)). deeps l []) c.new.ensures.items
