use Rattle.std.proofs.Common.{ap, ◌∙◌, length, arith}
use Rattle.gno_type_table.proofs.Putting.{blank_kept, kept_at}
use Rattle.gno_type_table.proofs.Steps.{whole_written}
use Rattle.gno_type_table.proofs.table.TypeTable.new.Goals as goal

pub search_all-requires-clause-kept : goal.search_all-requires-clause-kept
search_all-requires-clause-kept c =
    let a = c.in_ok-awaited.ensures.len in
    let b = c.in_ok-awaited.awaited.ok.0 in
    let d = c.len-2.ensures in
    kept_at (λ _ _. Unit {0}) (length c.error_interface.new.rows.types) c.deref_mut.ensures.value c.deref_mut-2.ensures.value
    (blank_kept (length c.error_interface.new.rows.types) c.in_ok-searches.searches.items c.in_ok-awaited.awaited.items (c.in_ok-searches.ensures.size ∙ c.len.ensures) (omega (arith, a, b, d)) c.in_ok-searches.ensures.each)

pub invariant_of-result : goal.invariant_of-result
invariant_of-result c =
    let a = c.in_ok-searches.searches.ok.0 in
    let b = c.in_ok-awaited.awaited.ok.0 in
    let d = c.search_all.auto.searches in
    let e = c.search_all.auto.awaited in
    let f = ap length c.deref_mut.ensures.value in
    let g = ap length c.deref_mut-2.ensures.value in
    whole_written c.error_interface.new.rows c.in_ok-error.error c.in_ok-searches.searches.len c.in_ok-awaited.awaited.len c.search_all.new.searches _ c.search_all.new.awaited _
    c.in_ok-error.ensures.is c.in_ok-search_all.ensures (omega (arith, a, d, f)) (omega (arith, b, e, g))
