use Rattle.std.proofs.Common.{◌≡◌, ◌∙◌, sym}
use Rattle.std.specs.Prelude.{Some, None}
use mathlib.Core.Path.{subst}
use Rattle.gno_port.specs.Keeping.{IsNextKey}
use Rattle.gno_port.specs.Rows.{rows_table}
use Rattle.gno_port.proofs.RowLemmas.{none_above, next_above}
use Rattle.gno_port.proofs.rows.key_after.Goals as goal

pub returns-in-Some : goal.returns-in-Some
returns-in-Some c =
    let found = next_above c.args.rows.now c.in_ok-start.start c.range-above.result (c.in-Some.next.now, c.in-Some.field-0-1.now) c.next.new.self (c.range-above.ensures.in_range tt) c.in-Some.ensures.steps in
    subst (λ n. IsNextKey (rows_table c.args.rows.now) c.args.key.now (Some n)) (sym (c.in_ok-from_slice-in-Some.ensures ∙ c.as_slice.ensures.value))
    (subst (λ k. IsNextKey (rows_table c.args.rows.now) k (Some c.in-Some.next.now.items)) c.in_ok-start.ensures.items found)

pub returns : goal.returns
returns c = subst (λ k. IsNextKey (rows_table c.args.rows.now) k None) c.in_ok-start.ensures.items (none_above c.args.rows.now c.in_ok-start.start c.range-above.result (c.range-above.ensures.in_range tt) c.in-None.ensures.steps.0)
