use Rattle.std.proofs.Common.{◌≡◌, ◌∙◌, ap, List, ℕ}
use Rattle.std.specs.Prelude.{Some, []}
use Rattle.gno_port.specs.Rows.{rows_table}
use Rattle.gno_port.specs.Tables.{put}
use Rattle.gno_port.proofs.FreshKeys.{added_left, added_others}
use Rattle.gno_port.proofs.rows.add_empty.Goals as goal

pub loop-key-preserved : goal.loop-key-preserved
loop-key-preserved c =
    let t = rows_table c.loop-key.rows in
    let key = c.key-item.result in
    let new : rows_table c.insert_row.new.rows ≡ put t key (Some []) = c.in_ok-insert_row.ensures.ok
    ∙ ap (λ (k : List ℕ). put t k (Some c.new.result)) (c.in_ok-from_slice.ensures.items ∙ c.as_slice.ensures) ∙ ap (λ (v : List ℕ). put t key (Some v)) c.new.ensures in
    record {
      left = added_left c.args.keys.now c.loop-key.key-index key t (rows_table c.insert_row.new.rows) c.loop-key-test.true c.key-item.is new ∙ c.loop-key.invariant.left;
      others = added_others c.args.keys.now c.loop-key.key-index key t (rows_table c.insert_row.new.rows) c.loop-key-test.true c.key-item.is new ∙ c.loop-key.invariant.others;
    }
