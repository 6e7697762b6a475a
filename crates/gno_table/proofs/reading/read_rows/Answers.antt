use Rattle.std.proofs.Common.{◌≡◌, ◌∙◌, [], subst, sym, arith, List, ℕ}
use Rattle.gno_port.specs.declared.keeper.Change.{Change}
use Rattle.std.specs.Prelude.{Option, Some}
use Rattle.gno_port.specs.Tables.{Table}
use Rattle.gno_port.specs.Keeping.{NextKey}
use Rattle.gno_table.specs.Reading.{IsRowAdded, ReadsTo}
use Rattle.gno_table.proofs.RowsSoFar.{begins, goes_on}
use Rattle.gno_table.proofs.reading.read_rows.Goals as goal

pub loop-turn-preserved : goal.loop-turn-preserved
loop-turn-preserved g c =
    let tables = g.K.Keeper.tables in
    let name = g.K.Keeper.open_name in
    let told = tables c.loop-turn.keeper (name c.loop-turn.keeper) in
    let tables_after : tables c.after.new.self ≡ tables c.loop-turn.keeper = c.in_ok-next.ensures.tables in
    let name_after : name c.after.new.self ≡ name c.loop-turn.keeper = c.in_ok-next.ensures.open.1 in
    let told_after : tables c.after.new.self (name c.after.new.self) ≡ told = λ i. (tables_after i) (name_after i) in
    let told_new : tables c.push_row-in-loop-turn.new.keeper (name c.push_row-in-loop-turn.new.keeper) ≡ tables c.after.new.self (name c.after.new.self) = λ i. (c.in_ok-push_row-2.ensures.tables i) (c.in_ok-push_row-2.ensures.open.1 i) in
    let next : NextKey told c.loop-turn.key (Some c.in-Some.next) = subst (λ (n : Option (List ℕ)). NextKey told c.loop-turn.key n) c.in-Some.is (subst (λ (k : List ℕ). NextKey told k c.in_ok-next.field-0) c.as_slice.ensures c.in_ok-next.ensures.key) in
    let add : IsRowAdded told c.loop-turn.rows c.in-Some.next c.push_row-in-loop-turn.new.rows =
    subst (λ (t : Option Table). IsRowAdded t c.loop-turn.rows c.in-Some.next c.push_row-in-loop-turn.new.rows) told_after
    (subst (λ (k : List ℕ). IsRowAdded (tables c.after.new.self (name c.after.new.self)) c.loop-turn.rows k c.push_row-in-loop-turn.new.rows) c.as_slice-in-loop-turn.ensures c.in_ok-push_row-2.ensures.rows) in
    record {
      so_far = subst (λ (t : Option Table). ReadsTo t c.in-Some.next c.push_row-in-loop-turn.new.rows) (sym (told_new ∙ told_after)) (goes_on told c.loop-turn.key c.in-Some.next c.loop-turn.rows c.push_row-in-loop-turn.new.rows c.loop-turn.invariant.so_far next add);
      is_open = c.in_ok-push_row-2.ensures.open.0;
      name = c.in_ok-push_row-2.ensures.open.1 ∙ name_after ∙ c.loop-turn.invariant.name;
      tables = c.in_ok-push_row-2.ensures.tables ∙ tables_after ∙ c.loop-turn.invariant.tables;
      later = omega (arith, c.loop-turn.invariant.later, c.in_ok-next.ensures.later, c.in_ok-push_row-2.ensures.later);
    }

pub loop-turn-init : goal.loop-turn-init
loop-turn-init g c =
    let tables = g.K.Keeper.tables in
    let name = g.K.Keeper.open_name in
    let pushed = c.in_ok-push_row.ensures in
    let told = tables c.args.keeper.now (name c.args.keeper.now) in
    let told_new : tables c.push_row.new.keeper (name c.push_row.new.keeper) ≡ told = λ i. (pushed.tables i) (pushed.open.1 i) in
    let add : IsRowAdded told [] [] c.push_row.new.rows = subst (λ (rows : List Change). IsRowAdded told rows [] c.push_row.new.rows) c.new-rows.ensures pushed.rows in
    record {
      so_far = subst (λ (t : Option Table). ReadsTo t c.new-key.result c.push_row.new.rows) (sym told_new) (subst (λ (k : List ℕ). ReadsTo told k c.push_row.new.rows) (sym c.new-key.ensures) (begins told c.push_row.new.rows add));
      is_open = pushed.open.0;
      name = pushed.open.1;
      tables = pushed.tables;
      later = pushed.later;
    }
