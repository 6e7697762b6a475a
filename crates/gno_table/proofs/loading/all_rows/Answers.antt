use Rattle.std.proofs.Common.{◌≡◌, ◌+◌, ◌∷◌, ◌∙◌, ap, sym, subst, drop, List}
use Rattle.gno_port.specs.Tables.{latest}
use Rattle.gno_port.proofs.TableLemmas.{latest-append}
use Rattle.gno_items.specs.declared.memory.Package.{Package}
use Rattle.gno_items.specs.Well.{IsWell}
use Rattle.gno_table.specs.Rows.{package_rows, rows_from}
use Rattle.gno_table.proofs.AddedRows.{at_package}
use Rattle.gno_table.proofs.loading.all_rows.Goals as goal

pub loop-order-preserved : goal.loop-order-preserved
loop-order-preserved c =
    let order = c.loop-order.order in
    let held = c.index-packages-order.result in
    let rest = drop (order + 1) c.args.packages.now in
    let here : drop order c.args.packages.now ≡ held ∷ rest = at_package c.args.packages.now order held c.loop-order-test.true c.index-packages-order.is in
    record {
      put = λ key before.
          ap (latest (rows_from (order + 1) rest) key) (c.in_ok-put_package.ensures key before)
          ∙ sym (latest-append (package_rows order held) (rows_from (order + 1) rest) key (latest c.loop-order.changes key before))
          ∙ ap (λ (ps : List Package). latest (rows_from order ps) key (latest c.loop-order.changes key before)) (sym here)
          ∙ c.loop-order.invariant.put key before;
      well = (subst (λ (ps : List Package). IsWell ps) here c.loop-order.invariant.well).2;
    }
