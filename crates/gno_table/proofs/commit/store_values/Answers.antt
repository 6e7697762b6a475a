use Rattle.std.proofs.Common.{◌∙◌, ap, List}
use Rattle.gno_base.specs.Number.{Number}
use Rattle.gno_port.specs.Tables.{latest}
use Rattle.gno_items.specs.Memory.{package_of}
use Rattle.gno_table.specs.Rows.{LeaveSame, changed_rows}
use Rattle.gno_table.proofs.DifferingRows.{stands_changed}
use Rattle.gno_table.proofs.commit.store_values.Goals as goal

pub returns-clause-stands : goal.returns-clause-stands
returns-clause-stands g c =
    let leave : LeaveSame c.in-Ok.batch.changes (changed_rows (package_of c.args.packages.now c.args.path.now) c.args.path.now c.args.values) = λ key before.
    c.in-Ok.ensures.rows key before ∙ ap (λ (vs : List Number). latest (changed_rows (package_of c.args.packages.now c.args.path.now) c.args.path.now vs) key before) c.as_slice.ensures in
    stands_changed (g.K.Keeper.tables c.args.keeper.now) (g.K.Keeper.tables c.apply.new.self) (g.K.Keeper.open_name c.args.keeper.now) _ c.in-Ok.batch.changes c.args.packages.now _ c.args.path.now c.args.values
    c.requires.stands c.requires.held c.requires.can c.in_ok-apply.ensures.ok c.in_ok-apply.ensures.open.1 leave c.set_values.ensures
