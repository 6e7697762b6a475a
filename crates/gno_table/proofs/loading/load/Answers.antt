use Rattle.std.proofs.Common.{subst, sym, List}
use Rattle.gno_port.specs.declared.keeper.Change.{Change}
use Rattle.gno_table.specs.FirstFormat.{Reads}
use Rattle.gno_table.specs.Reading.{AreInOrder}
use Rattle.gno_table.proofs.FoundPackages.{not_first}
use Rattle.gno_table.proofs.loading.load.Goals as goal

pub returns-in-Ok-None-clause-damaged : goal.returns-in-Ok-None-clause-damaged
returns-in-Ok-None-clause-damaged g c e =
    let told = g.K.Keeper.tables c.args.keeper.now (g.K.Keeper.open_name c.args.keeper.now) in
    let rows = c.as_slice.result.now in
    not_first told rows (subst (λ (rs : List Change). Reads told rs) (sym c.as_slice.ensures) c.in-Ok.ensures.rows)
    (subst (λ (rs : List Change). AreInOrder told rs) (sym c.as_slice.ensures) c.in-Ok.ensures.order)
    (c.in-Ok-None.ensures.empty c.in-Ok-None.field-0-is) (c.in-Ok-None.ensures.finds c.in-Ok-None.field-0-is)
