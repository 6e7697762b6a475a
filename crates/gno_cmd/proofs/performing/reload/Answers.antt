use Rattle.std.proofs.Common.{◌≡◌, ◌∙◌, subst}
use Rattle.std.specs.Prelude.{Option}
use Rattle.gno_port.specs.Tables.{Table}
use Rattle.gno_table.specs.FirstFormat.{Stands}
use Rattle.gno_cmd.proofs.Memories.{same_memory}
use Rattle.gno_cmd.proofs.performing.reload.Goals as goal

pub returns-in-Ok-load-clause-packages : goal.returns-in-Ok-load-clause-packages
returns-in-Ok-load-clause-packages g c told =
    let tables = g.K.Keeper.tables in
    let same : tables c.open.new.self ≡ tables c.args.keeper.now = c.in-Ok.ensures.tables ∙ c.close.ensures.tables in
    let here : tables c.open.new.self (g.K.Keeper.open_name c.open.new.self) ≡ tables c.args.keeper.now c.args.name.now = λ i. (same i) (c.in-Ok.ensures.ok.1 i) in
    same_memory (tables c.args.keeper.now c.args.name.now) c.in-Ok-load.loaded c.args.packages.now told
    (subst (λ (t : Option Table). Stands t c.in-Ok-load.loaded) here c.in-Ok-load.ensures.stands) c.requires.stands
