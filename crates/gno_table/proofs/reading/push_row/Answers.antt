use Rattle.std.proofs.Common.{◌∙◌, ◌∷◌, ◌++◌, [], ap, subst, List, ℕ}
use Rattle.std.specs.Prelude.{Option}
use Rattle.gno_port.specs.Keeping.{Gets}
use Rattle.gno_table.specs.Rows.{row}
use Rattle.gno_table.proofs.RowsSoFar.{added}
use Rattle.gno_table.proofs.reading.push_row.Goals as goal

pub returns-clause-rows : goal.returns-clause-rows
returns-clause-rows g c =
    let told = g.K.Keeper.tables c.args.keeper.now (g.K.Keeper.open_name c.args.keeper.now) in
    added told c.args.rows.now c.push.new.self c.args.key.now c.in-Some.value
    (subst (λ (found : Option (List ℕ)). Gets told c.args.key.now found) c.in-Some.is c.in_ok-value.ensures.value)
    (c.in-Ok-push.ensures.ok ∙ ap (λ (key : List ℕ). c.args.rows.now ++ row key c.in-Some.value ∷ []) c.in-Ok.ensures)
