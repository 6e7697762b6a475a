use Rattle.std.specs.Prelude.{Some}
use Rattle.gno_port.proofs.RowLemmas.{rows_updated}
use Rattle.gno_port.proofs.rows.insert_row.Goals as goal

pub returns-in-Ok-clause-ok : goal.returns-in-Ok-clause-ok
returns-in-Ok-clause-ok c = rows_updated c.args.rows.now c.insert.new.self c.args.key.items (Some c.args.value) c.in-Ok.ensures.updates
