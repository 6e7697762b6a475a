use Rattle.std.specs.Prelude.{None}
use Rattle.gno_port.proofs.RowLemmas.{rows_updated}
use Rattle.gno_port.proofs.rows.remove_row.Goals as goal

pub returns : goal.returns
returns c = rows_updated c.args.rows.now c.remove.new.self c.args.key.now None c.remove.ensures.updates
