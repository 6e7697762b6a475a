use Rattle.std.proofs.Common.{◌∙◌}
use Rattle.gno_port.proofs.TableLemmas.{latest-append}
use Rattle.gno_table.proofs.rows.put_row.Goals as goal

pub returns : goal.returns
returns c key before = c.in_ok-put.ensures.ok key before ∙ latest-append c.args.changes.now _ key before
