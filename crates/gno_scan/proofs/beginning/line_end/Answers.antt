use Rattle.gno_scan.proofs.Beginnings.{line_end_begins}
use Rattle.gno_scan.proofs.beginning.line_end.Goals as goal

pub returns : goal.returns
returns c = line_end_begins c.args.text.now c.requires
