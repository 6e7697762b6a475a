use Rattle.gno_scan.proofs.Beginnings.{blank_begins}
use Rattle.gno_scan.proofs.beginning.blank.Goals as goal

pub returns : goal.returns
returns c = blank_begins c.args.text.now c.requires
