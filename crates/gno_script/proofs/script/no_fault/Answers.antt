use Rattle.gno_script.proofs.Fronts.{no-fault}
use Rattle.gno_script.proofs.script.no_fault.Goals as goal

pub returns : goal.returns
returns c = no-fault
