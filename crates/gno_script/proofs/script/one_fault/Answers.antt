use Rattle.gno_script.proofs.Fronts.{one-fault}
use Rattle.gno_script.proofs.script.one_fault.Goals as goal

pub returns : goal.returns
returns c = one-fault
