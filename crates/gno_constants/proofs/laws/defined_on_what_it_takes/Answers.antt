use Rattle.gno_constants.proofs.Defined.{defined}
use Rattle.gno_constants.proofs.laws.defined_on_what_it_takes.Goals as goal

pub returns : goal.returns
returns c = λ op left right. defined op left right
