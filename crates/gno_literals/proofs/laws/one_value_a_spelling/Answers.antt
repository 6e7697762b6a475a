use Rattle.gno_literals.proofs.OneConstant.{one_constant}
use Rattle.gno_literals.proofs.laws.one_value_a_spelling.Goals as goal

pub returns : goal.returns
returns c = one_constant
