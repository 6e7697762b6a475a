use Rattle.gno_constants.proofs.Places.{same_number}
use Rattle.gno_constants.proofs.laws.one_number_has_the_bits.Goals as goal

pub returns : goal.returns
returns c = λ x y same. same_number x y same
