use Rattle.gno_constants.proofs.Places as places
use Rattle.gno_constants.proofs.laws.bits_of_each_place.Goals as goal

pub returns-clause-complement : goal.returns-clause-complement
returns-clause-complement c = λ x k. places.complemented x k

pub returns-clause-both : goal.returns-clause-both
returns-clause-both c = λ x y k. places.in_both x y k

pub returns-clause-either : goal.returns-clause-either
returns-clause-either c = λ x y k. places.in_either x y k

pub returns-clause-one : goal.returns-clause-one
returns-clause-one c = λ x y k. places.in_one x y k
