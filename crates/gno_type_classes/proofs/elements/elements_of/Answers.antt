use Rattle.std.proofs.Common.{refl}
use Rattle.gno_type_classes.proofs.Indexed.{known_elements}
use Rattle.gno_type_classes.proofs.elements.elements_of.Goals as goal

pub returns-in-None-clause-none : goal.returns-in-None-clause-none
returns-in-None-clause-none c _ s e is has = c.in-None.ensures.none refl s is (known_elements c.args.types.now s e has)
