use Rattle.gno_type_classes.proofs.Indexed.{pointer_elements}
use Rattle.gno_type_classes.proofs.TypedParts.{array_typed}
use Rattle.gno_type_classes.proofs.elements.elements_of_array.Goals as goal

pub returns-in-Array-clause-some : goal.returns-in-Array-clause-some
returns-in-Array-clause-some c = pointer_elements c.args.types.now c.args.row.now c.in-Array.count c.in-Array.of c.requires.parts c.in-Array.is

pub returns-in-Array-clause-typed : goal.returns-in-Array-clause-typed
returns-in-Array-clause-typed c = array_typed c.args.types.now c.args.row.now c.requires.lawful c.in-Array.count c.in-Array.of c.in-Array.is
