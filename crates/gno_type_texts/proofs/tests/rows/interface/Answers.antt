use Rattle.gno_type_texts.proofs.Shelves.{interface_below, interface_lawful}
use Rattle.gno_type_texts.proofs.tests.rows.interface.Goals as goal

pub add-requires-clause-below : goal.add-requires-clause-below
add-requires-clause-below c = interface_below c.args.shelf.now c.in_ok-methods.methods c.in_ok-methods.ensures

pub add-requires-clause-lawful : goal.add-requires-clause-lawful
add-requires-clause-lawful c = interface_lawful c.args.shelf.now c.in_ok-methods.methods c.in_ok-methods.ensures
