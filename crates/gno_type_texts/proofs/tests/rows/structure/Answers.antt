use Rattle.gno_type_texts.proofs.Shelves.{struct_below, struct_lawful}
use Rattle.gno_type_texts.proofs.tests.rows.structure.Goals as goal

pub add-requires-clause-below : goal.add-requires-clause-below
add-requires-clause-below c = struct_below c.args.shelf.now c.in_ok-fields.fields c.in_ok-fields.ensures

pub add-requires-clause-lawful : goal.add-requires-clause-lawful
add-requires-clause-lawful c = struct_lawful c.args.shelf.now c.in_ok-fields.fields c.in_ok-fields.ensures
