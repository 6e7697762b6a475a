use Rattle.gno_type_texts.specs.Shelves.{AreFields}
use Rattle.gno_type_texts.proofs.tests.rows.fields.Given as goal

abbrev pub invariant-loop-row : goal.invariant-loop-row
invariant-loop-row l = AreFields l.shelf l.fields
