use Rattle.gno_type_texts.specs.Shelves.{AreMethods}
use Rattle.gno_type_texts.proofs.tests.rows.methods.Given as goal

abbrev pub invariant-loop-row : goal.invariant-loop-row
invariant-loop-row l = AreMethods l.shelf l.methods
