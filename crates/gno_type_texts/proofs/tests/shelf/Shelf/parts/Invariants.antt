use Rattle.gno_type_texts.specs.Shelves.{AreTyped}
use Rattle.gno_type_texts.proofs.tests.shelf.Shelf.parts.Given as goal

abbrev pub invariant-loop-place : goal.invariant-loop-place
invariant-loop-place l = AreTyped l.self l.parts
