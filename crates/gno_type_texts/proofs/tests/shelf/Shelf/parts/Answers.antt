use Rattle.gno_type_texts.specs.Shelves.{IsTypedAt}
use Rattle.gno_type_texts.proofs.Shelves.{pushed}
use Rattle.gno_type_texts.proofs.tests.shelf.Shelf.parts.Goals as goal

pub loop-place-preserved : goal.loop-place-preserved
loop-place-preserved c = pushed (IsTypedAt c.args.self.now) _ _ _ c.in_ok-push.ensures.ok c.loop-place.invariant c.in_ok-part.ensures
