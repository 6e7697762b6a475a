use Rattle.gno_type_texts.specs.Shelves.{IsMethod}
use Rattle.gno_type_texts.proofs.Shelves.{pushed}
use Rattle.gno_type_texts.proofs.tests.rows.methods.Goals as goal

pub loop-row-preserved : goal.loop-row-preserved
loop-row-preserved c = pushed (IsMethod c.args.shelf.now) _ _ _ c.in_ok-push.ensures.ok c.loop-row.invariant c.in_ok-method.ensures
