use Rattle.gno_assignability.proofs.FormsOfRows.{known}
use Rattle.gno_types.proofs.tests.trial.is_complete.Goals as goal

pub returns-then-contains-clause-known : goal.returns-then-contains-clause-known
returns-then-contains-clause-known c y s is = known c.args.types.now s ((c.is_complete.ensures s is).0 y)
