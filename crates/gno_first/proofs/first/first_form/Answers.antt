use Rattle.gno_first.proofs.Lawfulness.{lawful_of}
use Rattle.gno_first.proofs.first.first_form.Goals as goal

pub returns-clause-lawful : goal.returns-clause-lawful
returns-clause-lawful c = lawful_of c.args.file.now c.in_ok-it.it c.in_ok-it.ensures
