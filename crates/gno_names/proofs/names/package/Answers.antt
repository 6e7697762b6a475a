use Rattle.gno_names.proofs.Judged.{of_package}
use Rattle.gno_names.proofs.names.package.Goals as goal

pub returns : goal.returns
returns c table f = of_package table c.args.at f c.args.path.now c.in_ok-path.path c.in_ok-path.ensures
