use Rattle.gno_names.proofs.Judged.{of_constant}
use Rattle.gno_names.proofs.names.constant.Goals as goal

pub returns : goal.returns
returns c table s f is = of_constant table c.args.at c.args.of s f is c.args.value.now c.in_ok-value.value c.in_ok-value.ensures
