use Rattle.gno_scan.proofs.OneAnswer.{one_list}
use Rattle.gno_scan.proofs.tokens.one_list.Goals as goal

pub returns : goal.returns
returns c = λ spans other fault fault'. one_list c.args.text.now spans other fault fault'
