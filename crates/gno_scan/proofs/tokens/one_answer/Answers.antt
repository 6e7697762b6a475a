use Rattle.gno_scan.proofs.OneAnswer.{one_fault, right_or_fault}
use Rattle.gno_scan.proofs.tokens.one_answer.Goals as goal

pub returns-clause-fault : goal.returns-clause-fault
returns-clause-fault c = λ fault other. one_fault c.args.text.now fault other

pub returns-clause-right : goal.returns-clause-right
returns-clause-right c = λ spans fault. right_or_fault c.args.text.now spans fault
