use Rattle.gno_rule_laws.proofs.FileLaws.{some_outcome, same_outcome}
use Rattle.gno_rule_laws.proofs.laws.one_outcome.Goals as goal

pub returns-clause-some : goal.returns-clause-some
returns-clause-some c = some_outcome c.args.text.now c.args.tokens.now

pub returns-clause-one : goal.returns-clause-one
returns-clause-one c = same_outcome c.args.text.now c.args.tokens.now
