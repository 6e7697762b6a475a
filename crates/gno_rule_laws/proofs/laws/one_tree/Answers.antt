use Rattle.gno_rule_laws.proofs.FileLaws.{same_tree}
use Rattle.gno_rule_laws.proofs.laws.one_tree.Goals as goal

pub returns : goal.returns
returns c = same_tree c.args.text.now c.args.tokens.now
