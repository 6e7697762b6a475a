use Rattle.gno_type_texts.proofs.Stacks.{stack_pop, good_pop}
use Rattle.gno_type_texts.proofs.writer.Writer.pop.Goals as goal

pub returns-clause-stack : goal.returns-clause-stack
returns-clause-stack c at = stack_pop at c.args.self.now.pieces c.pop.new.self c.pop.result c.pop.ensures

pub returns-clause-good : goal.returns-clause-good
returns-clause-good c types are = good_pop types c.args.self.now (record { text = c.args.self.now.text; pieces = c.pop.new.self }) c.pop.result c.pop.ensures are
