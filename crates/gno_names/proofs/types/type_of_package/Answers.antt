use Rattle.std.proofs.Common.{subst}
use Rattle.gno_judging.specs.Answers.{Answers}
use Rattle.gno_judging.specs.Found.{OperandStands, TypeStands}
use Rattle.gno_judging.proofs.Answers.{after, after_none}
use Rattle.gno_tree_typing.specs.WrittenTypes.{as_type}
use Rattle.gno_typing.specs.Names.{exported}
use Rattle.gno_names.proofs.types.type_of_package.Goals as goal

pub returns-in-Some : goal.returns-in-Some
returns-in-Some c ms h = after (OperandStands c.args.types.now) (TypeStands c.args.types.now) (exported ms c.args.at c.args.name.now) (as_type c.args.at) c.args.faults.now c.exported.new.faults c.as_type.new.faults c.as_type.result c.in-Some.x
    (subst (λ r. Answers (exported ms c.args.at c.args.name.now) (OperandStands c.args.types.now) c.args.faults.now c.exported.new.faults r) c.in-Some.is (c.in_ok-x.ensures ms h)) (λ y s. c.as_type.ensures c.args.types.now y s)

pub returns-in-None : goal.returns-in-None
returns-in-None c ms h = after_none (OperandStands c.args.types.now) (TypeStands c.args.types.now) (exported ms c.args.at c.args.name.now) (as_type c.args.at) c.args.faults.now c.exported.new.faults
    (subst (λ r. Answers (exported ms c.args.at c.args.name.now) (OperandStands c.args.types.now) c.args.faults.now c.exported.new.faults r) c.in-None.is (c.in_ok-x.ensures ms h))
