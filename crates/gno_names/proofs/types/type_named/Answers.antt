use Rattle.std.proofs.Common.{subst, None}
use Rattle.gno_judging.specs.Answers.{Answers}
use Rattle.gno_judging.specs.Found.{OperandStands, TypeStands}
use Rattle.gno_judging.proofs.Answers.{after, after_none}
use Rattle.gno_names.proofs.TypeNames.{type_named_is}
use Rattle.gno_tree_typing.specs.WrittenTypes.{as_type}
use Rattle.gno_typing.specs.Names.{named}
use Rattle.gno_names.proofs.types.type_named.Goals as goal

pub returns-in-Some : goal.returns-in-Some
returns-in-Some c ms h = type_named_is (λ J. Answers J (TypeStands c.args.types.now) c.args.faults.now c.as_type.new.faults c.as_type.result) ms c.args.name.now
    (after (OperandStands c.args.types.now) (TypeStands c.args.types.now) (named ms c.args.name.now.pos c.args.name.now.text) (as_type c.args.name.now.pos) c.args.faults.now c.named.new.faults c.as_type.new.faults c.as_type.result c.in-Some.x
    (subst (λ r. Answers (named ms c.args.name.now.pos c.args.name.now.text) (OperandStands c.args.types.now) c.args.faults.now c.named.new.faults r) c.in-Some.is (c.in_ok-x.ensures ms h)) (λ y s. c.as_type.ensures c.args.types.now y s))

pub returns-in-None : goal.returns-in-None
returns-in-None c ms h = type_named_is (λ J. Answers J (TypeStands c.args.types.now) c.args.faults.now c.named.new.faults None) ms c.args.name.now
    (after_none (OperandStands c.args.types.now) (TypeStands c.args.types.now) (named ms c.args.name.now.pos c.args.name.now.text) (as_type c.args.name.now.pos) c.args.faults.now c.named.new.faults
    (subst (λ r. Answers (named ms c.args.name.now.pos c.args.name.now.text) (OperandStands c.args.types.now) c.args.faults.now c.named.new.faults r) c.in-None.is (c.in_ok-x.ensures ms h)))
