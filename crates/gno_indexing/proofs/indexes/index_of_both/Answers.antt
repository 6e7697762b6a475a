use Rattle.std.proofs.Common.{subst, None}
use Rattle.gno_judging.proofs.Answers.{after_both, left_none, right_none}
use Rattle.gno_judging.specs.Answers.{Answers}
use Rattle.gno_judging.specs.Found.{OperandStands, ValueStands}
use Rattle.gno_indexing.proofs.IndexRules.{the_index}
use Rattle.gno_seen.proofs.OfValues.{as_operand, no_operand}
use Rattle.gno_type_classes.specs.Unnumbered.{unnumbered}
use Rattle.gno_typing.specs.Indexes.{indexed}
use Rattle.gno_typing.specs.Operands.{as_value}
use Rattle.gno_typing.specs.Verdicts.{AfterBoth}
use Rattle.gno_indexing.proofs.indexes.index_of_both.Goals as goal

pub returns-in_ok-found-in-Some-right : goal.returns-in_ok-found-in-Some-right
returns-in_ok-found-in-Some-right c before between y j basics h k =
    let table = c.args.types.now in
    let seen = unnumbered table in
    let left = subst (λ r. Answers (as_value y) (ValueStands table) before between r) c.in-Some.is h in
    let right = subst (λ r. Answers (as_value j) (ValueStands table) between c.args.faults.now r) c.in-Some-right.is k in
    the_index (OperandStands table) seen c.args.place y j _ _ _ (as_operand table (AfterBoth (as_value y) (as_value j) (indexed seen c.args.place)) _ _ _ c.as_operand.result c.as_operand.ensures
    (after_both (ValueStands table) (ValueStands table) (ValueStands table) (as_value y) (as_value j) (indexed seen c.args.place) before between c.args.faults.now _ _ c.in-Some.value c.in-Some-right.at left right (λ b d is own. c.in_ok-found-in-Some-right.ensures b d basics is own)))

pub returns-in-None-right : goal.returns-in-None-right
returns-in-None-right c before between y j basics h k =
    let table = c.args.types.now in
    let seen = unnumbered table in
    let right = subst (λ r. Answers (as_value j) (ValueStands table) between c.args.faults.now r) c.in-None-right.is k in
    the_index (OperandStands table) seen c.args.place y j _ _ _ (no_operand table (AfterBoth (as_value y) (as_value j) (indexed seen c.args.place)) _ _
    (right_none (ValueStands table) (ValueStands table) (ValueStands table) (as_value y) (as_value j) (indexed seen c.args.place) before between c.args.faults.now c.args.left h right))

pub returns-in-None : goal.returns-in-None
returns-in-None c before between y j basics h k =
    let table = c.args.types.now in
    let seen = unnumbered table in
    let left = subst (λ r. Answers (as_value y) (ValueStands table) before between r) c.in-None.is h in
    the_index (OperandStands table) seen c.args.place y j _ _ _ (no_operand table (AfterBoth (as_value y) (as_value j) (indexed seen c.args.place)) _ _
    (left_none (ValueStands table) (ValueStands table) (ValueStands table) (as_value y) (as_value j) (indexed seen c.args.place) before between c.args.faults.now c.args.right left k))
