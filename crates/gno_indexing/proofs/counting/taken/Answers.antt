use Rattle.std.specs.Prelude.{IfOk}
use Rattle.gno_judging.proofs.Inversions.{by_constant, by_waiting}
use Rattle.gno_judging.specs.Answers.{Answers}
use Rattle.gno_judging.specs.Found.{ValueStands}
use Rattle.gno_indexing.proofs.CountingRules.{taken_other}
use Rattle.gno_terms.specs.declared.term.GoType.{GoType}
use Rattle.gno_type_classes.specs.Unnumbered.{unnumbered}
use Rattle.gno_typing.specs.Indexes.{taken}
use Rattle.gno_typing.specs.declared.value.ValueOf.{ValueOf}
use Rattle.gno_indexing.proofs.counting.taken.Goals as goal

pub returns-in-Constant : goal.returns-in-Constant
returns-in-Constant c y basics h = by_constant (λ (y : ValueOf GoType). Answers (taken (unnumbered c.args.types.now) y) (ValueStands c.args.types.now) c.args.faults.now c.constant_taken.new.faults c.constant_taken.result) c.args.types.now
    c.in-Constant.pos c.in-Constant.of c.in-Constant.value c.args.x y c.in-Constant.is h (λ s is. c.constant_taken.ensures s basics is)

pub returns-in-Pending : goal.returns-in-Pending
returns-in-Pending c y basics h = by_waiting (λ (y : ValueOf GoType). IfOk c.pending_taken.result (λ r. Answers (taken (unnumbered c.args.types.now) y) (ValueStands c.args.types.now) c.args.faults.now c.pending_taken.new.faults r)) c.args.types.now
    c.in-Pending.pos c.in-Pending.waits c.in-Pending.calls c.in-Pending.form c.args.x y c.in-Pending.is h (λ b form w. c.pending_taken.ensures b basics form w)

pub returns-in_default : goal.returns-in_default
returns-in_default c y basics h = taken_other c.args.types.now (unnumbered c.args.types.now) c.args.x y c.args.faults.now h c.in_default.not-Constant c.in_default.not-Pending
