use Rattle.std.specs.Prelude.{IfOk}
use Rattle.gno_judging.proofs.Inversions.{by_constant, by_typed}
use Rattle.gno_judging.specs.Answers.{Answers}
use Rattle.gno_judging.specs.Found.{ValueStands}
use Rattle.gno_indexing.proofs.IndexRules.{indexed_other}
use Rattle.gno_terms.specs.declared.term.GoType.{GoType}
use Rattle.gno_type_classes.specs.Unnumbered.{unnumbered}
use Rattle.gno_typing.specs.Indexes.{indexed}
use Rattle.gno_typing.specs.declared.value.ValueOf.{ValueOf}
use Rattle.gno_indexing.proofs.indexes.indexed.Goals as goal

pub returns-in-Constant : goal.returns-in-Constant
returns-in-Constant c y j basics h k = by_constant (λ (y : ValueOf GoType). IfOk c.indexed_constant.result (λ r. Answers (indexed (unnumbered c.args.types.now) c.args.place y j) (ValueStands c.args.types.now) c.args.faults.now c.indexed_constant.new.faults r)) c.args.types.now
    c.in-Constant.pos c.in-Constant.of c.in-Constant.value c.args.x y c.in-Constant.is h (λ s is. c.indexed_constant.ensures s j basics is k)

pub returns-in-Typed : goal.returns-in-Typed
returns-in-Typed c y j basics h k = by_typed (λ (y : ValueOf GoType). IfOk c.indexed_typed.result (λ r. Answers (indexed (unnumbered c.args.types.now) c.args.place y j) (ValueStands c.args.types.now) c.args.faults.now c.indexed_typed.new.faults r)) c.args.types.now
    c.in-Typed._pos c.in-Typed.of c.in-Typed.standing c.in-Typed.calls c.in-Typed.form c.args.x y c.in-Typed.is h (λ s b own form. c.indexed_typed.ensures s b j basics own form k)

pub returns-in_default : goal.returns-in_default
returns-in_default c y j basics h k = indexed_other c.args.types.now (unnumbered c.args.types.now) c.args.place c.args.x y j _ _ h c.in_default.not-Constant c.in_default.not-Typed c.note.ensures
