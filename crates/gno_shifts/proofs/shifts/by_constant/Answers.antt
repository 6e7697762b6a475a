use Rattle.std.proofs.Common.{sym, ◌∙◌, rules}
use Rattle.std.proofs.lemmas.Result.{IfOk-weaker}
use Rattle.gno_constants.specs.Exact.{exact}
use Rattle.gno_judging.specs.Answers.{Answers}
use Rattle.gno_judging.specs.Found.{ValueStands}
use Rattle.gno_judging.proofs.Answers.{fails, holds}
use Rattle.gno_type_classes.specs.Unnumbered.{unnumbered}
use Rattle.gno_typing.specs.Binary.{fold_of}
use Rattle.gno_typing.specs.Classes.{IsOf, is_integer}
use Rattle.gno_typing.specs.Unary.{worked_out}
use Rattle.gno_typing.specs.Verdicts.{wants}
use Rattle.gno_shifts.proofs.shifts.by_constant.Goals as goal

pub returns-then-is_integer : goal.returns-then-is_integer
returns-then-is_integer c s is =
    let table = unnumbered c.args.types.now in
    let J = worked_out table c.args.place s (exact (fold_of c.args.operator) c.args.value c.args.by) in
    IfOk-weaker c.constants_shifted.result (λ it. Answers J (ValueStands c.args.types.now) c.args.faults.now c.constants_shifted.new.faults it) (λ it. Answers (wants (IsOf is_integer table s) 46 c.args.place J) (ValueStands c.args.types.now) c.args.faults.now c.constants_shifted.new.faults it)
    (λ it a. holds (ValueStands c.args.types.now) (IsOf is_integer table s) 46 c.args.place J c.args.faults.now c.constants_shifted.new.faults it ((c.is_integer.ensures s is.is).0 c.if-is_integer.true) a) (c.constants_shifted.ensures s is)

pub returns-else-is_integer : goal.returns-else-is_integer
returns-else-is_integer c s is = fails (ValueStands c.args.types.now) _ 46 c.args.place _ _ _ (λ p. search (rules, sym c.if-is_integer.false ∙ (c.is_integer.ensures s is.is).1 p)) c.note.ensures
