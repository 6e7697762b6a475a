use Rattle.std.proofs.Common.{sym, ◌∙◌, rules}
use Rattle.std.proofs.lemmas.Result.{IfOk-weaker}
use Rattle.gno_giving.specs.InTypes.{InTypeStands}
use Rattle.gno_judging.proofs.Answers.{after_none, after_ok, is_not_so, is_so}
use Rattle.gno_judging.specs.Answers.{Answers}
use Rattle.gno_judging.specs.Found.{FormStands}
use Rattle.gno_type_classes.specs.Unnumbered.{unnumbered}
use Rattle.gno_typing.specs.Giving.{IsDefaultConstant, constant_given, held}
use Rattle.gno_typing.specs.Verdicts.{After}
use Rattle.gno_giving.proofs.constants.constant_given.Goals as goal

pub returns-in-Some : goal.returns-in-Some
returns-in-Some c u s basics is default =
    let table = c.args.types.now in
    let part = IsDefaultConstant (unnumbered table) c.args.pos s c.args.value in
    let rest = held (unnumbered table) c.args.code c.args.at u in
    IfOk-weaker c.held.result (λ r. Answers (After part rest) (FormStands table) c.args.faults.now c.held.new.faults r)
    (λ r. Answers (constant_given (unnumbered table) c.args.code c.args.at u c.args.pos s c.args.value) (FormStands table) c.args.faults.now c.held.new.faults r)
    (λ r h. is_so (FormStands table) _ (After part rest) _ _ _ r ((c.is_interface.ensures u is).0 c.if-is_interface.true) h)
    (after_ok (InTypeStands table) (FormStands table) part rest _ _ _ c.held.result c.in-Some.x (c.in-Some.ensures table (unnumbered table) s basics default) (λ y stands. c.held.ensures u y is stands))

pub returns-in-None : goal.returns-in-None
returns-in-None c u s basics is default =
    let table = c.args.types.now in
    is_so (FormStands table) _ (After (IsDefaultConstant (unnumbered table) c.args.pos s c.args.value) (held (unnumbered table) c.args.code c.args.at u)) _ _ _ _ ((c.is_interface.ensures u is).0 c.if-is_interface.true)
    (after_none (InTypeStands table) (FormStands table) _ _ _ _ (c.in-None.ensures table (unnumbered table) s basics default))

pub returns-else-is_interface : goal.returns-else-is_interface
returns-else-is_interface c u s basics is default = is_not_so (FormStands c.args.types.now) _ _ _ _ _ _ (λ p. search (rules, sym c.if-is_interface.false ∙ (c.is_interface.ensures u is).1 p)) (c.constant_in.ensures u is)
