use Rattle.std.proofs.Common.{sym, ◌∙◌, rules}
use Rattle.std.proofs.lemmas.Result.{IfOk-weaker}
use Rattle.gno_judging.proofs.Answers.{is_not_so, is_so}
use Rattle.gno_judging.specs.Answers.{Answers}
use Rattle.gno_judging.specs.Found.{FormStands}
use Rattle.gno_type_classes.specs.Unnumbered.{unnumbered}
use Rattle.gno_typing.specs.Giving.{IsDefaulted, held, pending_given}
use Rattle.gno_typing.specs.Verdicts.{After}
use Rattle.gno_values.specs.Pending.{pending_typed}
use Rattle.gno_values.proofs.PendingRules.{pending_by}
use Rattle.gno_values.proofs.places.pending_given.Goals as goal

pub returns-then-is_interface : goal.returns-then-is_interface
returns-then-is_interface c u y basics is h waiting =
    let table = c.args.types.now in
    let seen = unnumbered table in
    let part = After (IsDefaulted seen y) (held seen c.args.code c.args.at u) in
    IfOk-weaker c.default_held.result (λ r. Answers part (FormStands table) c.args.faults.now c.default_held.new.faults r)
    (λ r. Answers (pending_given seen c.args.code c.args.at u c.args.waits y) (FormStands table) c.args.faults.now c.default_held.new.faults r)
    (λ r given. pending_by (λ J. Answers J (FormStands table) c.args.faults.now c.default_held.new.faults r) seen c.args.code c.args.at u c.args.waits y
    (is_so (FormStands table) _ part (pending_typed seen c.args.code c.args.at u c.args.waits y) _ _ r ((c.is_interface.ensures u is).0 c.if-is_interface.true) given)) (c.default_held.ensures u y basics is h waiting)

pub returns-else-is_interface : goal.returns-else-is_interface
returns-else-is_interface c u y basics is h waiting =
    let table = c.args.types.now in
    let seen = unnumbered table in
    let part = After (IsDefaulted seen y) (held seen c.args.code c.args.at u) in
    IfOk-weaker c.pending_typed.result (λ r. Answers (pending_typed seen c.args.code c.args.at u c.args.waits y) (FormStands table) c.args.faults.now c.pending_typed.new.faults r)
    (λ r. Answers (pending_given seen c.args.code c.args.at u c.args.waits y) (FormStands table) c.args.faults.now c.pending_typed.new.faults r)
    (λ r given. pending_by (λ J. Answers J (FormStands table) c.args.faults.now c.pending_typed.new.faults r) seen c.args.code c.args.at u c.args.waits y
    (is_not_so (FormStands table) _ part (pending_typed seen c.args.code c.args.at u c.args.waits y) _ _ r (λ p. search (rules, sym c.if-is_interface.false ∙ (c.is_interface.ensures u is).1 p)) given)) (c.pending_typed.ensures u y is h)
