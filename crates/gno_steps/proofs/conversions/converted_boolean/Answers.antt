use Rattle.std.proofs.Common.{sym, ◌∙◌, rules}
use Rattle.std.proofs.lemmas.Result.{IfOk-weaker}
use Rattle.gno_judging.proofs.Answers.{is_not_so, is_so}
use Rattle.gno_judging.specs.Answers.{Answers}
use Rattle.gno_judging.specs.Found.{ValueStands}
use Rattle.gno_steps.specs.Converting.{given_converted}
use Rattle.gno_type_classes.specs.Unnumbered.{unnumbered}
use Rattle.gno_typing.specs.Conversions.{converted_boolean, converted_typed}
use Rattle.gno_typing.specs.Giving.{IsDefaulted}
use Rattle.gno_typing.specs.Verdicts.{After}
use Rattle.gno_steps.proofs.conversions.converted_boolean.Goals as goal

pub returns-then-is_boolean : goal.returns-then-is_boolean
returns-then-is_boolean c u y basics of h w =
    let table = c.args.types.now in
    let seen = unnumbered table in
    IfOk-weaker c.given_converted.result (λ r. Answers (given_converted seen c.args.place u c.args.calls y) (ValueStands table) c.args.faults.now c.given_converted.new.faults r)
    (λ r. Answers (converted_boolean seen c.args.place u c.args.calls y) (ValueStands table) c.args.faults.now c.given_converted.new.faults r)
    (λ r k. is_so (ValueStands table) _ _ _ _ _ r ((c.is_boolean.ensures u of.is).0 c.if-is_boolean.true) k) (c.given_converted.ensures u y of h)

pub returns-else-is_boolean : goal.returns-else-is_boolean
returns-else-is_boolean c u y basics of h w =
    let table = c.args.types.now in
    let seen = unnumbered table in
    IfOk-weaker c.default_converted.result (λ r. Answers (After (IsDefaulted seen y) (converted_typed seen c.args.place u c.args.calls)) (ValueStands table) c.args.faults.now c.default_converted.new.faults r)
    (λ r. Answers (converted_boolean seen c.args.place u c.args.calls y) (ValueStands table) c.args.faults.now c.default_converted.new.faults r)
    (λ r k. is_not_so (ValueStands table) _ _ _ _ _ r (λ p. search (rules, sym c.if-is_boolean.false ∙ (c.is_boolean.ensures u of.is).1 p)) k) (c.default_converted.ensures u y basics of h w)
