use Rattle.std.proofs.Common.{sym, ◌∙◌, false, rules}
use Rattle.std.proofs.lemmas.Result.{IfOk-weaker}
use Rattle.gno_giving.specs.InTypes.{InTypeStands}
use Rattle.gno_judging.proofs.Answers.{after_none, after_ok, is_not_so, is_so}
use Rattle.gno_judging.specs.Answers.{Answers}
use Rattle.gno_judging.specs.Found.{ValueStands}
use Rattle.gno_terms.specs.Lawful.{is_untyped}
use Rattle.gno_terms.specs.Terms.{term_of}
use Rattle.gno_type_classes.specs.Unnumbered.{unnumbered}
use Rattle.gno_typing.specs.Conversions.{constant_to_basic, converted_constant, converted_typed}
use Rattle.gno_typing.specs.Operands.{settled_constant}
use Rattle.gno_typing.specs.Verdicts.{After}
use Rattle.gno_steps.proofs.conversions.converted_constant.Goals as goal

pub returns-then-is_basic : goal.returns-then-is_basic
returns-then-is_basic c u s basics of is =
    let table = c.args.types.now in
    let seen = unnumbered table in
    IfOk-weaker c.constant_to_basic.result (λ r. Answers (constant_to_basic seen c.args.place u c.args.value) (ValueStands table) c.args.faults.now c.constant_to_basic.new.faults r)
    (λ r. Answers (converted_constant seen c.args.place u c.args.pos s c.args.value) (ValueStands table) c.args.faults.now c.constant_to_basic.new.faults r)
    (λ r h. is_so (ValueStands table) _ _ _ _ _ r ((c.is_basic.ensures u of.is).0 c.if-is_basic.true) h) (c.constant_to_basic.ensures u of)

pub returns-in-Some : goal.returns-in-Some
returns-in-Some c u s basics of is =
    let table = c.args.types.now in
    let seen = unnumbered table in
    let part = settled_constant (is_untyped (term_of s)) seen c.args.pos s c.args.value in
    let rest = converted_typed seen c.args.place u false in
    IfOk-weaker c.converted_typed.result (λ r. Answers (After part rest) (ValueStands table) c.args.faults.now c.converted_typed.new.faults r)
    (λ r. Answers (converted_constant seen c.args.place u c.args.pos s c.args.value) (ValueStands table) c.args.faults.now c.converted_typed.new.faults r)
    (λ r h. is_not_so (ValueStands table) _ _ (After part rest) _ _ r (λ p. search (rules, sym c.if-is_basic.false ∙ (c.is_basic.ensures u of.is).1 p)) h)
    (after_ok (InTypeStands table) (ValueStands table) part rest _ _ _ c.converted_typed.result c.in-Some.x (c.in-Some.ensures s basics is) (λ y stands. c.converted_typed.ensures u y of stands))

pub returns-in-None : goal.returns-in-None
returns-in-None c u s basics of is =
    let table = c.args.types.now in
    let seen = unnumbered table in
    let part = settled_constant (is_untyped (term_of s)) seen c.args.pos s c.args.value in
    let rest = converted_typed seen c.args.place u false in
    is_not_so (ValueStands table) _ _ (After part rest) _ _ _ (λ p. search (rules, sym c.if-is_basic.false ∙ (c.is_basic.ensures u of.is).1 p))
    (after_none (InTypeStands table) (ValueStands table) part rest _ _ (c.in-None.ensures s basics is))
