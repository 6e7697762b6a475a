use Rattle.std.proofs.Common.{subst}
use Rattle.gno_giving.specs.InTypes.{InTypeStands}
use Rattle.gno_judging.proofs.Answers.{after_none, after_ok}
use Rattle.gno_judging.specs.Answers.{Answers}
use Rattle.gno_judging.specs.Found.{ValueStands}
use Rattle.gno_type_classes.specs.Unnumbered.{unnumbered}
use Rattle.gno_typing.specs.Conversions.{converted_typed}
use Rattle.gno_typing.specs.Giving.{IsDefaulted}
use Rattle.gno_steps.proofs.conversions.default_converted.Goals as goal

pub returns-in-Some : goal.returns-in-Some
returns-in-Some c u y basics of h w =
    let table = c.args.types.now in
    let seen = unnumbered table in
    after_ok (InTypeStands table) (ValueStands table) (IsDefaulted seen y) (converted_typed seen c.args.place u c.args.calls) _ _ _ c.converted_typed.result c.in-Some.it
    (subst (λ r. Answers (IsDefaulted seen y) (InTypeStands table) c.args.faults.now c.defaulted.new.faults r) c.in-Some.is (c.in_ok-it.ensures y basics h w)) (λ z is. c.converted_typed.ensures u z of is)

pub returns-in-None : goal.returns-in-None
returns-in-None c u y basics of h w =
    let table = c.args.types.now in
    let seen = unnumbered table in
    after_none (InTypeStands table) (ValueStands table) (IsDefaulted seen y) (converted_typed seen c.args.place u c.args.calls) _ _
    (subst (λ r. Answers (IsDefaulted seen y) (InTypeStands table) c.args.faults.now c.defaulted.new.faults r) c.in-None.is (c.in_ok-it.ensures y basics h w))
