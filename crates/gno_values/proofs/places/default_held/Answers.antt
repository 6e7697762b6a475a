use Rattle.std.proofs.Common.{subst}
use Rattle.gno_giving.specs.InTypes.{InTypeStands}
use Rattle.gno_judging.proofs.Answers.{after_none, after_ok}
use Rattle.gno_judging.specs.Answers.{Answers}
use Rattle.gno_judging.specs.Found.{FormStands}
use Rattle.gno_type_classes.specs.Unnumbered.{unnumbered}
use Rattle.gno_typing.specs.Giving.{IsDefaulted, held}
use Rattle.gno_values.proofs.places.default_held.Goals as goal

pub returns-in-Some : goal.returns-in-Some
returns-in-Some c u y basics is h waiting =
    let table = c.args.types.now in
    let part = IsDefaulted (unnumbered table) y in
    after_ok (InTypeStands table) (FormStands table) part (held (unnumbered table) c.args.code c.args.at u) c.args.faults.now c.defaulted.new.faults c.held.new.faults c.held.result c.in-Some.y
    (subst (λ r. Answers part (InTypeStands table) c.args.faults.now c.defaulted.new.faults r) c.in-Some.is (c.in_ok-x.ensures y basics h waiting)) (λ z stands. c.held.ensures u z is stands)

pub returns-in-None : goal.returns-in-None
returns-in-None c u y basics is h waiting =
    let table = c.args.types.now in
    let part = IsDefaulted (unnumbered table) y in
    after_none (InTypeStands table) (FormStands table) part (held (unnumbered table) c.args.code c.args.at u) c.args.faults.now c.defaulted.new.faults
    (subst (λ r. Answers part (InTypeStands table) c.args.faults.now c.defaulted.new.faults r) c.in-None.is (c.in_ok-x.ensures y basics h waiting))
