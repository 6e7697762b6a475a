use Rattle.std.proofs.Common.{subst}
use Rattle.gno_judging.specs.Answers.{Answers}
use Rattle.gno_judging.specs.Found.{ValueStands}
use Rattle.gno_judging.specs.Stands.{Stands}
use Rattle.gno_judging.proofs.Answers.{after_none, after_ok}
use Rattle.gno_type_classes.specs.Unnumbered.{unnumbered}
use Rattle.gno_typing.specs.Binary.{counted, shifted}
use Rattle.gno_shifts.proofs.shifts.shifted_where_counted.Goals as goal

pub returns-in-Some : goal.returns-in-Some
returns-in-Some c first l r left by calls counts =
    after_ok (Stands c.args.types.now) (ValueStands c.args.types.now) (counted (unnumbered c.args.types.now) c.args.place r) (shifted (unnumbered c.args.types.now) c.args.place c.args.operator l r) first c.args.faults.now c.shifted.new.faults c.shifted.result c.in-Some.count
    (subst (λ x. Answers (counted (unnumbered c.args.types.now) c.args.place r) (Stands c.args.types.now) first c.args.faults.now x) c.in-Some.is counts)
    (λ y stands. c.shifted.ensures l r y left by calls stands)

pub returns-in-None : goal.returns-in-None
returns-in-None c first l r left by calls counts =
    after_none (Stands c.args.types.now) (ValueStands c.args.types.now) (counted (unnumbered c.args.types.now) c.args.place r) (shifted (unnumbered c.args.types.now) c.args.place c.args.operator l r) first c.args.faults.now
    (subst (λ x. Answers (counted (unnumbered c.args.types.now) c.args.place r) (Stands c.args.types.now) first c.args.faults.now x) c.in-None.is counts)
