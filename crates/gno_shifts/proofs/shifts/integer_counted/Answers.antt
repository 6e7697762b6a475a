use Rattle.std.proofs.Common.{subst, Some, None}
use Rattle.gno_base.specs.declared.kind.Kind.TheVariants as k
use Rattle.gno_judging.specs.Answers.{Answers}
use Rattle.gno_judging.specs.Found.{FormStands}
use Rattle.gno_judging.specs.Stands.{Stands}
use Rattle.gno_judging.proofs.Answers.{after, after_none, gives}
use Rattle.gno_type_classes.specs.Unnumbered.{unnumbered}
use Rattle.gno_typing.specs.Classes.{basic}
use Rattle.gno_typing.specs.Forms.{closed}
use Rattle.gno_typing.specs.Giving.{IsGiven}
use Rattle.gno_typing.specs.Verdicts.{good}
use Rattle.gno_shifts.proofs.shifts.integer_counted.Goals as goal

pub returns-in_ok-count-in-Some : goal.returns-in_ok-count-in-Some
returns-in_ok-count-in-Some c y basics h = after (FormStands c.args.types.now) (Stands c.args.types.now) (IsGiven (unnumbered c.args.types.now) (basic k.Uint) y) (λ x. good (closed x)) _ _ _ _ c.in-Some.form
    (subst (λ r. Answers (IsGiven (unnumbered c.args.types.now) (basic k.Uint) y) (FormStands c.args.types.now) c.args.faults.now c.given_type.new.faults r) c.in-Some.is (c.in_ok-form.ensures (basic k.Uint) y basics.uint h))
    (λ x stands. gives (Stands c.args.types.now) _ _ _ (c.in_ok-count-in-Some.ensures.stands c.args.types.now x stands))

pub returns-in-None : goal.returns-in-None
returns-in-None c y basics h = after_none (FormStands c.args.types.now) (Stands c.args.types.now) (IsGiven (unnumbered c.args.types.now) (basic k.Uint) y) (λ x. good (closed x)) _ _
    (subst (λ r. Answers (IsGiven (unnumbered c.args.types.now) (basic k.Uint) y) (FormStands c.args.types.now) c.args.faults.now c.given_type.new.faults r) c.in-None.is (c.in_ok-form.ensures (basic k.Uint) y basics.uint h))
