use Rattle.gno_judging.specs.Found.{ValueStands as value}
use Rattle.gno_judging.specs.Stands.{StepStands as stands_step}
use Rattle.gno_typed.specs.declared.step.TypedStepOf.TheVariants as step
use Rattle.gno_typing.specs.declared.value.Standing.TheVariants as st
use Rattle.gno_values.proofs.operands.bound_method.Goals as goal

pub returns : goal.returns
returns c table s y d is h way = value.typed c.args.pos st.Result c.args.calls is (c.in_ok-form.ensures.stands table y (step.Bound c.args.pos s d) h (stands_step.bound c.args.pos is.is way))
