use Rattle.std.proofs.Common.{sym, ap, ◌∙◌, subst, Some, None}
use Rattle.std.specs.Prelude.{IfOk}
use Rattle.gno_judging.specs.Answers.{Answers}
use Rattle.gno_judging.specs.Found.{ValueStands}
use Rattle.gno_shifts.proofs.Shifting.{by_a_constant, by_another}
use Rattle.gno_terms.specs.Lawful.{is_untyped}
use Rattle.gno_terms.specs.Terms.{term_of}
use Rattle.gno_type_classes.specs.Unnumbered.{unnumbered}
use Rattle.gno_typing.specs.Binary.{constant_shifted}
use Rattle.gno_typing.specs.Classes.{IsOf, is_integer}
use Rattle.gno_typing.specs.Verdicts.{wants}
use Rattle.gno_shifts.proofs.shifts.constant_shifted.Goals as goal

pub returns-in-Some : goal.returns-in-Some
returns-in-Some c s r y is by calls stands = by_a_constant (λ J. IfOk c.by_constant.result (λ it. Answers J (ValueStands c.args.types.now) c.args.faults.now c.by_constant.new.faults it)) (unnumbered c.args.types.now) c.args.place c.args.operator c.args.at s c.args.value y r c.in-Some.other (sym c.in-Some.is ∙ by) (c.by_constant.ensures s is)

pub returns-in-None : goal.returns-in-None
returns-in-None c s r y is by calls stands = by_another (λ J. IfOk c.by_value.result (λ it. Answers J (ValueStands c.args.types.now) c.args.faults.now c.by_value.new.faults it)) (unnumbered c.args.types.now) c.args.place c.args.operator c.args.at s c.args.value y r (sym c.in-None.is ∙ by)
    (subst (λ calls. IfOk c.by_value.result (λ it. Answers (wants (IsOf is_integer (unnumbered c.args.types.now) s) 46 c.args.place (constant_shifted (is_untyped (term_of s)) c.args.place c.args.operator c.args.at s c.args.value calls y)) (ValueStands c.args.types.now) c.args.faults.now c.by_value.new.faults it)) calls (c.by_value.ensures s y is stands))
