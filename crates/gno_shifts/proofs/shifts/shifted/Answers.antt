use Rattle.std.proofs.Common.{◌≡◌, sym, ap, ◌∙◌, subst, None}
use Rattle.std.specs.Prelude.{IfOk, ◌||◌}
use Rattle.gno_judging.specs.Answers.{Answers}
use Rattle.gno_judging.specs.Found.{ValueStands}
use Rattle.gno_judging.proofs.Answers.{refuses}
use Rattle.gno_judging.proofs.Inversions.{by_constant, by_nil, by_typed, by_waiting}
use Rattle.gno_type_classes.specs.Unnumbered.{unnumbered}
use Rattle.gno_typing.specs.Binary.{calls_in, shifted}
use Rattle.gno_typing.specs.Classes.{IsOf, is_integer}
use Rattle.gno_typing.specs.Giving.{shifted_by}
use Rattle.gno_typing.specs.Verdicts.{good, wants}
use Rattle.gno_typing.specs.declared.value.Standing.TheVariants as standing
use Rattle.gno_typing.specs.declared.value.ValueOf.TheVariants as v
use Rattle.gno_shifts.proofs.shifts.shifted.Goals as goal

pub returns-in-Constant : goal.returns-in-Constant
returns-in-Constant c l r y h by calls stands = by_constant (λ l. IfOk c.constant_shifted.result (λ it. Answers (shifted (unnumbered c.args.types.now) c.args.place c.args.operator l r y) (ValueStands c.args.types.now) c.args.faults.now c.constant_shifted.new.faults it)) c.args.types.now _ _ _ c.args.left l c.in-Constant.is h (λ s is. c.constant_shifted.ensures s r y is by calls stands)

pub returns-in-Nil : goal.returns-in-Nil
returns-in-Nil c l r y h by calls stands = by_nil (λ l. Answers (shifted (unnumbered c.args.types.now) c.args.place c.args.operator l r y) (ValueStands c.args.types.now) c.args.faults.now c.note.new.self None) c.args.types.now _ c.args.left l c.in-Nil.is h (refuses (ValueStands c.args.types.now) 46 c.args.place _ _ c.note.ensures)

pub returns-in-Typed : goal.returns-in-Typed
returns-in-Typed c l r y h by calls stands = by_typed (λ l. IfOk c.typed_shifted.result (λ it. Answers (shifted (unnumbered c.args.types.now) c.args.place c.args.operator l r y) (ValueStands c.args.types.now) c.args.faults.now c.typed_shifted.new.faults it)) c.args.types.now _ _ _ _ _ c.args.left l c.in-Typed.is h
    (λ s form is held. subst (λ b. IfOk c.typed_shifted.result (λ it. Answers (wants (IsOf is_integer (unnumbered c.args.types.now) s) 46 c.args.place (good (v.Typed c.args.place s standing.Result b (shifted_by s c.args.place c.args.operator form y)))) (ValueStands c.args.types.now) c.args.faults.now c.typed_shifted.new.faults it)) (c.either.ensures ∙ ap (λ b. c.in-Typed.more || b) calls) (c.typed_shifted.ensures s form y is held stands))

pub returns-in-Pending : goal.returns-in-Pending
returns-in-Pending c l r y h by calls stands = by_waiting (λ l. IfOk c.waiting_shifted.result (λ it. Answers (shifted (unnumbered c.args.types.now) c.args.place c.args.operator l r y) (ValueStands c.args.types.now) c.args.faults.now c.waiting_shifted.new.faults it)) c.args.types.now _ _ _ _ c.args.left l c.in-Pending.is h (λ form is w. c.waiting_shifted.ensures c.args.types.now (unnumbered c.args.types.now) form r y is w calls stands)
