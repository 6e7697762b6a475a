use Rattle.std.proofs.Common.{◌≡◌, refl, sym, ap, ◌∙◌, subst, Some, None}
use Rattle.std.specs.Prelude.{◌||◌}
use Rattle.gno_judging.specs.Answers.{Answers}
use Rattle.gno_judging.specs.Found.{ValueStands}
use Rattle.gno_judging.specs.Found.{PendingsStand as pendings, ValueStands as value}
use Rattle.gno_judging.specs.Waiting.{MayFollow as follow}
use Rattle.gno_judging.proofs.Answers.{gives, refuses}
use Rattle.gno_operations.proofs.WaitingGrows.{waiting_grows}
use Rattle.gno_typing.specs.Binary.{shifted}
use Rattle.gno_typing.specs.Forms.{with_pending}
use Rattle.gno_typing.specs.Verdicts.{good}
use Rattle.gno_typing.specs.declared.pending.PendingOperationOf.TheVariants as o
use Rattle.gno_typing.specs.declared.value.ValueOf.TheVariants as v
use Rattle.gno_typing.specs.declared.value.Waits.TheVariants as waits
use Rattle.gno_shifts.proofs.shifts.waiting_shifted.Goals as goal

pub returns-in-Boolean : goal.returns-in-Boolean
returns-in-Boolean c table rules x r y h w calls stands = subst (λ needs. Answers (shifted rules c.args.place c.args.operator (v.Pending c.args.at needs c.args.more x) r y) (ValueStands table) c.args.faults.now c.note.new.self None) (sym c.in-Boolean.is) (refuses (ValueStands table) 46 c.args.place _ _ c.note.ensures)

pub returns-in_ok-form-in-Integer : goal.returns-in_ok-form-in-Integer
returns-in_ok-form-in-Integer c table rules x r y h w calls stands =
    let z = o.Count c.args.place c.args.operator y in
    let a = v.Pending c.args.place (waits.Integer c.in-Integer.first) c.either.result c.in_ok-form-in-Integer.form in
    subst (λ needs. Answers (shifted rules c.args.place c.args.operator (v.Pending c.args.at needs c.args.more x) r y) (ValueStands table) c.args.faults.now c.args.faults.now (Some a)) (sym c.in-Integer.is)
    (subst (λ b. Answers (good (v.Pending c.args.place (waits.Integer c.in-Integer.first) b (with_pending x z))) (ValueStands table) c.args.faults.now c.args.faults.now (Some a)) (c.either.ensures ∙ ap (λ b. c.args.more || b) calls)
    (gives (ValueStands table) c.args.faults.now a (v.Pending c.args.place (waits.Integer c.in-Integer.first) c.either.result (with_pending x z)) (value.waiting c.args.place (waits.Integer c.in-Integer.first) c.either.result
    (c.in_ok-form-in-Integer.ensures table x z h (pendings.count c.args.place c.args.operator refl refl stands pendings.none))
    (waiting_grows x z w (follow.count c.args.place c.args.operator y refl follow.none)))))
