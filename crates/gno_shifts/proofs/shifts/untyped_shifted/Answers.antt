use Rattle.std.proofs.Common.{refl, subst, [], ◌∷◌}
use Rattle.gno_judging.specs.Found.{PendingStands}
use Rattle.gno_judging.specs.Found.{PendingStands as pending, PendingsStand as pendings, ValueStands as value}
use Rattle.gno_judging.specs.Waiting.{IsWaiting as waiting, MayFollow as follow}
use Rattle.gno_operations.proofs.Pendings.{behind_constant}
use Rattle.gno_typing.specs.declared.pending.PendingOf.TheVariants as p
use Rattle.gno_typing.specs.declared.pending.PendingOperationOf.TheVariants as o
use Rattle.gno_typing.specs.declared.value.Waits.TheVariants as waits
use Rattle.gno_shifts.proofs.shifts.untyped_shifted.Goals as goal

pub returns : goal.returns
returns c table y h =
    let x = p.Constant c.args.at c.args.value c.args.rune in
    let z = o.Count c.args.place c.args.operator y in
    value.waiting c.args.place (waits.Integer c.args.place) c.args.calls
    (subst (λ z. PendingStands table c.in_ok-form.form z) (behind_constant c.args.at c.args.value c.args.rune z)
    (c.in_ok-form.ensures table x z (pending.constant c.args.at c.args.value c.args.rune refl refl) (pendings.count c.args.place c.args.operator refl refl h pendings.none)))
    (waiting.shifted c.args.at c.args.value c.args.rune c.args.place c.args.operator y [] refl follow.none)
