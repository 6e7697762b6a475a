use Rattle.std.proofs.Common.{sym, ◌∙◌, subst, [], ◌∷◌, Some}
use Rattle.std.specs.Prelude.{IfOk}
use Rattle.gno_judging.specs.Answers.{Answers}
use Rattle.gno_judging.specs.Found.{ValueStands}
use Rattle.gno_judging.specs.Found.{FormStands as form}
use Rattle.gno_judging.specs.Stands.{Stands as stands}
use Rattle.gno_judging.proofs.Answers.{gives}
use Rattle.gno_method_sets.proofs.Answered.{ok_map}
use Rattle.gno_typed.specs.declared.expr.TypedExprOf.TheVariants as w
use Rattle.gno_typing.specs.Binary.{constant_shifted}
use Rattle.gno_typing.specs.Giving.{shifted_by}
use Rattle.gno_typing.specs.Verdicts.{good}
use Rattle.gno_typing.specs.declared.form.FormOf.TheVariants as f
use Rattle.gno_typing.specs.declared.pending.PendingOf.TheVariants as p
use Rattle.gno_typing.specs.declared.pending.PendingOperationOf.TheVariants as o
use Rattle.gno_typing.specs.declared.value.ValueOf.TheVariants as v
use Rattle.gno_typing.specs.declared.value.Waits.TheVariants as waits
use Rattle.gno_shifts.proofs.shifts.constant_by_value.Goals as goal

pub returns-then-is_untyped : goal.returns-then-is_untyped
returns-then-is_untyped c n s y is h = subst (λ b. IfOk c.untyped_shifted.result (λ it. Answers (constant_shifted b c.args.place c.args.operator c.args.at s c.args.value c.args.calls y) (ValueStands c.args.types.now) n n (Some it))) (sym c.if-is_untyped.true ∙ c.is_untyped.ensures s is.is)
    (subst (λ rune. IfOk c.untyped_shifted.result (λ it. Answers (good (v.Pending c.args.place (waits.Integer c.args.place) c.args.calls (p.Chain (p.Constant c.args.at c.args.value rune) (o.Count c.args.place c.args.operator y ∷ [])))) (ValueStands c.args.types.now) n n (Some it))) (c.is_rune-rune.ensures s is.is)
    (ok_map (λ it. ValueStands c.args.types.now it (v.Pending c.args.place (waits.Integer c.args.place) c.args.calls (p.Chain (p.Constant c.args.at c.args.value c.is_rune-rune.result) (o.Count c.args.place c.args.operator y ∷ []))))
    (λ it. Answers (good (v.Pending c.args.place (waits.Integer c.args.place) c.args.calls (p.Chain (p.Constant c.args.at c.args.value c.is_rune-rune.result) (o.Count c.args.place c.args.operator y ∷ [])))) (ValueStands c.args.types.now) n n (Some it)) c.untyped_shifted.result (λ it a. gives (ValueStands c.args.types.now) n it _ a) (c.untyped_shifted.ensures c.args.types.now y h)))

pub returns-in_ok-form : goal.returns-in_ok-form
returns-in_ok-form c n s y is h =
    let typed = sym (c.is_untyped.ensures s is.is) ∙ c.if-is_untyped.false in
    let a = f.Whole (w.Constant c.args.at s c.args.value) in
    subst (λ b. Answers (constant_shifted b c.args.place c.args.operator c.args.at s c.args.value c.args.calls y) (ValueStands c.args.types.now) n n (Some c.result_of.result)) (sym typed)
    (gives (ValueStands c.args.types.now) n _ _ (c.result_of.ensures c.args.types.now s (shifted_by s c.args.place c.args.operator a y) (record { is = is.is; typed = typed })
    (c.in_ok-form.ensures c.args.types.now s a y is.is (form.whole (stands.constant c.args.at c.args.value is.is)) h)))
