use Rattle.std.proofs.Common.{sym, ◌∙◌, subst, Some, rules}
use Rattle.gno_judging.specs.Answers.{Answers}
use Rattle.gno_judging.specs.Stands.{Stands}
use Rattle.gno_judging.specs.Stands.{Stands as stands}
use Rattle.gno_judging.proofs.Answers.{fails, gives, holds}
use Rattle.gno_type_classes.specs.Unnumbered.{unnumbered}
use Rattle.gno_typed.specs.declared.expr.TypedExprOf.TheVariants as w
use Rattle.gno_typing.specs.Binary.{counted_constant}
use Rattle.gno_shifts.proofs.shifts.constant_counted.Goals as goal

pub returns-then-not-is_integer : goal.returns-then-not-is_integer
returns-then-not-is_integer c s basics is = fails (Stands c.args.types.now) _ 46 c.args.place _ _ _ (λ p. search (rules, sym c.if-not-is_integer.true ∙ (c.is_integer.ensures s is.is).1 p)) c.note.ensures

pub returns-then-is_negative : goal.returns-then-is_negative
returns-then-is_negative c s basics is = holds (Stands c.args.types.now) _ 46 c.args.place _ _ _ _ ((c.is_integer.ensures s is.is).0 c.if-not-is_integer.false)
    (fails (Stands c.args.types.now) _ 45 c.args.place _ _ _ (λ p. p (c.is_negative.ensures.0 c.if-is_negative.true)) c.note-then-is_negative.ensures)

pub returns-then-is_untyped : goal.returns-then-is_untyped
returns-then-is_untyped c s basics is = holds (Stands c.args.types.now) _ 46 c.args.place _ _ _ _ ((c.is_integer.ensures s is.is).0 c.if-not-is_integer.false)
    (holds (Stands c.args.types.now) _ 45 c.args.place _ _ _ _ (λ p. search (rules, sym c.if-is_negative.false ∙ c.is_negative.ensures.1 p))
    (subst (λ b. Answers (counted_constant b (unnumbered c.args.types.now) c.args.place c.args.at s c.args.value) (Stands c.args.types.now) c.args.faults.now c.untyped_counted.new.faults c.untyped_counted.result) (sym c.if-is_untyped.true ∙ c.is_untyped.ensures s is.is) (c.untyped_counted.ensures c.args.types.now s c.args.place basics)))

pub returns-else-is_untyped : goal.returns-else-is_untyped
returns-else-is_untyped c s basics is = holds (Stands c.args.types.now) _ 46 c.args.place _ _ _ _ ((c.is_integer.ensures s is.is).0 c.if-not-is_integer.false)
    (holds (Stands c.args.types.now) _ 45 c.args.place _ _ _ _ (λ p. search (rules, sym c.if-is_negative.false ∙ c.is_negative.ensures.1 p))
    (subst (λ b. Answers (counted_constant b (unnumbered c.args.types.now) c.args.place c.args.at s c.args.value) (Stands c.args.types.now) c.args.faults.now c.args.faults.now (Some (w.Constant c.args.at c.args.of c.args.value))) (sym c.if-is_untyped.false ∙ c.is_untyped.ensures s is.is) (gives (Stands c.args.types.now) _ _ _ (stands.constant c.args.at c.args.value is.is))))
