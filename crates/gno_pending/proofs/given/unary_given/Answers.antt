use Rattle.gno_judging.specs.Found.{FormStands}
use Rattle.gno_pending.proofs.Parts.{made_of, made_of_none}
use Rattle.gno_typed.specs.declared.expr.TypedExprOf.TheVariants as w
use Rattle.gno_typing.specs.Forms.{closed}
use Rattle.gno_typing.specs.declared.form.FormOf.TheVariants as f
use Rattle.gno_pending.proofs.given.unary_given.Goals as goal

pub returns-in_ok-form-in-Some : goal.returns-in_ok-form-in-Some
returns-in_ok-form-in-Some c table u y is h = made_of (FormStands table) (FormStands table) (λ a. f.Whole (w.Unary c.args.pos u c.args.operator (closed a))) c.args.x y c.in-Some.x c.in_ok-form-in-Some.form c.in-Some.is h (λ b k. c.in_ok-form-in-Some.ensures table u b is k)

pub returns-in-None : goal.returns-in-None
returns-in-None c table u y is h = made_of_none (FormStands table) (FormStands table) (λ a. f.Whole (w.Unary c.args.pos u c.args.operator (closed a))) c.args.x y c.in-None.is h
