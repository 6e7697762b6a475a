use Rattle.gno_giving.specs.InTypes.{InTypeStands}
use Rattle.gno_pending.proofs.Parts.{made_of, made_of_none}
use Rattle.gno_typed.specs.declared.expr.TypedExprOf.TheVariants as w
use Rattle.gno_typing.specs.Forms.{closed}
use Rattle.gno_typing.specs.Giving.{in_type}
use Rattle.gno_typing.specs.declared.form.FormOf.TheVariants as f
use Rattle.gno_pending.proofs.in_types.unary_in_type.Goals as goal

pub returns-in_ok-form-in-Some : goal.returns-in_ok-form-in-Some
returns-in_ok-form-in-Some c table y h = made_of (InTypeStands table) (InTypeStands table) (λ a. in_type a.of (f.Whole (w.Unary c.args.pos a.of c.args.operator (closed a.form)))) c.args.x y c.in-Some.x _ c.in-Some.is h
    (λ b k. record { of = k.of; form = c.in_ok-form-in-Some.ensures table b.of b.form k.of.is k.form })

pub returns-in-None : goal.returns-in-None
returns-in-None c table y h = made_of_none (InTypeStands table) (InTypeStands table) (λ a. in_type a.of (f.Whole (w.Unary c.args.pos a.of c.args.operator (closed a.form)))) c.args.x y c.in-None.is h
