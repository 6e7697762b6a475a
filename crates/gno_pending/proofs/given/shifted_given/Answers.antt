use Rattle.gno_judging.specs.Found.{FormStands}
use Rattle.gno_pending.proofs.Parts.{made_of, made_of_none}
use Rattle.gno_typing.specs.Giving.{shifted_by}
use Rattle.gno_pending.proofs.given.shifted_given.Goals as goal

pub returns-in_ok-form-in-Some : goal.returns-in_ok-form-in-Some
returns-in_ok-form-in-Some c table u y count is h stands = made_of (FormStands table) (FormStands table) (λ a. shifted_by u c.args.pos c.args.operator a count) c.args.x y c.in-Some.x c.in_ok-form-in-Some.form c.in-Some.is h (λ b k. c.in_ok-form-in-Some.ensures table u b count is k stands)

pub returns-in-None : goal.returns-in-None
returns-in-None c table u y count is h stands = made_of_none (FormStands table) (FormStands table) (λ a. shifted_by u c.args.pos c.args.operator a count) c.args.x y c.in-None.is h
