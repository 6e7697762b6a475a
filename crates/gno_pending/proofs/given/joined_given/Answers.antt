use Rattle.gno_judging.specs.Found.{FormStands}
use Rattle.gno_pending.proofs.Parts.{made_of_both, made_of_no_left, made_of_no_right}
use Rattle.gno_typing.specs.Giving.{joined_by}
use Rattle.gno_pending.proofs.given.joined_given.Goals as goal

pub returns-in_ok-form-in-Some-right : goal.returns-in_ok-form-in-Some-right
returns-in_ok-form-in-Some-right c table u x y is left right = made_of_both (FormStands table) (FormStands table) (FormStands table) (joined_by u c.args.pos c.args.operator) c.args.left x c.args.right y c.in-Some.left c.in-Some-right.right c.in_ok-form-in-Some-right.form c.in-Some.is c.in-Some-right.is left right
    (λ a b h k. c.in_ok-form-in-Some-right.ensures table u a b is h k)

pub returns-in-None-right : goal.returns-in-None-right
returns-in-None-right c table u x y is left right = made_of_no_right (FormStands table) (FormStands table) (FormStands table) (joined_by u c.args.pos c.args.operator) x c.args.right y c.in-None-right.is right

pub returns-in-None : goal.returns-in-None
returns-in-None c table u x y is left right = made_of_no_left (FormStands table) (FormStands table) (FormStands table) (joined_by u c.args.pos c.args.operator) c.args.left x y c.in-None.is left
