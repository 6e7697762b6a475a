use Rattle.gno_giving.specs.InTypes.{InTypeStands}
use Rattle.gno_pending.proofs.DefaultedChains.{as_right}
use Rattle.gno_pending.proofs.Parts.{made_of_both, made_of_no_left, made_of_no_right}
use Rattle.gno_pending.proofs.in_types.joined_as_right.Goals as goal

pub returns-in_ok-both-in-Some-right : goal.returns-in_ok-both-in-Some-right
returns-in_ok-both-in-Some-right c table x y left right = made_of_both (InTypeStands table) (InTypeStands table) (InTypeStands table) (as_right c.args.pos c.args.operator) c.args.left x c.args.right y c.in-Some.left c.in-Some-right.right c.in_ok-both-in-Some-right.both c.in-Some.is c.in-Some-right.is left right
    (λ a b h k. c.in_ok-both-in-Some-right.ensures table b.of a b k.of h k)

pub returns-in-None-right : goal.returns-in-None-right
returns-in-None-right c table x y left right = made_of_no_right (InTypeStands table) (InTypeStands table) (InTypeStands table) (as_right c.args.pos c.args.operator) x c.args.right y c.in-None-right.is right

pub returns-in-None : goal.returns-in-None
returns-in-None c table x y left right = made_of_no_left (InTypeStands table) (InTypeStands table) (InTypeStands table) (as_right c.args.pos c.args.operator) c.args.left x y c.in-None.is left
