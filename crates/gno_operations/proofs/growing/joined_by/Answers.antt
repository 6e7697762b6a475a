use Rattle.gno_operations.proofs.growing.joined_by.Goals as goal

pub returns-in-Ok : goal.returns-in-Ok
returns-in-Ok c table u x y is left right = c.with_right.ensures table u x y is left (c.in-Ok.ensures.stands table y right)
