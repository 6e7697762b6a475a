use Rattle.gno_pending.proofs.forms.joined.Goals as goal

pub returns-in-Ok : goal.returns-in-Ok
returns-in-Ok c table u a b is left right = c.with_right.ensures table u a b is left (c.in-Ok.ensures.stands table b right)
