use Rattle.gno_typing.specs.Forms as forms
use Rattle.gno_indexing.proofs.indexes.key_step.Goals as goal

pub returns-in-Ok : goal.returns-in-Ok
returns-in-Ok c table s y k of h key = c.index_step.ensures table s y (forms.closed k) of h (c.in-Ok.ensures.stands table k key)
